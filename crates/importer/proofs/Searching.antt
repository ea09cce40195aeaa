-- A line's search: how many rows it gives and their ids, by the demands on a search; and the outcome by them.
-- Assumes nothing.
use mathlib.Core.Path.{◌≡◌, refl, sym, ap, ap₂, ◌∙◌}
use mathlib.Core.List.{List, [], ◌∷◌, ◌++◌, map}
use Prim.Native.Nat.{ℕ, ◌≤◌}
use native.Mathlib.Omega.{arith}
use lib.ListN.{length, get_or, take, drop, length-map, length-append}
use lib.Seq.{take_at}
use Rattle.words.specs.Words.{name_id}
use Rattle.search.specs.Answers.{Answer, Found, rows_in, search_of, places_given, Columns, room_of, Searched}
use Rattle.statements.proofs.Demands.{searches}
use Rattle.importer.specs.declared.Settings.{Settings}
use Rattle.importer.specs.declared.Outcome.{Outcome}
use Rattle.importer.specs.declared.Outcome.TheVariants.{Belongs, Unresolved, Ambiguous}
use Rattle.importer.specs.Import.{row_room, outcome_from, answer_to, listed_for, outcome_of, typed_in}

-- ---- the rows of a search

-- the rows that are reported are as many as the names that are given: so of every search, by the demands
pub rows_given_lem : (query : List ℕ) (s : Settings) (w : List ℕ) (lent : Columns) → room_of lent ≡ row_room
    → rows_in (answer_to w s query) ≡ length (places_given query s.measure s.p s.q s.allowance w row_room)
rows_given_lem query s w lent room =
    rw room at
    (searches.0 (record { query = query; measure = s.measure; p = s.p; q = s.q; allowance = s.allowance; words = w; lent = lent })).one.given

-- what a search with room for 256 rows leaves: its rows are the first ids
module _ (query : List ℕ) (s : Settings) (w : List ℕ) (before after : Columns) (r : Answer)
    (d : Searched query s.measure s.p s.q s.allowance w before after r) (room : room_of before ≡ row_room) where
  pub searched_answer : r ≡ answer_to w s query
  searched_answer = d.answer ∙ ap (λ (n : ℕ). search_of query s.measure s.p s.q s.allowance w n) room

  -- as many as the names that are given
  rows_so : rows_in r ≡ length (places_given query s.measure s.p s.q s.allowance w row_room)
  rows_so = rw searched_answer (rows_given_lem query s w before room)

  pub searched_ids : take (rows_in r) after.ids ≡ listed_for w s query
  searched_ids =
      let places = places_given query s.measure s.p s.q s.allowance w row_room in
      let e : after.ids ≡ map (name_id w) places ++ drop (length (map (name_id w) places)) before.ids = ap (λ (x : Columns). x.ids) d.columns ∙ (rw room) in
      let n : length (map (name_id w) places) ≡ rows_in r = length-map places (name_id w) ∙ sym rows_so in
      rw e (take_at (map (name_id w) places) (drop (length (map (name_id w) places)) before.ids) (rows_in r) n)

  pub searched_within : rows_in r ≤ length after.ids
  searched_within =
      let places = places_given query s.measure s.p s.q s.allowance w row_room in
      let e : after.ids ≡ map (name_id w) places ++ drop (length (map (name_id w) places)) before.ids = ap (λ (x : Columns). x.ids) d.columns ∙ (rw room) in
      let n : length (map (name_id w) places) ≡ rows_in r = length-map places (name_id w) ∙ sym rows_so in
      let a = ap length e ∙ length-append (map (name_id w) places) (drop (length (map (name_id w) places)) before.ids) in
      omega arith

  -- so the outcome by them is that of the query
  pub searched_outcome : (o : Outcome) → o ≡ outcome_from r (take (rows_in r) after.ids) → o ≡ outcome_from (answer_to w s query) (listed_for w s query)
  searched_outcome o e = e ∙ ap₂ outcome_from searched_answer searched_ids

-- of a line, by its typed name
pub outcome_typed : (words : List ℕ) (s : Settings) (line name : List ℕ) (o : Outcome) → name ≡ typed_in line
    → o ≡ outcome_from (answer_to words s name) (listed_for words s name) → o ≡ outcome_of words s line
unfolding outcome_of
outcome_typed words s line name o e f = f ∙ ap (λ (n : List ℕ). outcome_from (answer_to words s n) (listed_for words s n)) e

-- ---- the outcome by the ids of the rows of an answered search

module _ (rows touches p q : ℕ) where
  pub from_none : (l : List ℕ) → length l ≡ 0 → Unresolved ≡ outcome_from (Found rows touches p q) l
  unfolding outcome_from
  from_none [] e = refl
  from_none (x ∷ l) e = absurd (omega arith)

  pub from_one : (l : List ℕ) → length l ≡ 1 → Belongs (get_or l 0 0) ≡ outcome_from (Found rows touches p q) l
  unfolding outcome_from
  from_one [] e = absurd (omega arith)
  from_one (x ∷ []) e = refl
  from_one (x ∷ y ∷ l) e = absurd (omega arith)

  pub from_many : (l : List ℕ) → 2 ≤ length l → Ambiguous ≡ outcome_from (Found rows touches p q) l
  unfolding outcome_from
  from_many [] h = absurd (omega arith)
  from_many (x ∷ []) h = absurd (omega arith)
  from_many (x ∷ y ∷ l) h = refl
