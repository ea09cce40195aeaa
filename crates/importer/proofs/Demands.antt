-- The demands on an import: specs/Demands.antt says what, this file shows it from the definitions and the theorems of `statements` and `weeks`.
-- Assumes nothing.
use mathlib.Core.Path.{◌≡◌, refl, sym, ap, ap₂, ◌∙◌}
use mathlib.Core.Bool.{true}
use mathlib.Core.List.{List, [], ◌∷◌, ◌++◌, map, append_assoc}
use Prim.Native.Nat.{ℕ, ◌+◌, ◌<◌}
use native.Mathlib.Omega.{arith}
use lib.ListN.{length, get_or, drop, length-map}
use lib.Seq.{take_at, get_or-take}
use Rattle.laws.specs.Lists.{member, Ascending, sum_of}
use Rattle.laws.specs.Sort.{sort_of}
use Rattle.laws.proofs.Members.{member_place}
use Rattle.laws.proofs.Sort.{sort_append, sort_append_swap}
use Rattle.fields.specs.Layouts.{is_frame}
use Rattle.log_frames.specs.Frames.{log_frame}
use Rattle.words.specs.Words.{name_id}
use Rattle.register.specs.Build.{words_after}
use Rattle.search.specs.Answers.{rows_in, places_given}
use Rattle.statements.specs.Demands.{columns, answer, number, after, Answered, Demand2, row_ids}
use Rattle.statements.proofs.Demands.{searches}
use Rattle.statements.proofs.Building.{end_to_end as lookup-end-to-end}
use Rattle.statements.proofs.LogFrames.{log_frames}
use Rattle.weeks.specs.Pairs.{missing, week_of, pair_of, entry_of, pair_in, reading_in, amount, tally, sum_for, count_for, columns_of}
use Rattle.weeks.proofs.Laws.{columns_order, amount_present, amount_missing, tally_present, tally_missing}
use Rattle.importer.specs.declared.Settings.{Settings}
use Rattle.importer.specs.declared.Outcome.{Outcome}
use Rattle.importer.specs.declared.Outcome.TheVariants.{Belongs, Unresolved, Ambiguous, Refused}
use Rattle.importer.specs.Import.{typed_in, row_room, outcome_from, answer_to, listed_for, outcome_of, day_in, reading_in as reading_of, entry_from, entry_in, entries_of}
use Rattle.importer.specs.Demands.{question_of, Lines, EndToEnd, Reordered, none, keep, swap, then, Orders, Adds, Missing}
use Rattle.importer.proofs.Searching.{rows_given_lem}
use Rattle.importer.proofs.Telling.{tells}

-- ---- a line

module _ (words : List ℕ) (s : Settings) (line : List ℕ) where
  -- the ids of the rows are those that the outcome goes by
  row_ids_lem : row_ids columns (question_of words s line) ≡ listed_for words s (typed_in line)
  row_ids_lem =
      let places = places_given (typed_in line) s.measure s.p s.q s.allowance words row_room in
      let n : length (map (name_id words) places) ≡ rows_in (answer_to words s (typed_in line)) = length-map places (name_id words) ∙ sym (rows_given_lem (typed_in line) s words (question_of words s line).lent refl) in
      take_at (map (name_id words) places) (drop (length (map (name_id words) places)) (question_of words s line).lent.ids) (rows_in (answer_to words s (typed_in line))) n

  -- what the demands on a search say of them
  ascending_listed : Demand2 columns (question_of words s line) → Ascending (listed_for words s (typed_in line))
  ascending_listed d = rw row_ids_lem at d.ascending

  -- each is a row's
  listed_row : Demand2 columns (question_of words s line) → (x : ℕ) → member x (listed_for words s (typed_in line)) ≡ true
      → (j : ℕ) × (j < rows_in (answer columns (question_of words s line))) × (get_or (after columns (question_of words s line)).ids j 0 ≡ x)
  listed_row d x m =
      let p = member_place x (row_ids columns (question_of words s line)) (rw row_ids_lem m) in
      let r = d.rows in
      let b : p.0 < rows_in (answer columns (question_of words s line)) = omega arith in
      (p.0, b, sym (get_or-take (rows_in (answer columns (question_of words s line))) (after columns (question_of words s line)).ids p.0 0 b) ∙ p.2)

  module _ (f : is_frame log_frame line ≡ true) where
    demand2 : Answered columns (question_of words s line) → Demand2 columns (question_of words s line)
    demand2 a = (searches.0 (question_of words s line)).two (log_frames.log_bytes line f).0 a

    judged : number columns (question_of words s line) ≡ 0 → Answered columns (question_of words s line)
    judged z = sym (searches.0 (question_of words s line)).one.judged ∙ z

    judged_back : Answered columns (question_of words s line) → number columns (question_of words s line) ≡ 0
    judged_back a = (searches.0 (question_of words s line)).one.judged ∙ a

pub lines : Lines
unfolding outcome_of
lines words s line f =
    tells _ _ _ _ (answer_to words s (typed_in line)) (listed_for words s (typed_in line)) (judged words s line f) (judged_back words s line f) (searches.0 (question_of words s line)).one.numbered
    (λ a i h. rw (row_ids_lem words s line) at ((demand2 words s line f a).exactly i h))
    (λ a x m.
    let d = demand2 words s line f a in
    let j = listed_row words s line d x m in
    let t = d.true_rows j.0 j.1 in
    (t.0, t.1, sym t.2 ∙ j.2))
    (λ a. ascending_listed words s line (demand2 words s line f a))

pub end_to_end : EndToEnd
unfolding outcome_of
end_to_end register words s line f b =
    let w = words_after register words in
    tells _ _ _ _ (answer_to w s (typed_in line)) (listed_for w s (typed_in line)) (judged w s line f) (judged_back w s line f) (searches.0 (question_of w s line)).one.numbered
    (λ a i h. rw (row_ids_lem w s line) at (((lookup-end-to-end register words).0 (question_of words s line) (log_frames.log_bytes line f).0 b a).exactly i h))
    (λ a x m.
    let j = listed_row w s line (demand2 w s line f a) x m in
    let t = ((lookup-end-to-end register words).0 (question_of words s line) (log_frames.log_bytes line f).0 b a).true_rows j.0 j.1 in
    (t.0, t.1, sym t.2 ∙ j.2))
    (λ a. ascending_listed w s line (demand2 w s line f a))

-- ---- the order of lines

front : (a k l : List ℕ) → sort_of k ≡ sort_of l → sort_of (a ++ k) ≡ sort_of (a ++ l)
front a k l e = sort_append a k ∙ ap (λ (x : List ℕ). sort_of (sort_of a ++ x)) e ∙ sym (sort_append a l)

exchanged : (a b l : List ℕ) → sort_of (a ++ (b ++ l)) ≡ sort_of (b ++ (a ++ l))
exchanged a b l =
    ap sort_of (sym (append_assoc a b l))
    ∙ sort_append (a ++ b) l
    ∙ ap (λ (x : List ℕ). sort_of (x ++ sort_of l)) (sort_append_swap a b)
    ∙ sym (sort_append (b ++ a) l)
    ∙ ap sort_of (append_assoc b a l)

module _ (words : List ℕ) (s : Settings) where
  same_sorted : {k l : List (List ℕ)} → Reordered k l → sort_of (entries_of words s k) ≡ sort_of (entries_of words s l)
  unfolding entries_of
  same_sorted none = refl
  same_sorted (keep {x} {k} {l} r) = front (entry_in words s x) (entries_of words s k) (entries_of words s l) (same_sorted r)
  same_sorted (swap {x} {y} {l}) = exchanged (entry_in words s x) (entry_in words s y) (entries_of words s l)
  same_sorted (then r t) = same_sorted r ∙ same_sorted t

  -- ---- a line that does not belong

  entry_none : (o : Outcome) (day reading : ℕ) → ((id : ℕ) → o ≡ Belongs id → ⊥) → entry_from o day reading ≡ []
  unfolding entry_from
  entry_none (Belongs id) day reading n = absurd (n id refl)
  entry_none Unresolved day reading n = refl
  entry_none Ambiguous day reading n = refl
  entry_none (Refused number) day reading n = refl

  left_out : (k l : List (List ℕ)) (line : List ℕ) → ((id : ℕ) → outcome_of words s line ≡ Belongs id → ⊥)
      → entries_of words s (k ++ (line ∷ l)) ≡ entries_of words s (k ++ l)
  unfolding entries_of
  left_out [] l line n = ap (λ (x : List ℕ). x ++ entries_of words s l) (entry_none (outcome_of words s line) (day_in line) (reading_of line) n)
  left_out (x ∷ k) l line n = ap (λ (y : List ℕ). entry_in words s x ++ y) (left_out k l line n)

pub orders : Orders
orders words s k l r = columns_order (entries_of words s k) (entries_of words s l) (same_sorted words s r)

pub adds : Adds
adds words s k l line n = ap columns_of (left_out words s k l line n)

-- ---- a missing reading

sum_middle : (f : ℕ → ℕ) (k l : List ℕ) (e : ℕ) → sum_of (map f (k ++ (e ∷ l))) ≡ f e + sum_of (map f (k ++ l))
unfolding sum_of
sum_middle f [] l e = refl
sum_middle f (x ∷ k) l e = let h = sum_middle f k l e in omega arith

-- of entries
one_more : (k l : List ℕ) (pair : ℕ)
    → (count_for (k ++ (entry_of pair 0 ∷ l)) pair ≡ count_for (k ++ (entry_of pair missing ∷ l)) pair + 1)
    × (sum_for (k ++ (entry_of pair 0 ∷ l)) pair ≡ sum_for (k ++ (entry_of pair missing ∷ l)) pair)
one_more k l pair =
    let a = sum_middle (tally pair) k l (entry_of pair 0) in
    let b = sum_middle (tally pair) k l (entry_of pair missing) in
    let c = sum_middle (amount pair) k l (entry_of pair 0) in
    let d = sum_middle (amount pair) k l (entry_of pair missing) in
    let e : pair_in (entry_of pair 0) ≡ pair = omega arith in
    let z : reading_in (entry_of pair 0) ≡ 0 = omega arith in
    let m : reading_in (entry_of pair missing) ≡ missing = omega arith in
    let n : reading_in (entry_of pair 0) ≡ missing → ⊥ = λ q. omega arith in
    let p : tally pair (entry_of pair 0) ≡ 1 = rw e at (tally_present (entry_of pair 0) n) in
    let q = tally_missing pair (entry_of pair missing) m in
    let r : amount pair (entry_of pair 0) ≡ reading_in (entry_of pair 0) = rw e at (amount_present (entry_of pair 0) n) in
    let t = amount_missing pair (entry_of pair missing) m in
    (omega arith, omega arith)

module _ (words : List ℕ) (s : Settings) where
  -- the entry of a line that belongs, among the others
  entry_middle : (k l : List (List ℕ)) (line : List ℕ) (id : ℕ) → outcome_of words s line ≡ Belongs id
      → entries_of words s (k ++ (line ∷ l)) ≡ entries_of words s k ++ (entry_of (pair_of id (week_of (day_in line))) (reading_of line) ∷ entries_of words s l)
  unfolding entries_of entry_from
  entry_middle [] l line id e = ap (λ (o : Outcome). entry_from o (day_in line) (reading_of line) ++ entries_of words s l) e
  entry_middle (x ∷ k) l line id e =
      ap (λ (y : List ℕ). entry_in words s x ++ y) (entry_middle k l line id e)
      ∙ sym (append_assoc (entry_in words s x) (entries_of words s k) (entry_of (pair_of id (week_of (day_in line))) (reading_of line) ∷ entries_of words s l))

  -- the outcome goes by the typed name alone
  same_outcome : (line other : List ℕ) → typed_in other ≡ typed_in line → outcome_of words s other ≡ outcome_of words s line
  unfolding outcome_of
  same_outcome line other e = ap (λ (n : List ℕ). outcome_from (answer_to words s n) (listed_for words s n)) e

pub missing_is_not_0 : Missing
missing_is_not_0 words s k l line other id e typed day m z =
    let pair = pair_of id (week_of (day_in line)) in
    let a : entries_of words s (k ++ (line ∷ l)) ≡ entries_of words s k ++ (entry_of pair missing ∷ entries_of words s l) =
    entry_middle words s k l line id e ∙ ap (λ (r : ℕ). entries_of words s k ++ (entry_of pair r ∷ entries_of words s l)) m in
    let b : entries_of words s (k ++ (other ∷ l)) ≡ entries_of words s k ++ (entry_of pair 0 ∷ entries_of words s l) =
    entry_middle words s k l other id (same_outcome words s line other typed ∙ e)
    ∙ ap₂ (λ (d r : ℕ). entries_of words s k ++ (entry_of (pair_of id (week_of d)) r ∷ entries_of words s l)) day z in
    rw (a, b) (one_more (entries_of words s k) (entries_of words s l) pair)
