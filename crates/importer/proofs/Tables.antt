-- The tables of outcomes and entries with one line more.
-- Assumes nothing.
use mathlib.Core.Path.{◌≡◌, refl, sym, ap, ap₂, ◌∙◌}
use mathlib.Core.List.{List, [], ◌∷◌, ◌++◌, map, map-append, append-nil, append_assoc}
use Prim.Native.Nat.{ℕ, suc, ◌+◌, ◌≤◌, ◌<◌}
use native.Mathlib.Numerals.{add-one}
use native.Mathlib.Omega.{arith}
use lib.ListN.{length, get_or, set, take, drop, length-append, length-map, length-drop, length-set}
use lib.Seq.{take-suc, take-suc-set, take_all, drop-cons, set_at, length-take-le}
use Rattle.lines.specs.Lines.{lines_of}
use Rattle.weeks.specs.Pairs.{week_of, pair_of, entry_of, over}
use Rattle.importer.specs.declared.Settings.{Settings}
use Rattle.importer.specs.declared.Outcome.{Outcome}
use Rattle.importer.specs.declared.Outcome.TheVariants.{Belongs, Unresolved, Ambiguous, Refused}
use Rattle.importer.specs.Import.{day_in, reading_in, outcome_of, case_of, value_of, entry_from, entry_in, entries_of, Outcomes, as_outcomes, outcomes_over}
use Rattle.importer.specs.Steps.{Entered, Taken}

-- ---- one number more over a list

pub over_snoc : (l a : List ℕ) (n x : ℕ) → length l ≡ n → n < length a → set (over l a) n x ≡ over (l ++ (x ∷ [])) a
over_snoc l a n x e h =
    let m : length (l ++ (x ∷ [])) ≡ suc n = length-append l (x ∷ []) ∙ (omega arith) in
    rw (m, e, drop-cons a n 0 h, set_at l (get_or a n 0) (drop (suc n) a) x n e) (sym (append_assoc l (x ∷ []) (drop (suc n) a)))

pub length_over : (l a : List ℕ) → length l ≤ length a → length (over l a) ≡ length a
length_over l a h = let m = length-append l (drop (length l) a) in let n = length-drop (length l) a in omega arith

-- the first numbers of a table, put over a list
pub put_over : (n : ℕ) (table column part : List ℕ) → part ≡ take n table → n ≤ length table → part ++ drop n column ≡ over (take n table) column
put_over n table column part e h = let m : length (take n table) ≡ n = length-take-le n table h in rw (e, m)

-- ---- an entry

-- none or one
pub entry_few : (o : Outcome) (day reading : ℕ) → length (entry_from o day reading) ≤ 1
unfolding entry_from
entry_few (Belongs id) day reading = omega arith
entry_few Unresolved day reading = omega arith
entry_few Ambiguous day reading = omega arith
entry_few (Refused number) day reading = omega arith

-- as the code puts it: an id's entry, and of any other outcome none
pub entered : (o : Outcome) (id day reading k : ℕ) (before : List ℕ) (x : ℕ) → k < length before → o ≡ Belongs id → x ≡ entry_of (pair_of id (week_of day)) reading
    → Entered o day reading k before (set before k x) (k + 1)
unfolding entry_from
entered o id day reading k before x h b e = record { entries = rw (b, add-one, e) (take-suc-set before k (entry_of (pair_of id (week_of day)) reading) h); count = rw b; room = length-set before k x }

pub not_entered : (o : Outcome) (day reading k : ℕ) (before : List ℕ) → ((id : ℕ) → o ≡ Belongs id → ⊥) → Entered o day reading k before before k
unfolding entry_from
not_entered (Belongs id) day reading k before n = absurd (n id refl)
not_entered Unresolved day reading k before n = record { entries = rw append-nil; count = omega arith; room = refl }
not_entered Ambiguous day reading k before n = record { entries = rw append-nil; count = omega arith; room = refl }
not_entered (Refused number) day reading k before n = record { entries = rw append-nil; count = omega arith; room = refl }

module _ (words : List ℕ) (s : Settings) where
  pub entries_snoc : (ls : List (List ℕ)) (l : List ℕ) → entries_of words s (ls ++ (l ∷ [])) ≡ entries_of words s ls ++ entry_in words s l
  unfolding entries_of
  entries_snoc [] l = append-nil (entry_in words s l)
  entries_snoc (x ∷ ls) l =
      ap (λ (t : List ℕ). entry_in words s x ++ t) (entries_snoc ls l) ∙ sym (append_assoc (entry_in words s x) (entries_of words s ls) (entry_in words s l))

  pub entries_few : (ls : List (List ℕ)) → length (entries_of words s ls) ≤ length ls
  unfolding entries_of
  entries_few [] = omega arith
  entries_few (l ∷ ls) =
      let a = entry_few (outcome_of words s l) (day_in l) (reading_in l) in
      let b = entries_few ls in
      let c = length-append (entry_in words s l) (entries_of words s ls) in
      omega arith

-- ---- the loop

-- after n lines the tables start with their outcomes and their entries
pub record Told (lines : List (List ℕ)) (words : List ℕ) (s : Settings) (n : ℕ) (o₀ o : Outcomes) (e : List ℕ) (k : ℕ) : Type 0 where
  pub outcomes : o ≡ outcomes_over (map (outcome_of words s) (take n lines)) o₀
  pub entries : take k e ≡ entries_of words s (take n lines)
  pub count : k ≡ length (entries_of words s (take n lines))

pub told_nil : (lines : List (List ℕ)) (words : List ℕ) (s : Settings) (o₀ : Outcomes) (e : List ℕ) → Told lines words s 0 o₀ o₀ e 0
unfolding entries_of
told_nil lines words s o₀ e = record { outcomes = refl; entries = refl; count = refl }

module _ (lines : List (List ℕ)) (words : List ℕ) (s : Settings) (n : ℕ) (o₀ o : Outcomes) (e : List ℕ) (k : ℕ) (t : Told lines words s n o₀ o e k)
    (h : n ≤ length lines) where
  outcomes_length : length (map (outcome_of words s) (take n lines)) ≡ n
  outcomes_length = length-map (take n lines) (outcome_of words s) ∙ length-take-le n lines h

  pub told_few : k ≤ n
  told_few = let a = entries_few words s (take n lines) in let b = length-take-le n lines h in let c = t.count in omega arith

  pub told_lengths : n ≤ length o₀.cases → n ≤ length o₀.values → (length o.cases ≡ length o₀.cases) × (length o.values ≡ length o₀.values)
  told_lengths a b =
      let m = outcomes_length in
      let x = length-map (map (outcome_of words s) (take n lines)) case_of in
      let y = length-map (map (outcome_of words s) (take n lines)) value_of in (
        ap (λ (r : Outcomes). length r.cases) t.outcomes ∙ length_over (map case_of (map (outcome_of words s) (take n lines))) o₀.cases (omega arith),
        ap (λ (r : Outcomes). length r.values) t.outcomes ∙ length_over (map value_of (map (outcome_of words s) (take n lines))) o₀.values (omega arith),
      )

  -- one line more
  pub told_next : n < length lines → (line : List ℕ) (x : Outcome) (day reading : ℕ) → line ≡ get_or lines n []
      → x ≡ outcome_of words s line → day ≡ day_in line → reading ≡ reading_in line
      → n < length o₀.cases → n < length o₀.values
      → (e' : List ℕ) (k' : ℕ) → Entered x day reading k e e' k'
      → Told lines words s (n + 1) o₀ (as_outcomes (set o.cases n (case_of x)) (set o.values n (value_of x))) e' k'
  told_next b line x day reading el ex ed er p q e' k' d =
      let ls : take (n + 1) lines ≡ take n lines ++ (line ∷ []) = rw (add-one, el) (take-suc lines n [] b) in
      let mo : map (outcome_of words s) (take (n + 1) lines) ≡ map (outcome_of words s) (take n lines) ++ (x ∷ []) = ap (map (outcome_of words s)) ls ∙ map-append (outcome_of words s) (take n lines) (line ∷ []) ∙ (rw ex) in
      let es : entries_of words s (take (n + 1) lines) ≡ entries_of words s (take n lines) ++ entry_from x day reading = ap (entries_of words s) ls ∙ entries_snoc words s (take n lines) line ∙ (rw (ex, ed, er)) in
      let kc = t.count in
      record {
        outcomes = rw mo (ap₂ as_outcomes
            (ap (λ (r : Outcomes). set r.cases n (case_of x)) t.outcomes ∙ column x case_of o₀.cases p)
            (ap (λ (r : Outcomes). set r.values n (value_of x)) t.outcomes ∙ column x value_of o₀.values q));
        entries = rw es (d.entries ∙ ap (λ (r : List ℕ). r ++ entry_from x day reading) t.entries);
        count = rw es (d.count ∙ ap (λ (r : ℕ). r + length (entry_from x day reading)) kc ∙ sym (length-append (entries_of words s (take n lines)) (entry_from x day reading)));
      }
    where
      column : (x : Outcome) (f : Outcome → ℕ) (col : List ℕ) → n < length col
          → set (over (map f (map (outcome_of words s) (take n lines))) col) n (f x) ≡ over (map f (map (outcome_of words s) (take n lines) ++ (x ∷ []))) col
      column x f col l =
          let y = length-map (map (outcome_of words s) (take n lines)) f in
          let m = outcomes_length in
          over_snoc (map f (map (outcome_of words s) (take n lines))) col n (f x) (omega arith) l
          ∙ ap (λ (r : List ℕ). over r col) (sym (map-append f (map (outcome_of words s) (take n lines)) (x ∷ [])))

-- with the numbers of the outcome as the code has them
pub told_turn : (lines : List (List ℕ)) (words : List ℕ) (s : Settings) (n : ℕ) (o₀ o : Outcomes) (e : List ℕ) (k : ℕ) (t : Told lines words s n o₀ o e k)
    → n < length lines → (line : List ℕ) (x : Outcome) (day reading a b : ℕ) → line ≡ get_or lines n []
    → x ≡ outcome_of words s line → day ≡ day_in line → reading ≡ reading_in line → a ≡ case_of x → b ≡ value_of x
    → n < length o₀.cases → n < length o₀.values
    → (e' : List ℕ) (k' : ℕ) → Entered x day reading k e e' k'
    → Told lines words s (n + 1) o₀ (as_outcomes (set o.cases n a) (set o.values n b)) e' k'
told_turn lines words s n o₀ o e k t h line x day reading a b el ex ed er ea eb p q e' k' d =
    rw (ea, eb) (told_next lines words s n o₀ o e k t (omega arith) h line x day reading el ex ed er p q e' k' d)

-- where the next line and its entry go
pub told_room : (lines : List (List ℕ)) (words : List ℕ) (s : Settings) (n : ℕ) (o₀ o : Outcomes) (e : List ℕ) (k : ℕ) → Told lines words s n o₀ o e k
    → n < length lines → n < 1024 → length o₀.cases ≡ 1024 → length o₀.values ≡ 1024 → length e ≡ 1024
    → (n < length o.cases) × (n < length o.values) × (k < length e)
told_room lines words s n o₀ o e k t h l a b c =
    let m = told_lengths lines words s n o₀ o e k t (omega arith) (omega arith) (omega arith) in
    let f = told_few lines words s n o₀ o e k t (omega arith) in
    let x = m.0 in
    let y = m.1 in
    (omega arith, omega arith, omega arith)

pub told_all : (log words : List ℕ) (s : Settings) (n : ℕ) (o₀ o : Outcomes) (e : List ℕ) (k : ℕ) → n ≡ length (lines_of log)
    → Told (lines_of log) words s n o₀ o e k → Taken log words s o₀ o e k
told_all log words s n o₀ o e k q t =
    let a : take n (lines_of log) ≡ lines_of log = take_all n (lines_of log) (omega arith) in
    record { outcomes = rw a at t.outcomes; entries = rw a at t.entries; count = rw a at t.count }

pub taken_few : (log words : List ℕ) (s : Settings) (before after : Outcomes) (e : List ℕ) (k : ℕ) → Taken log words s before after e k
    → length (lines_of log) ≤ 1024 → k ≤ 1024
taken_few log words s before after e k t h = let a = entries_few words s (lines_of log) in let b = t.count in omega arith
