-- From an import to its lines: a refused one is one line, and the tables of an answered one hold its lines, in order.
-- Assumes nothing.
use mathlib.Core.Path.{◌≡◌, refl, sym, ap, ap₂, ◌∙◌}
use mathlib.Core.Bool.{true, false}
use mathlib.Core.List.{List, [], ◌∷◌, ◌++◌, map, append-nil, append_assoc}
use Prim.Native.Nat.{ℕ, ◌≤◌, ◌<◌}
use native.Mathlib.Omega.{arith}
use lib.ListN.{length, get_or, drop, length-append, length-map, get_or-append}
use lib.Dec.{eqb}
use borrow.Author.Tests.{eq-eqb, ne_eqb}
use Rattle.laws.specs.Lists.{tabulate}
use Rattle.laws.proofs.Images.{get_d_map_lt, tabulate_of}
use Rattle.lines.specs.Lines.{lines_of, joined}
use Rattle.lines.proofs.Cut.{joined_append}
use Rattle.weeks.specs.Pairs.{pairs_of, id_in, week_in, sum_for, count_for, Columns, room_of, columns_of, over, columns_over}
use Rattle.importer.specs.declared.Settings.{Settings}
use Rattle.importer.specs.declared.Outcome.{Outcome}
use Rattle.importer.specs.declared.Outcome.TheVariants.{Unresolved}
use Rattle.importer.specs.Import.{Imported}
use Rattle.importer.specs.Import.{case_of, value_of, most_lines, outcome_of, Outcomes, outcome_room, outcomes_over, outcomes_in, entries_in, imported_of, outcomes_after, pairs_after}
use Rattle.importer.specs.Steps.{Imports}
use Rattle.importer.proofs.Whole.{imported_cases}
use Rattle.reports.specs.Report.{outcome_line, pair_line, end_line, refusal_line, log_part, answer_lines, import_lines}
use Rattle.reports.specs.Tables.{outcome_text, outcome_at, pair_text, pair_at, tables_text}

-- ---- an import that is answered

module _ (log words : List ℕ) (s : Settings) (lines pairs : ℕ) where
  -- its lines and its pairs have room, and it says how many they are
  pub answered_so : (imported_of log words s lines pairs).number ≡ 0
      → (length (lines_of log) ≤ lines) × (length (pairs_of (entries_in log words s)) ≤ pairs)
      × (imported_of log words s lines pairs ≡ record { number = 0; line = 0; lines = length (lines_of log); pairs = length (pairs_of (entries_in log words s)) })
  answered_so =
      imported_cases log words s lines pairs
      (λ (r : Imported). r.number ≡ 0
      → (length (lines_of log) ≤ lines) × (length (pairs_of (entries_in log words s)) ≤ pairs)
      × (r ≡ record { number = 0; line = 0; lines = length (lines_of log); pairs = length (pairs_of (entries_in log words s)) }))
      (λ v a b z. (a, b, refl))
      (λ v f z. absurd (omega arith))
      (λ n z. absurd (n z))

-- ---- the tables of outcomes and pairs

-- a column holds what was given at its start
column_at_lem : {A : Type 0} (f : A → ℕ) (l : List A) (d : A) (s : List ℕ) (k : ℕ) → k < length l → get_or (over (map f l) s) k 0 ≡ f (get_or l k d)
column_at_lem f l d s k h =
    let m = length-map l f in
    get_or-append (map f l) (drop (length (map f l)) s) 0 k (omega arith) ∙ get_d_map_lt f l k d 0 h

outcomes_lines : (os : List Outcome) (o : Outcomes) → tabulate (outcome_at (outcomes_over os o)) (length os) ≡ map outcome_line os
outcomes_lines os o =
    sym (tabulate_of (outcome_at (outcomes_over os o)) (length os) [] (map outcome_line os) (length-map os outcome_line)
    (λ k h. get_d_map_lt outcome_line os k Unresolved [] h
    ∙ sym (λ t. outcome_text (column_at_lem case_of os Unresolved o.cases k h t) (column_at_lem value_of os Unresolved o.values k h t))))

pairs_lines : (es : List ℕ) (c : Columns) → tabulate (pair_at (columns_over (columns_of es) c)) (length (pairs_of es)) ≡ map (pair_line es) (pairs_of es)
pairs_lines es c =
    sym (tabulate_of (pair_at (columns_over (columns_of es) c)) (length (pairs_of es)) [] (map (pair_line es) (pairs_of es)) (length-map (pairs_of es) (pair_line es))
    (λ k h. get_d_map_lt (pair_line es) (pairs_of es) k 0 [] h
    ∙ sym (λ t. pair_text
    (column_at_lem id_in (pairs_of es) 0 c.ids k h t)
    (column_at_lem week_in (pairs_of es) 0 c.weeks k h t)
    (column_at_lem (sum_for es) (pairs_of es) 0 c.sums k h t)
    (column_at_lem (count_for es) (pairs_of es) 0 c.counts k h t))))

-- their text is that of the lines
pub tables_lines : (os : List Outcome) (es : List ℕ) (o : Outcomes) (c : Columns)
    → tables_text (length os) (length (pairs_of es)) (outcomes_over os o) (columns_over (columns_of es) c) ≡ joined (answer_lines os es)
unfolding tables_text answer_lines
tables_lines os es o c =
    let end = end_line (length os) (length (pairs_of es)) in
    ap₂ (λ (x y : List (List ℕ)). (joined x ++ joined y) ++ end) (outcomes_lines os o) (pairs_lines es c)
    ∙ append_assoc (joined (map outcome_line os)) (joined (map (pair_line es) (pairs_of es))) end
    ∙ sym (joined_append (map outcome_line os) (map (pair_line es) (pairs_of es) ++ (end ∷ []))
    ∙ ap (λ (x : List ℕ). joined (map outcome_line os) ++ x) (joined_append (map (pair_line es) (pairs_of es)) (end ∷ []) ∙ ap (λ (x : List ℕ). joined (map (pair_line es) (pairs_of es)) ++ x) (one end)))
  where
    one : (l : List ℕ) → joined (l ∷ []) ≡ l
    one l = unfold joined in append-nil l

-- a column that was written at its start is as long as what was given at least
column_long : {A : Type 0} (f : A → ℕ) (l : List A) (s : List ℕ) → length l ≤ length (over (map f l) s)
column_long f l s =
    let m = length-map l f in
    let n = length-append (map f l) (drop (length (map f l)) s) in
    omega arith

-- ---- an import with room for every outcome and pair

module _ (log words : List ℕ) (s : Settings) (o : Outcomes) (c : Columns) (o' : Outcomes) (c' : Columns) (r : Imported)
    (room : outcome_room o ≡ most_lines) (space : room_of c ≡ most_lines) (i : Imports log words s o c o' c' r) where
  imported : r ≡ imported_of log words s most_lines most_lines
  imported = i.answer ∙ ap₂ (imported_of log words s) room space

  pub refused_line : (r.number ≡ 0 → ⊥) → refusal_line log_part r.number r.line ≡ joined (import_lines log words s)
  unfolding import_lines
  refused_line n =
      let e : eqb (imported_of log words s most_lines most_lines).number 0 ≡ false = ne_eqb _ 0 (λ z. n (ap (λ (x : Imported). x.number) imported ∙ z)) in
      rw e (sym (alone (refusal_line log_part (imported_of log words s most_lines most_lines).number (imported_of log words s most_lines most_lines).line)
      ∙ ap (λ (x : Imported). refusal_line log_part x.number x.line) (sym imported)))
    where
      alone : (l : List ℕ) → joined (l ∷ []) ≡ l
      alone l = unfold joined in append-nil l

  module _ (z : r.number ≡ 0) where
    number_0 : (imported_of log words s most_lines most_lines).number ≡ 0
    number_0 = sym (ap (λ (x : Imported). x.number) imported) ∙ z

    form : r ≡ record { number = 0; line = 0; lines = length (lines_of log); pairs = length (pairs_of (entries_in log words s)) }
    form = imported ∙ (answered_so log words s most_lines most_lines number_0).2

    given : eqb (imported_of log words s (outcome_room o) (room_of c)).number 0 ≡ true
    given = eq-eqb _ 0 (sym (ap (λ (x : Imported). x.number) i.answer) ∙ z)

    after_outcomes : o' ≡ outcomes_over (outcomes_in log words s) o
    after_outcomes = i.outcomes ∙ unfold outcomes_after in (rw given)

    after_pairs : c' ≡ columns_over (columns_of (entries_in log words s)) c
    after_pairs = i.pairs ∙ unfold pairs_after in (rw given)

    count : length (outcomes_in log words s) ≡ r.lines
    count = length-map (lines_of log) (outcome_of words s) ∙ sym (ap (λ (x : Imported). x.lines) form)

    pairs_count : length (pairs_of (entries_in log words s)) ≡ r.pairs
    pairs_count = sym (ap (λ (x : Imported). x.pairs) form)

    -- within the tables
    pub few : (r.lines ≤ most_lines) × (r.lines ≤ outcome_room o') × (r.pairs ≤ most_lines) × (r.pairs ≤ room_of c')
    few =
        let a = answered_so log words s most_lines most_lines number_0 in
        let a0 = a.0 in
        let a1 = a.1 in
        let e = ap (λ (x : Imported). x.lines) form in
        let n = count in
        let m = pairs_count in
        let os = outcomes_in log words s in
        let ps = pairs_of (entries_in log words s) in
        let l1 = column_long case_of os o.cases in
        let l2 = column_long value_of os o.values in
        let k1 = column_long id_in ps c.ids in
        let k2 = column_long week_in ps c.weeks in
        let k3 = column_long (sum_for (entries_in log words s)) ps c.sums in
        let k4 = column_long (count_for (entries_in log words s)) ps c.counts in
        (omega arith, rw after_outcomes (omega arith), omega arith, rw after_pairs (omega arith))

    pub answered_text : tables_text r.lines r.pairs o' c' ≡ joined (import_lines log words s)
    answered_text =
        let a : tables_text r.lines r.pairs o' c' ≡ joined (answer_lines (outcomes_in log words s) (entries_in log words s)) =
        rw (after_outcomes, after_pairs, ← count, ← pairs_count) (tables_lines (outcomes_in log words s) (entries_in log words s) o c) in
        let b : joined (answer_lines (outcomes_in log words s) (entries_in log words s)) ≡ joined (import_lines log words s) =
        unfold import_lines in (rw (eq-eqb (imported_of log words s most_lines most_lines).number 0 number_0)) in
        a ∙ b
