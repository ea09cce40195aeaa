-- An import with room for 1,024 outcomes and as many pairs has enough; and the longest output, so that a buffer of so many bytes holds every one.
-- Cited by the program.
-- Assumes nothing.
use mathlib.Core.Path.{◌≡◌, refl, sym, ap, ◌∙◌}
use mathlib.Core.Logic.{⊎_elim}
use mathlib.Core.Bool.{Bool, true, false, cond, not, false≢true}
use mathlib.Core.List.{List, [], ◌∷◌, map, append-nil}
use Prim.Native.Nat.{ℕ, ◌+◌, ◌≤◌}
use native.Mathlib.Omega.{arith}
use lib.ListN.{length, length-map}
use lib.Dec.{eqb, leb, ltb}
use borrow.Author.Tests.{eqb-true, eq-eqb, le-leb}
use Rattle.laws.specs.Lists.{member}
use Rattle.laws.specs.Cases.{first_case, all_numbers}
use Rattle.laws.proofs.Cases.{first_number}
use Rattle.laws.proofs.Order.{eq_or_ne}
use Rattle.laws.proofs.Sort.{length_sort}
use Rattle.lines.specs.Lines.{lines_of, joined}
use Rattle.weeks.specs.Pairs.{pair_in, once_of, as_columns, pairs_of, columns_of, columns_over}
use Rattle.register.specs.Build.{built_of}
use Rattle.answers.specs.Output.{register_of}
use Rattle.importer.specs.declared.Settings.{Settings}
use Rattle.importer.specs.Import.{Imported}
use Rattle.importer.specs.Import.{line_cases, judge_line, Verdict, judged_from, most_lines, as_outcomes, outcomes_over, outcome_of, outcomes_in, entries_in, imported_of}
use Rattle.reports.specs.Report.{most_input, index_words, longest_report, settings_line, log_of, index_of, settled, settings_in, refusal_line, whole_part, register_part, settings_part, log_part, answer_lines, import_lines, settled_lines, report_lines, report_of}
use Rattle.importer.proofs.Judging.{judged_bad, judged_good, judged_none, lines_few}
use Rattle.importer.proofs.Tables.{entries_few}
use Rattle.importer.proofs.Whole.{imported_cases}
use Rattle.reports.proofs.Text.{length_refusal, length_tables}
use Rattle.reports.proofs.Import.{answered_so, tables_lines}

-- ---- there is room for every outcome and pair

-- no more pairs than entries
once_few : (l : List ℕ) → length (once_of l) ≤ length l
unfolding once_of
once_few [] = omega arith
once_few (x ∷ l) = by (member x l) (once_few l)
  where
    by : (b : Bool) → length (once_of l) ≤ length l → length (cond b (once_of l) (x ∷ once_of l)) ≤ length (x ∷ l)
    by true h = omega arith
    by false h = omega arith

pairs_few : (es : List ℕ) → length (pairs_of es) ≤ length es
unfolding pairs_of
pairs_few es =
    let a = length_sort (once_of (map pair_in es)) in
    let b = once_few (map pair_in es) in
    let c = length-map es pair_in in
    omega arith

-- no line is refused for want of room
judged_fits : (count : ℕ) (ls : List (List ℕ)) → (judged_from count ls).number ≡ 8 → ⊥
judged_fits count [] e = let z = ap (λ (v : Verdict). v.number) (judged_none count) in omega arith
judged_fits count (l ∷ ls) e =
    ⊎_elim
    (λ (g : judge_line count l ≡ 0). judged_fits (count + 1) ls (sym (ap (λ (v : Verdict). v.number) (judged_good count l ls g)) ∙ e))
    (λ (n : judge_line count l ≡ 0 → ⊥). line_fits (sym (ap (λ (v : Verdict). v.number) (judged_bad count l ls n)) ∙ e))
    (eq_or_ne (judge_line count l) 0)
  where
    line_fits : judge_line count l ≡ 8 → ⊥
    line_fits f =
        let t = first_number (λ (n : ℕ). not (eqb n 8)) (line_cases count l) refl (unfold all_numbers in refl) in
        let q : eqb (first_case (line_cases count l)) 8 ≡ true = unfold judge_line in (eq-eqb (judge_line count l) 8 f) in
        false≢true (rw q at t)

pub import_fits : (log words : List ℕ) (s : Settings) → (imported_of log words s most_lines most_lines).number ≡ 8 → ⊥
import_fits log words s =
    imported_cases log words s most_lines most_lines (λ (r : Imported). r.number ≡ 8 → ⊥)
    (λ v a b e. absurd (omega arith))
    (λ v f e.
    let a = lines_few (lines_of log) v in
    let b = entries_few words s (lines_of log) in
    let c = pairs_few (entries_in log words s) in
    let g : leb (length (lines_of log)) most_lines ≡ true = le-leb (length (lines_of log)) most_lines a in
    let h : leb (length (pairs_of (entries_in log words s))) most_lines ≡ true = le-leb (length (pairs_of (entries_in log words s))) most_lines (omega arith) in
    false≢true (sym (rw (g, h) at f)))
    (λ n e. judged_fits 0 (lines_of log) e)

-- ---- the longest output

abbrev Short : List (List ℕ) → Type 0
Short ls = length (joined ls) ≤ longest_report

refusal_short : (part number line : ℕ) → Short (refusal_line part number line ∷ [])
unfolding joined
refusal_short part number line = let n = length_refusal part number line in let e = ap length (append-nil (refusal_line part number line)) in omega arith

answer_short : (log words : List ℕ) (s : Settings) → (imported_of log words s most_lines most_lines).number ≡ 0
    → Short (answer_lines (outcomes_in log words s) (entries_in log words s))
answer_short log words s z =
    let os = outcomes_in log words s in
    let es = entries_in log words s in
    let o = outcomes_over os (as_outcomes [] []) in
    let c = columns_over (columns_of es) (as_columns [] [] [] []) in
    let a = answered_so log words s most_lines most_lines z in
    let a0 = a.0 in
    let a1 = a.1 in
    let n = length-map (lines_of log) (outcome_of words s) in
    let t = length_tables (length os) (length (pairs_of es)) o c in
    let e = ap length (tables_lines os es (as_outcomes [] []) (as_columns [] [] [] [])) in
    omega arith

import_short : (log words : List ℕ) (s : Settings) → Short (import_lines log words s)
unfolding import_lines
import_short log words s = by (eqb (imported_of log words s most_lines most_lines).number 0) refl
  where
    by : (b : Bool) → eqb (imported_of log words s most_lines most_lines).number 0 ≡ b
        → Short (cond b (answer_lines (outcomes_in log words s) (entries_in log words s))
        (refusal_line log_part (imported_of log words s most_lines most_lines).number (imported_of log words s most_lines most_lines).line ∷ []))
    by true e = answer_short log words s (eqb-true (imported_of log words s most_lines most_lines).number 0 e)
    by false e = refusal_short log_part (imported_of log words s most_lines most_lines).number (imported_of log words s most_lines most_lines).line

either : (b : Bool) (x y : List (List ℕ)) → Short x → Short y → Short (cond b x y)
either true x y p q = p
either false x y p q = q

settled_short : (line log words : List ℕ) → Short (settled_lines line log words)
unfolding settled_lines
settled_short line log words =
    either (eqb (settled line).number 0) (import_lines log words (settings_in line)) (refusal_line settings_part 11 1 ∷ [])
    (import_short log words (settings_in line))
    (refusal_short settings_part 11 1)

pub report_most : (input : List ℕ) → length (report_of input) ≤ longest_report
unfolding report_of report_lines
report_most input =
    let b = built_of (register_of input) index_words in
    let rest = settled_lines (settings_line input) (log_of input) (index_of input) in
    let refused = refusal_line register_part b.number b.line ∷ [] in
    either (ltb most_input (length input)) (refusal_line whole_part 8 0 ∷ []) (cond (eqb b.number 0) rest refused)
    (refusal_short whole_part 8 0)
    (either (eqb b.number 0) rest refused (settled_short (settings_line input) (log_of input) (index_of input)) (refusal_short register_part b.number b.line))
