-- Room for every register: with `most_words` words no build is refused for want of room.
-- Assumes nothing.
use mathlib.Core.Path.{◌≡◌, refl, sym, ap, ◌∙◌}
use mathlib.Core.Bool.{true, not, false≢true}
use mathlib.Core.Logic.{⊎_elim}
use mathlib.Core.List.{List, [], ◌∷◌, ◌++◌}
use Prim.Native.Nat.{ℕ, ◌≤◌}
use native.Mathlib.Omega.{arith}
use lib.ListN.{length, length-append}
use lib.Dec.{eqb}
use borrow.Author.Tests.{eq-eqb, ne_eqb, le-leb}
use Rattle.laws.specs.Each.{Each}
use Rattle.laws.specs.Cases.{first_case, all_numbers}
use Rattle.laws.proofs.Cases.{first_number}
use Rattle.laws.proofs.Members.{each_first, each_rest}
use Rattle.laws.proofs.Order.{eq_or_ne}
use Rattle.index_writer.specs.Built.{Entry, Row, RowFit, Fit, lists_of, rows_of, words_of}
use Rattle.index_writer.proofs.Built.{rows_of_fit, few_postings, rows_postings, length_words}
use Rattle.lines.specs.Lines.{lines_of}
use Rattle.register.specs.Build.{next_id, entry_of, line_cases, judge_line, Taken, take_lines, taken_of, entries_of, room_for, built_of, most_words}
use Rattle.register.proofs.Taking.{take_none, take_bad, take_good}
use Rattle.register.proofs.Laws.{fit_register}

-- ---- no line is refused for want of room

no_room_line : (count next : ℕ) (line : List ℕ) → judge_line count next line ≡ 8 → ⊥
unfolding judge_line
no_room_line count next line e =
    let t = first_number (λ (n : ℕ). not (eqb n 8)) (line_cases count next line) refl (unfold all_numbers in refl) in
    let f : eqb (first_case (line_cases count next line)) 8 ≡ true = eq-eqb (first_case (line_cases count next line)) 8 e in
    false≢true (rw f at t)

no_room_lines : (es : List Entry) (ls : List (List ℕ)) → (take_lines es ls).number ≡ 8 → ⊥
no_room_lines es [] e = let z = ap (λ (t : Taken). t.number) (take_none es) in omega arith
no_room_lines es (l ∷ ls) e =
    ⊎_elim
    (λ (g : judge_line (length es) (next_id es) l ≡ 0). no_room_lines (es ++ (entry_of l ∷ [])) ls (sym (ap (λ (t : Taken). t.number) (take_good es l ls g)) ∙ e))
    (λ (n : judge_line (length es) (next_id es) l ≡ 0 → ⊥). no_room_line (length es) (next_id es) l (sym (ap (λ (t : Taken). t.number) (take_bad es l ls n)) ∙ e))
    (eq_or_ne (judge_line (length es) (next_id es) l) 0)

-- ---- the words of names within the limits

-- each row has a posting
rows_few : (rs : List Row) → Each RowFit rs → length rs ≤ length (lists_of rs)
unfolding lists_of
rows_few [] f = omega arith
rows_few (r ∷ rs) f =
    let a = length-append r.list (lists_of rs) in
    let b = (each_first RowFit r rs f).some in
    let c = rows_few rs (each_rest RowFit r rs f) in
    omega arith

pub words_most : (es : List Entry) → Fit es → length (words_of es) ≤ most_words
words_most es f =
    let a = length_words es in
    let b = rows_few (rows_of es) (rows_of_fit es f).each in
    let c = rows_postings es in
    let d = few_postings es f in
    let e = f.few in
    omega arith

-- ---- the build

pub room_enough : (register : List ℕ) (room : ℕ) → most_words ≤ room → (built_of register room).number ≡ 8 → ⊥
unfolding built_of
room_enough register room h e =
    ⊎_elim
    (λ (z : (taken_of register).number ≡ 0).
    let w = words_most (entries_of register) (fit_register register z) in
    let r : room_for (entries_of register) room ≡ true = fits (entries_of register) (omega arith) in
    let q : ◌≡◌ {A = ℕ} 0 8 = rw (eq-eqb (taken_of register).number 0 z, r) at e in
    omega arith)
    (λ (n : (taken_of register).number ≡ 0 → ⊥). no_room_lines [] (lines_of register) (unfold taken_of in (rw (ne_eqb (taken_of register).number 0 n) at e)))
    (eq_or_ne (taken_of register).number 0)
  where
    fits : (es : List Entry) → length (words_of es) ≤ room → room_for es room ≡ true
    fits es k = le-leb (length (words_of es)) room k
