-- What a build promises: accepted words are good and hold the names of the register, each with its own features; refused words are not good.
-- Assumes nothing.
use mathlib.Core.Path.{◌≡◌, sym, ap, subst, ◌∙◌}
use mathlib.Core.Bool.{false}
use mathlib.Core.Logic.{⊎_elim}
use mathlib.Core.List.{List, [], ◌∷◌, ◌++◌}
use Prim.Native.Nat.{ℕ, ◌-◌}
use native.Mathlib.Omega.{arith}
use borrow.Author.Tests.{eq-eqb, ne_eqb}
use lib.ListN.{length, replicate}
use Rattle.laws.proofs.Order.{eq_or_ne}
use Rattle.index.specs.Good.{good_of, Good}
use Rattle.index_writer.specs.Built.{Entry, Fit, words_of}
use Rattle.index_writer.proofs.Built.{fit_nil, fit_snoc, built_good}
use Rattle.index.proofs.Laws.{refused_not_good}
use Rattle.lines.specs.Lines.{lines_of}
use Rattle.index_writer.specs.Written.{blank, pad_to}
use Rattle.register.specs.Build.{next_id, judge_line, entry_of, Taken, take_lines, taken_of, entries_of, built_of, words_after}
use Rattle.register.proofs.Judging.{good_line}
use Rattle.register.proofs.Taking.{next_last, take_none, take_bad, take_good, entry_fit}

-- the names of good lines are within the limits
pub fit_lines : (es : List Entry) (ls : List (List ℕ)) → Fit es → (take_lines es ls).number ≡ 0 → Fit (take_lines es ls).entries
fit_lines es [] f z = subst (λ (t : Taken). Fit t.entries) (sym (take_none es)) f
fit_lines es (l ∷ ls) f z =
    ⊎_elim
    (λ (g : judge_line (length es) (next_id es) l ≡ 0).
    let h = good_line (length es) (next_id es) l g in
    subst (λ (t : Taken). Fit t.entries) (sym (take_good es l ls g))
    (fit_lines (es ++ (entry_of l ∷ [])) ls
    (fit_snoc es (entry_of l) f (entry_fit (length es) (next_id es) l g) h.3 (λ i e. (let q = next_last 0 es i e in let r = h.2 in omega arith)))
    (sym (ap (λ (t : Taken). t.number) (take_good es l ls g)) ∙ z)))
    (λ (n : judge_line (length es) (next_id es) l ≡ 0 → ⊥). absurd (n (sym (ap (λ (t : Taken). t.number) (take_bad es l ls n)) ∙ z)))
    (eq_or_ne (judge_line (length es) (next_id es) l) 0)

pub fit_register : (register : List ℕ) → (taken_of register).number ≡ 0 → Fit (entries_of register)
unfolding taken_of
fit_register register z = fit_lines [] (lines_of register) fit_nil z

module _ (register words : List ℕ) where
  -- an accepted build has no bad line
  pub accepted_lines : (built_of register (length words)).number ≡ 0 → (taken_of register).number ≡ 0
  unfolding built_of
  accepted_lines z =
      ⊎_elim
      (λ (e : (taken_of register).number ≡ 0). e)
      (λ (n : (taken_of register).number ≡ 0 → ⊥). rw (ne_eqb (taken_of register).number 0 n) at z)
      (eq_or_ne (taken_of register).number 0)

  -- and writes the index of the register's names
  pub accepted_words : (built_of register (length words)).number ≡ 0 → words_after register words ≡ pad_to (length words) (words_of (entries_of register))
  unfolding words_after
  accepted_words z = rw (eq-eqb (built_of register (length words)).number 0 z)

  pub refused_words : ((built_of register (length words)).number ≡ 0 → ⊥) → words_after register words ≡ replicate (length words) blank
  unfolding words_after
  refused_words n = rw (ne_eqb (built_of register (length words)).number 0 n)

  -- accepted words are a good index
  pub accepted_good : (built_of register (length words)).number ≡ 0 → Good (words_after register words)
  accepted_good z =
      let es = entries_of register in
      rw (accepted_words z) (built_good es (fit_register register (accepted_lines z)) (replicate (length words - length (words_of es)) blank))

  -- refused words are not, whatever the length
  pub refused_bad : ((built_of register (length words)).number ≡ 0 → ⊥) → good_of (words_after register words) ≡ false
  refused_bad n = ap good_of (refused_words n) ∙ refused_not_good (length words)
