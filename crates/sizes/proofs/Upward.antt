-- All sizes upward: what those below y came to, one more, and all of them. Cited by the proof of `each_size`.
-- Assumes nothing.
use mathlib.Core.Path.{◌≡◌, refl, sym, subst, ◌∙◌}
use mathlib.Core.Bool.{Bool, true, false, true≢false}
use mathlib.Core.List.{List}
use Prim.Native.Nat.{ℕ, ◌+◌, ◌-◌, ◌≤◌, ◌<◌}
use native.Mathlib.Omega.{arith}
use lib.ListN.{get_or, replicate}
use borrow.Author.Tests.{ltb-true}
use Rattle.laws.specs.Below.{sum_below}
use Rattle.laws.proofs.Below.{sum_below_step, sum_below_up}
use Rattle.index.specs.Good.{Good, most_names}
use Rattle.candidates.specs.Spending.{Spending}
use Rattle.candidates.proofs.Spending.{spend_within, spent_most, spend_more, spend_both}
use Rattle.sizes.specs.Method.{sizes_end}
use Rattle.sizes.specs.Tables.{sizes_below, Reachable, Sized, Asked, touches_by, answers_table, Covered}
use Rattle.sizes.proofs.Answering.{answers_next, answers_none}
use Rattle.sizes.proofs.Largest.{touches_below, answers_below}

-- what the sizes below y came to: their touches, within the allowance, and their answers
pub record Passed (w leasts f : List ℕ) (allowance y : ℕ) (answers : List ℕ) (touches : ℕ) : Type 0 where
  pub spent : Spending (sum_below y (touches_by w leasts f)) allowance false touches
  pub table : answers ≡ answers_table w leasts f y

module _ {w leasts f : List ℕ} {allowance : ℕ} where
  pub passed_none : {answers : List ℕ} → answers ≡ replicate most_names 0 → Passed w leasts f allowance 0 answers 0
  unfolding sum_below
  passed_none e = record { spent = spend_within 0 allowance 0 refl (omega arith); table = e ∙ answers_none w leasts f }

  pub passed_all : {y : ℕ} {answers : List ℕ} {touches : ℕ} → Passed w leasts f allowance y answers touches → Good w → y ≡ sizes_below w
      → Covered w leasts f allowance answers false touches
  passed_all {y} {answers} {touches} b good e =
      let c = rw e at b in
      record {
        spent = subst (λ (n : ℕ). Spending n allowance false touches) (touches_below w good leasts f) c.spent;
        answers = λ z. c.table ∙ answers_below w good leasts f;
        none = λ z. absurd (true≢false (sym z));
        stopped = λ z. absurd (true≢false (sym z));
      }

  module _ {y : ℕ} {answers : List ℕ} {touches : ℕ} (b : Passed w leasts f allowance y answers touches) where
    pub passed_within : touches ≤ allowance
    passed_within = (spent_most (sum_below y (touches_by w leasts f)) allowance false touches b.spent refl).1

    module _ (good : Good w) (a : Asked f) (r : Reachable f leasts) (low : y < sizes_end) {after counts : List ℕ} {past : Bool} {more : ℕ}
        (s : Sized w y f (get_or leasts y 0) (allowance - touches) answers after counts past more) where
      -- the touches with those of size y
      both : (u : ℕ) → (past ≡ false → u ≡ touches + more) → Spending (sum_below (y + 1) (touches_by w leasts f)) allowance past u
      unfolding touches_by
      both u e =
          rw (sum_below_step (touches_by w leasts f) y)
          (spend_both (sum_below y (touches_by w leasts f)) allowance false touches b.spent refl (touches_by w leasts f y) past more u s.spent e)

      pub passed_next : past ≡ false → Passed w leasts f allowance (y + 1) after (touches + more)
      passed_next e =
          record {
            spent = subst (λ (z : Bool). Spending (sum_below (y + 1) (touches_by w leasts f)) allowance z (touches + more)) e (both (touches + more) (λ q. refl));
            table = s.answers e ∙ (rw b.table (answers_next w leasts f good a y (r.most y low)));
          }

      pub passed_over : past ≡ true → Covered w leasts f allowance after true 0
      passed_over e =
          let o = both 0 (λ q. absurd (true≢false (sym e ∙ q))) in
          let n : y + 1 + (sizes_end - (y + 1)) ≡ sizes_end = omega arith in
          let up = rw n at (sum_below_up (y + 1) (sizes_end - (y + 1)) (touches_by w leasts f)) in
          let k = spent_most (sum_below y (touches_by w leasts f)) allowance false touches b.spent refl in
          record {
            spent = spend_more (sum_below (y + 1) (touches_by w leasts f)) (sum_below sizes_end (touches_by w leasts f)) allowance past 0 0 o e up;
            answers = λ z. absurd (true≢false z);
            none = λ z. refl;
            stopped = λ z. (y, omega arith, ltb-true _ _ (sym o.over ∙ e), (s.none e).1 ∙ b.table);
          }
