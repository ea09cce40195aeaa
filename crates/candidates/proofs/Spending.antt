-- Laws of spending: one part after another, the second with what the first left of the budget. Cited by the proofs of every part that counts touches.
-- Assumes nothing.
use mathlib.Core.Path.{◌≡◌, sym, ◌∙◌}
use mathlib.Core.Logic.{⊎_elim}
use mathlib.Core.Bool.{Bool, true, false, true≢false}
use Prim.Native.Nat.{ℕ, ◌+◌, ◌-◌, ◌≤◌, ◌<◌}
use native.Mathlib.Omega.{arith}
use borrow.Author.Tests.{lt-ltb, le-ltb, ltb-true, ltb-false}
use Rattle.laws.proofs.Order.{le_or_lt}
use Rattle.candidates.specs.Spending.{Spending}

-- ---- one part

-- what is within the budget is spent
pub spend_within : (n budget t : ℕ) → t ≡ n → n ≤ budget → Spending n budget false t
spend_within n budget t e h = record { over = sym (le-ltb budget n h); cost = λ q. e }

-- what is more is not
pub spend_over : (n budget t : ℕ) → budget < n → Spending n budget true t
spend_over n budget t h = record { over = sym (lt-ltb budget n h); cost = λ q. absurd (true≢false q) }

-- what was spent was within the budget
pub spent_most : (n budget : ℕ) (past : Bool) (t : ℕ) → Spending n budget past t → past ≡ false → (t ≡ n) × (t ≤ budget)
spent_most n budget past t s q =
    let e = s.cost q in
    let h = ltb-false budget n (sym s.over ∙ q) in
    (e, omega arith)

-- past the budget with less is past it with more, whatever is reported
pub spend_more : (n m budget : ℕ) (past : Bool) (t u : ℕ) → Spending n budget past t → past ≡ true → n ≤ m → Spending m budget true u
spend_more n m budget past t u s q h =
    let o = ltb-true budget n (sym s.over ∙ q) in
    spend_over m budget u (omega arith)

-- ---- two parts

module _ (n budget : ℕ) (past : Bool) (s : ℕ) (first : Spending n budget past s) (within : past ≡ false) where
  -- both together
  pub spend_both : (m : ℕ) (after : Bool) (t u : ℕ) → Spending m (budget - s) after t → (after ≡ false → u ≡ s + t) → Spending (n + m) budget after u
  spend_both m after t u second e =
      let f = spent_most n budget past s first within in
      let a = f.0 in
      let b = f.1 in
      record {
        over =
            second.over
            ∙ ⊎_elim
            (λ (h : m ≤ budget - s). le-ltb (budget - s) m h ∙ sym (le-ltb budget (n + m) (omega arith)))
            (λ (h : budget - s < m). lt-ltb (budget - s) m h ∙ sym (lt-ltb budget (n + m) (omega arith)))
            (le_or_lt m (budget - s));
        cost = λ q. let g = second.cost q in let v = e q in omega arith;
      }
