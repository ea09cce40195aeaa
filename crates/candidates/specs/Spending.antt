-- What a part of a search comes to that may spend so many touches and needs so many. Cited by the contracts of every part that counts touches.
-- Assumes nothing.
use Rattle.std.specs.Prelude.{◌≡◌, Option, Some, None, Bool, true, false, ℕ, ltb}

-- past exactly when more is needed than the budget; otherwise the touches are what is needed
pub record Spending (needed budget : ℕ) (past : Bool) (touches : ℕ) : Type 0 where
  pub over : past ≡ ltb budget needed
  pub cost : past ≡ false → touches ≡ needed

-- what such a part answers, set out: whether it is past its budget, and its touches, of which none are reported past it
abbrev pub past_in : Option ℕ → Bool
past_in (Some touches) = false
past_in None = true

abbrev pub spent_in : Option ℕ → ℕ
spent_in (Some touches) = touches
spent_in None = 0
