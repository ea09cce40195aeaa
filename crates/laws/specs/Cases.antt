-- A judgement as a list of cases: the first that applies gives its number. Cited wherever something is refused; a new refusal is one case in one list.
-- The laws are in proofs/Cases.antt.
-- Assumes nothing.
use Rattle.std.specs.Prelude.{Bool, true, cond, not, ◌&&◌, List, [], ◌∷◌, ℕ, eqb}

-- a case: when it applies, and its number
pub record Case : Type 0 where
  pub applies : Bool
  pub number : ℕ

abbrev pub case : ℕ → Bool → Case
case n b = record { applies = b; number = n }

-- the number of the first case that applies; 0 where none does
unfoldable pub first_case : List Case → ℕ
first_case [] = 0
first_case (c ∷ cs) = cond c.applies c.number (first_case cs)

-- whether the number of every case passes a test; so of no cases
unfoldable pub all_numbers : (ℕ → Bool) → List Case → Bool
all_numbers t [] = true
all_numbers t (c ∷ cs) = t c.number && all_numbers t cs

-- whether no case has the number 0, which says that none applies
abbrev pub all_numbered : List Case → Bool
all_numbered cs = all_numbers (λ (n : ℕ). not (eqb n 0)) cs
