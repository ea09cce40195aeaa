-- A list without one number. The laws are in proofs/Lists.antt.
-- Assumes nothing.
use Rattle.std.specs.Prelude.{not, List, ℕ, eqb}
use Rattle.laws.specs.Filter.{filter_of}

-- the numbers other than x, in order
abbrev pub others_of : ℕ → List ℕ → List ℕ
others_of x l = filter_of (λ (y : ℕ). not (eqb y x)) l
