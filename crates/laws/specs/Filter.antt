-- The elements of a list that pass a test. The laws are in proofs/Filter.antt.
-- Assumes nothing.
use Rattle.std.specs.Prelude.{Bool, cond, List, [], ◌∷◌}

-- the elements that pass, in their order; none of the empty list
unfoldable pub filter_of : {A : Type 0} → (A → Bool) → List A → List A
filter_of t [] = []
filter_of t (x ∷ l) = let r = filter_of t l in cond (t x) (x ∷ r) r
