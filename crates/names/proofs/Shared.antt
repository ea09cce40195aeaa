-- Laws of shared features: symmetric, at most either size. Cited by `lists`.
-- Assumes nothing.
use mathlib.Core.Path.{◌≡◌, refl, sym, ap, ap₂, ◌∙◌}
use mathlib.Core.Bool.{false}
use mathlib.Core.List.{List, [], ◌∷◌}
use Prim.Native.Nat.{ℕ, ◌+◌, ◌≤◌}
use lib.ListN.{length}
use lib.Dec.{eqb}
use borrow.Author.Tests.{eqb-true}
use Rattle.laws.specs.Lists.{member, Distinct, count_of}
use Rattle.laws.proofs.Lists.{count_le, count_none, count_either, count_one}
use Rattle.names.specs.Shared.{shared_of}

-- two lists without repeats share as many either way round
pub shared_swap : (a b : List ℕ) → Distinct a → Distinct b → shared_of a b ≡ shared_of b a
unfolding shared_of count_of Distinct member
shared_swap [] b d e = sym (count_none (λ (y : ℕ). false) (λ y. refl) b)
shared_swap (x ∷ a) b d e =
    ap₂ ◌+◌ (sym (count_one x b e)) (shared_swap a b d.1 e)
    ∙ sym
    (count_either (λ (y : ℕ). eqb y x) (λ (y : ℕ). member y a)
    (λ y t. ap (λ (z : ℕ). member z a) (eqb-true y x t) ∙ d.0)
    b)

pub shared_le_left : (a b : List ℕ) → shared_of a b ≤ length a
unfolding shared_of
shared_le_left a b = count_le (λ (x : ℕ). member x b) a

pub shared_le_right : (a b : List ℕ) → Distinct a → Distinct b → shared_of a b ≤ length b
shared_le_right a b d e = rw (shared_swap a b d e) (shared_le_left b a)
