-- Laws of tests: two that pass together are equal, one that cannot pass fails, both halves of `&&`, and one that is counted.
-- Cited by `likeness`, and from `index` to `answers` by most crates.
-- Assumes nothing.
use mathlib.Core.Path.{◌≡◌, refl, sym, ◌∙◌}
use mathlib.Core.Bool.{Bool, true, false, cond, ◌&&◌, ◌||◌, false≢true}
use Prim.Native.Nat.{ℕ, ◌≤◌}
use native.Mathlib.Omega.{arith}

-- two tests that pass together are equal
pub same_test : (a b : Bool) → (a ≡ true → b ≡ true) → (b ≡ true → a ≡ true) → a ≡ b
same_test true b f g = sym (f refl)
same_test false true f g = g refl
same_test false false f g = refl

-- a test that cannot pass fails
pub test_fails : (a : Bool) → (a ≡ true → ⊥) → a ≡ false
test_fails true h = absurd (h refl)
test_fails false h = refl

-- a test that failed does not pass
pub test_failed : (a : Bool) → a ≡ false → a ≡ true → ⊥
test_failed a e h = false≢true (sym e ∙ h)

pub and_parts : (a b : Bool) → a && b ≡ true → (a ≡ true) × (b ≡ true)
and_parts true b e = (refl, e)
and_parts false b e = absurd (false≢true e)

pub or_right : (a b : Bool) → b ≡ true → a || b ≡ true
or_right true b e = refl
or_right false b e = e

-- what counts only where a test passes counts for at most itself
pub cond_most : (b : Bool) (n : ℕ) → cond b n 0 ≤ n
cond_most true n = omega arith
cond_most false n = omega arith
