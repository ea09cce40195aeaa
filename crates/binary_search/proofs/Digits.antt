-- Powers of two as the code makes them: by a shift. Cited by the proofs of the functions that make them.
-- Assumes nothing.
use mathlib.Core.Path.{◌≡◌, ap, ◌∙◌}
use mathlib.Core.Bool.{Bool, true, false, cond}
use Prim.Native.Nat.{ℕ, ◌*◌, ◌%◌, ◌^◌, ◌<◌}
use native.Mathlib.Nat.{one-mul, zero-mul, zero-mod}
use native.Mathlib.Omega.{arith}
use lib.Dec.{lit<}
use lib.Pow.{shl_exact}
use mir.Val.{bool_byte}

-- 1 shifted up by k
pub power_shift : (k : ℕ) → k < 64 → (1 * 2 ^ k) % 2 ^ 64 ≡ 2 ^ k
power_shift k h = shl_exact 1 k 64 (lit< tt) (omega arith) ∙ one-mul (2 ^ k)

-- a bool shifted up by k
pub power_if_shift : (b : Bool) (k : ℕ) → k < 64 → (bool_byte b * 2 ^ k) % 2 ^ 64 ≡ cond b (2 ^ k) 0
power_if_shift true k h = power_shift k h
power_if_shift false k h = ap (λ (x : ℕ). x % 2 ^ 64) (zero-mul (2 ^ k)) ∙ zero-mod (2 ^ 64)
