-- The sixteen digits: their rule, by one test that is computed over every byte, and the two ways between digit and value.
-- Cited by the proofs of `value` and `digit` and by Lines.antt.
-- Assumes nothing.
use mathlib.Core.Path.{◌≡◌, refl, ap}
use mathlib.Core.Bool.{Bool, true, false, cond, ◌&&◌}
use mathlib.Core.List.{List, [], ◌∷◌}
use Prim.Native.Nat.{ℕ, suc, ◌+◌, ◌-◌, ◌≤◌, ◌<◌}
use native.Mathlib.Omega.{arith}
use lib.ListN.{length, get_or}
use lib.Dec.{leb, ltb, eqb}
use borrow.Author.Tests.{eqb-true, ltb-true, ltb-false, lt-ltb, le-ltb, le-leb, lt-leb}
use Rattle.std.proofs.Common.{Option, Some, None, is_some, unwrap_or}
use Rattle.std.proofs.lemmas.Bool.Decides.{nat_tests}
use Rattle.laws.specs.Below.{all_below}
use Rattle.laws.proofs.Below.{all_at}
use Rattle.hex_digits.specs.Lines.{digits, digit_of, place_in, value_of, is_digit}

-- ---- the rule of the digits

-- the digit of a value by a comparison, as `digit` works it out
abbrev pub digit_worked : ℕ → ℕ
digit_worked n = cond (ltb n 10) (48 + n) (55 + n)

-- the value of a byte by its two ranges, as `value` works it out
abbrev pub value_worked : ℕ → ℕ
value_worked b = cond (leb 48 b && leb b 57) (b - 48) (cond (leb 65 b && leb b 70) (b - 65 + 10) 16)

-- at every byte the two ranges give its place among the digits
pub value_worked_lem : (b : ℕ) → b < 256 → value_worked b ≡ value_of b
unfolding value_of place_in all_below
value_worked_lem b h = eqb-true _ _ (all_at 256 (λ (x : ℕ). eqb (value_worked x) (value_of x)) refl b h)

-- at every value the comparison gives the digit at that place, and the digit's value is the value again
pub digit_worked_lem : (n : ℕ) → n < 16 → digit_worked n ≡ digit_of n
unfolding digit_of all_below
digit_worked_lem n h = eqb-true _ _ (all_at 16 (λ (x : ℕ). eqb (digit_worked x) (digit_of x)) refl n h)

pub value_digit : (n : ℕ) → n < 16 → value_of (digit_of n) ≡ n
unfolding digit_of value_of place_in all_below
value_digit n h = eqb-true _ _ (all_at 16 (λ (x : ℕ). eqb (value_of (digit_of x)) x) refl n h)

-- ---- the place of a byte in a list

place_le : (l : List ℕ) (b : ℕ) → place_in l b ≤ length l
unfolding place_in
place_le [] b = omega arith
place_le (x ∷ l) b = by_test (eqb x b) (place_le l b)
  where
    by_test : (t : Bool) → place_in l b ≤ length l → cond t 0 (1 + place_in l b) ≤ length (x ∷ l)
    by_test true h = omega arith
    by_test false h = omega arith

place_holds : (l : List ℕ) (b : ℕ) → place_in l b < length l → get_or l (place_in l b) 0 ≡ b
unfolding place_in
place_holds [] b h = absurd (omega arith)
place_holds (x ∷ l) b h = by_test (eqb x b) refl h (place_holds l b)
  where
    by_test : (t : Bool) → eqb x b ≡ t → cond t 0 (1 + place_in l b) < length (x ∷ l) → (place_in l b < length l → get_or l (place_in l b) 0 ≡ b)
        → get_or (x ∷ l) (cond t 0 (1 + place_in l b)) 0 ≡ b
    by_test true e h r = eqb-true _ _ e
    by_test false e h r =
        let s : 1 + place_in l b ≡ suc (place_in l b) = omega arith in
        rw s (r (omega arith))

pub value_le : (b : ℕ) → value_of b ≤ 16
unfolding value_of
value_le b = place_le digits b

pub digit_value : (b : ℕ) → is_digit b ≡ true → digit_of (value_of b) ≡ b
unfolding is_digit value_of digit_of
digit_value b e = place_holds digits b (ltb-true _ _ e)

-- ---- what `value` answers

-- in its two ranges and outside of both
abbrev pub value_option : ℕ → Option ℕ
value_option b = cond (is_digit b) (Some (value_of b)) None

pub value_low : (b : ℕ) → 48 ≤ b → b ≤ 57 → Some (b - 48) ≡ value_option b
unfolding is_digit
value_low b h k =
    let e : b - 48 ≡ value_of b = simp (le-leb _ _ h, le-leb _ _ k) at (value_worked_lem b (omega arith)) in
    rw (lt-ltb (value_of b) 16 (omega arith)) (ap Some e)

pub value_high : (b : ℕ) → 65 ≤ b → b ≤ 70 → Some (b - 65 + 10) ≡ value_option b
unfolding is_digit
value_high b h k =
    let w = value_worked_lem b (omega arith) in
    let e : b - 65 + 10 ≡ value_of b = simp (le-leb 48 b (omega arith), lt-leb b 57 (omega arith), le-leb _ _ h, le-leb _ _ k) at w in
    rw (lt-ltb (value_of b) 16 (omega arith)) (ap Some e)

pub value_none : (b : ℕ) → b < 256 → (48 ≤ b → b ≤ 57 → ⊥) → (65 ≤ b → b ≤ 70 → ⊥) → None ≡ value_option b
unfolding is_digit
value_none b h low high =
    let w = value_worked_lem b h in
    let e : value_of b ≡ 16 = grind (arith, nat_tests) in
    let f : ltb (value_of b) 16 ≡ false = le-ltb _ _ (omega arith) in
    rw f

-- with 16 for none it is the place among the digits
pub value_or : (b : ℕ) → unwrap_or (value_option b) 16 ≡ value_of b
unfolding is_digit
value_or b = by_test (is_digit b) refl
  where
    by_test : (t : Bool) → is_digit b ≡ t → unwrap_or (cond t (Some (value_of b)) None) 16 ≡ value_of b
    by_test true e = refl
    by_test false e = let h = value_le b in let k : 16 ≤ value_of b = ltb-false _ _ e in omega arith

-- and there is one of a digit alone
pub value_is_some : (b : ℕ) (o : Option ℕ) → o ≡ value_option b → is_some o ≡ is_digit b
value_is_some b o e = rw e (by_test (is_digit b))
  where
    by_test : (t : Bool) → is_some (cond t (Some (value_of b)) None) ≡ t
    by_test true = refl
    by_test false = refl
