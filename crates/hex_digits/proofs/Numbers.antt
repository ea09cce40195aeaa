-- Laws of numbers as bytes, high byte first, over the width. Cited by the proofs of `number_at` and `put_number` and by `fields`.
-- Assumes nothing.
use mathlib.Core.Path.{◌≡◌, refl, sym, ap, ap₂, ◌∙◌}
use mathlib.Core.List.{List, [], ◌∷◌, ◌++◌}
use Prim.Native.Nat.{ℕ, zero, suc, ◌+◌, ◌-◌, ◌*◌, ◌/◌, ◌%◌, ◌^◌, ◌≤◌, ◌<◌}
use native.Mathlib.Nat.{pow-suc, pow-succ', one-le-pow, pow-le-pow_right, mod-lt, mod-eq_of_lt, mod-one, mul_assoc, mul-add-div_right, mul-add-mod_self_right, div-one, zero-add}
use native.Mathlib.Numerals.{add-one}
use native.Mathlib.Omega.{arith}
use lib.Arith.{digits_div, digits_lt, mod-mul}
use lib.ListN.{length, get_or, take, drop, length-append, length-drop}
use lib.Seq.{take_all, take-suc, length-take-le, get_or-drop}
use mathlib.Core.Bool.{true}
use Rattle.std.specs.Int.{w32, to_be_bytes, bytes_high_first}
use Rattle.hex_digits.specs.Lines.{Bytes, well_formed, bytes_of}
use Rattle.hex_digits.proofs.Lines.{take_bytes, drop_bytes, well_formed_length, well_formed_bytes}
use Rattle.hex_digits.specs.Numbers.{number_of, bytes_for}

power : (w : ℕ) → 0 < 256 ^ w
power w = one-le-pow w 256 (omega arith)

-- ---- from bytes to a number

-- a number fits the width of its bytes
pub number_below : (s : List ℕ) → Bytes s → number_of s < 256 ^ length s
unfolding number_of
number_below [] h = omega arith
number_below (b ∷ s) h = rw pow-succ' (digits_lt (h 0) (number_below s (λ i. h (suc i))))

number_snoc : (s : List ℕ) (b : ℕ) → number_of (s ++ (b ∷ [])) ≡ number_of s * 256 + b
unfolding number_of
number_snoc [] b = omega arith
number_snoc (a ∷ s) b =
    let h = number_snoc s b in
    let e : length (s ++ (b ∷ [])) ≡ suc (length s) = rw length-append (add-one _) in
    let p : a * (256 ^ length s * 256) ≡ a * 256 ^ length s * 256 = sym (mul_assoc a (256 ^ length s) 256) in
    rw (e, pow-suc) (omega arith)

-- one byte more
pub number_more : (s : List ℕ) (k : ℕ) → k < length s → number_of (take (k + 1) s) ≡ number_of (take k s) * 256 + get_or s k 0
number_more s k h = rw (add-one, take-suc s k 0) (number_snoc (take k s) (get_or s k 0))

-- ---- from a number to bytes

pub length_bytes_for : (w n : ℕ) → length (bytes_for w n) ≡ w
unfolding bytes_for
length_bytes_for zero n = refl
length_bytes_for (suc w) n = ap suc (length_bytes_for w n)

pub bytes_for_bytes : (w n : ℕ) → Bytes (bytes_for w n)
unfolding bytes_for
bytes_for_bytes zero n k = omega arith
bytes_for_bytes (suc w) n zero = mod-lt (n / 256 ^ w) (omega arith)
bytes_for_bytes (suc w) n (suc k) = bytes_for_bytes w n k

-- the bytes of a `u32`, and of these the low ones
high_first : (w n : ℕ) → bytes_high_first w n ≡ bytes_for w n
unfolding bytes_for
high_first zero n = refl
high_first (suc zero) n = rw div-one
high_first (suc (suc w)) n = ap (λ (s : List ℕ). n / 256 ^ suc w % 256 ∷ s) (high_first (suc w) n)

drop_for : (k w n : ℕ) → drop k (bytes_for (k + w) n) ≡ bytes_for w n
unfolding bytes_for
drop_for zero w n = rw zero-add
drop_for (suc k) w n = let e : suc k + w ≡ suc (k + w) = omega arith in rw e (drop_for k w n)

pub bytes_low : (w n : ℕ) (b : List ℕ) → w ≤ 4 → b ≡ to_be_bytes w32 n → take (4 - (4 - w)) (drop (4 - w) b) ≡ bytes_for w n
bytes_low w n b h p =
    let e : 4 - w + w ≡ 4 = omega arith in
    let d : drop (4 - w) b ≡ bytes_for w n = ap (drop (4 - w)) (p ∙ high_first 4 n) ∙ (rw e at (drop_for (4 - w) w n)) in
    let l = length_bytes_for w n in
    rw d (take_all (4 - (4 - w)) (bytes_for w n) (omega arith))

-- ---- both ways

number_mod : (w n : ℕ) → number_of (bytes_for w n) ≡ n % 256 ^ w
unfolding number_of bytes_for
number_mod zero n = sym (mod-one n)
number_mod (suc w) n =
    let high = n / 256 ^ w % 256 in
    ap₂ (λ (x y : ℕ). high * 256 ^ x + y) (length_bytes_for w n) (number_mod w n)
    ∙ sym (mod-mul n (omega arith) (power w))
    ∙ ap (λ (x : ℕ). n % x) (sym (pow-succ' 256 w))

-- the bytes of a number that fits its width say the number
pub number_bytes : (w n : ℕ) → n < 256 ^ w → number_of (bytes_for w n) ≡ n
number_bytes w n h = number_mod w n ∙ mod-eq_of_lt h

high_lost : (w b n : ℕ) → bytes_for w (b * 256 ^ w + n) ≡ bytes_for w n
unfolding bytes_for
high_lost zero b n = refl
high_lost (suc w) b n =
    let e : b * 256 ^ suc w ≡ b * 256 * 256 ^ w = ap (λ (x : ℕ). b * x) (pow-succ' 256 w) ∙ sym (mul_assoc b 256 (256 ^ w)) in
    rw (e, mul-add-div_right (power w), mul-add-mod_self_right, high_lost w (b * 256) n)

-- the bytes of the number that bytes say are the bytes
pub bytes_number : (s : List ℕ) → Bytes s → bytes_for (length s) (number_of s) ≡ s
unfolding number_of bytes_for
bytes_number [] h = refl
bytes_number (b ∷ s) h =
    let t : Bytes s = λ i. h (suc i) in
    rw (digits_div b (number_below s t), mod-eq_of_lt (h 0), high_lost (length s) b (number_of s)) (ap (λ (r : List ℕ). b ∷ r) (bytes_number s t))

-- ---- a number in a line

-- one byte more of a number that is at most four bytes wide
pub number_turn : (l : List ℕ) (at width k n b : ℕ) → well_formed l ≡ true → width ≤ 4 → 2 * (at + width) ≤ length l → k < width
    → n ≡ number_of (take k (drop at (bytes_of l))) → b ≡ get_or (bytes_of l) (at + k) 0
    → (n * 256 + b ≡ number_of (take (k + 1) (drop at (bytes_of l)))) × (n * 256 + b < 4294967296)
number_turn l at width k n b e w h t p q =
    let s : List ℕ = drop at (bytes_of l) in
    let m = well_formed_length l e in
    let u : k < length s = rw length-drop (omega arith) in
    let v : n * 256 + b ≡ number_of (take (k + 1) s) = rw (number_more s k u, p, q, get_or-drop) in
    let y : length (take (k + 1) s) ≡ k + 1 = length-take-le (k + 1) s (omega arith) in
    let i : length (take (k + 1) s) ≤ 4 = omega arith in
    let z : 256 ^ length (take (k + 1) s) ≤ 256 ^ 4 = pow-le-pow_right (omega arith) i in
    let x : Bytes (take (k + 1) s) = take_bytes (k + 1) s (drop_bytes at (bytes_of l) (well_formed_bytes l e)) in
    let r = number_below (take (k + 1) s) x in
    (v, omega arith)
