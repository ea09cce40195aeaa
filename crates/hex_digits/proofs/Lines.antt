-- Laws of hexadecimal lines: the pair at a place, one turn of the scan, and both ways between bytes and their line.
-- Cited by the proofs of the crate and by `fields` and `answers`.
-- Assumes nothing.
use mathlib.Core.Path.{◌≡◌, refl, sym, ap, ◌∙◌}
use mathlib.Core.Bool.{Bool, true, false, ◌&&◌, false≢true, and-false, and-true}
use mathlib.Core.List.{List, [], ◌∷◌, ◌++◌}
use Prim.Native.Nat.{ℕ, zero, suc, ◌+◌, ◌-◌, ◌*◌, ◌/◌, ◌%◌, ◌≤◌, ◌<◌}
use native.Mathlib.Nat.{zero-add, div-add-mod'}
use native.Mathlib.Numerals.{add-one}
use native.Mathlib.Omega.{arith}
use lib.Arith.{digits_div, digits_mod}
use lib.ListN.{length, get_or, take, drop, set, drop_of_length-le}
use lib.Seq.{take-suc, length-take-le, get_or-drop, sets}
use lib.Dec.{eqb}
use Rattle.std.specs.List.{list_all}
use Rattle.std.specs.Simd.{first_chunks}
use Rattle.std.proofs.lemmas.List.{append-nil}
use Rattle.std.proofs.lemmas.List.Edits.{sets-eq}
use borrow.Author.Tests.{lt-ltb, ltb-true, eqb-true, eq-eqb, ne_eqb}
use Rattle.laws.proofs.Below.{and_left, and_right}
use Rattle.hex_digits.specs.Lines.{digit_of, place_in, value_of, is_digit, hex_of, hex_line, well_formed, bytes_of, Bytes}
use Rattle.hex_digits.proofs.Digits.{value_digit, digit_value}

-- ---- lists of bytes

pub take_bytes : (n : ℕ) (s : List ℕ) → Bytes s → Bytes (take n s)
take_bytes zero s h k = omega arith
take_bytes (suc n) [] h k = omega arith
take_bytes (suc n) (b ∷ s) h zero = h 0
take_bytes (suc n) (b ∷ s) h (suc k) = take_bytes n s (λ i. h (suc i)) k

pub drop_bytes : (n : ℕ) (s : List ℕ) → Bytes s → Bytes (drop n s)
drop_bytes n s h k = rw get_or-drop (h (n + k))

-- ---- a digit

pub digit_is : (b : ℕ) → value_of b < 16 → is_digit b ≡ true
unfolding is_digit
digit_is b h = lt-ltb _ _ h

pub digit_below : (b : ℕ) → is_digit b ≡ true → value_of b < 16
unfolding is_digit
digit_below b e = ltb-true _ _ e

-- ---- the pair at a place

pub byte_pair : (l : List ℕ) (k : ℕ) → 2 * k + 1 < length l
    → value_of (get_or l (2 * k) 0) * 16 + value_of (get_or l (2 * k + 1) 0) ≡ get_or (bytes_of l) k 0
unfolding bytes_of
byte_pair [] k h = absurd (omega arith)
byte_pair (a ∷ []) k h = absurd (omega arith)
byte_pair (a ∷ b ∷ l) zero h = refl
byte_pair (a ∷ b ∷ l) (suc k) h =
    let e : 2 * suc k ≡ suc (suc (2 * k)) = omega arith in
    let f : 2 * suc k + 1 ≡ suc (suc (2 * k + 1)) = omega arith in
    rw (f, e) (byte_pair l k (omega arith))

pub length_bytes : (l : List ℕ) → length (bytes_of l) ≡ length l / 2
unfolding bytes_of
length_bytes [] = refl
length_bytes (a ∷ []) = refl
length_bytes (a ∷ b ∷ l) = let h = length_bytes l in omega arith

-- ---- the whole line

-- whether a list of two has two digits
abbrev pub pair_good : List ℕ → Bool
pair_good p = is_digit (get_or p 0 0) && is_digit (get_or p 1 0)

-- whether what no pair takes is a line feed
abbrev pub is_end : List ℕ → Bool
is_end r = eqb (length r) 1 && eqb (get_or r 0 0) 10

-- a line is well formed exactly if a line feed is left when it is cut into pairs, and each of these is two digits
pub well_formed_pairs : (l : List ℕ) → well_formed l ≡ is_end (drop (length l / 2 * 2) l) && list_all pair_good (first_chunks 2 (length l / 2) l)
unfolding well_formed
well_formed_pairs [] = refl
well_formed_pairs (a ∷ []) = sym (and-true _)
well_formed_pairs (a ∷ b ∷ l) =
    let e : length (a ∷ b ∷ l) / 2 ≡ suc (length l / 2) = omega arith in
    let f : suc (length l / 2) * 2 ≡ suc (suc (length l / 2 * 2)) = omega arith in
    rw (e, f, well_formed_pairs l) (by_test (is_digit a) (is_digit b) (is_end (drop (length l / 2 * 2) l)) (list_all pair_good (first_chunks 2 (length l / 2) l)))
  where
    by_test : (s t u v : Bool) → s && (t && (u && v)) ≡ u && ((s && t) && v)
    by_test true true u v = refl
    by_test true false u v = sym (and-false u)
    by_test false t u v = sym (and-false u)

-- the same of the pairs and of what is left, however they were come by
pub well_formed_cut : (l r : List ℕ) (ps : List (List ℕ)) (e : Bool) → ps ≡ first_chunks 2 (length l / 2) l → r ≡ drop (length l / 2 * 2) l → is_end r ≡ e
    → well_formed l ≡ e && list_all pair_good ps
well_formed_cut l r ps e f g h = rw (f, ← h, g) (well_formed_pairs l)

-- what is left is a line feed, or it is none by its length or by its byte
pub end_is : (r : List ℕ) → length r ≡ 1 → get_or r 0 0 ≡ 10 → is_end r ≡ true
end_is r n b = rw (eq-eqb _ _ n, eq-eqb _ _ b)

pub end_of_no_byte : (r : List ℕ) → (length r ≡ 1 → ⊥) → is_end r ≡ false
end_of_no_byte r n = rw (ne_eqb (length r) 1 n)

pub end_of_another : (r : List ℕ) → (get_or r 0 0 ≡ 10 → ⊥) → is_end r ≡ false
end_of_another r n = rw (ne_eqb (get_or r 0 0) 10 n) (and-false _)

-- a line of at least one byte is well formed exactly if its last byte is a line feed, and what stands before it are pairs of digits
pub well_formed_last : (p : List ℕ) (b : ℕ) → well_formed (p ++ (b ∷ [])) ≡ (eqb b 10 && eqb (length p % 2) 0) && list_all is_digit p
unfolding well_formed
well_formed_last [] b = sym (and-true _ ∙ and-true _)
well_formed_last (a ∷ []) b = rw (and-false (is_digit b), and-false (is_digit a), and-false (eqb b 10))
well_formed_last (a ∷ d ∷ p) b =
    let e : length (a ∷ d ∷ p) % 2 ≡ length p % 2 = omega arith in
    rw (e, well_formed_last p b) (by_test (is_digit a) (is_digit d) (eqb b 10 && eqb (length p % 2) 0))
  where
    by_test : (s t u : Bool) → s && (t && (u && list_all is_digit p)) ≡ u && (s && (t && list_all is_digit p))
    by_test true true u = refl
    by_test true false u = sym (and-false u)
    by_test false t u = sym (and-false u)

-- ---- what a well-formed line holds

pair_digits : (a b : ℕ) (l : List ℕ) → well_formed (a ∷ b ∷ l) ≡ true → (is_digit a ≡ true) × (is_digit b ≡ true) × (well_formed l ≡ true)
unfolding well_formed
pair_digits a b l e =
    let r : (is_digit b && well_formed l) ≡ true = and_right (is_digit a) _ e in
    (and_left (is_digit a) _ e, and_left (is_digit b) _ r, and_right (is_digit b) _ r)

-- a line that is well formed has an odd number of bytes, and each of its pairs says a byte
pub well_formed_length : (l : List ℕ) → well_formed l ≡ true → length l ≡ 2 * length (bytes_of l) + 1
unfolding well_formed bytes_of
well_formed_length [] e = absurd (false≢true e)
well_formed_length (a ∷ []) e = refl
well_formed_length (a ∷ b ∷ l) e =
    let h = well_formed_length l (pair_digits a b l e).2 in
    omega arith

pub well_formed_bytes : (l : List ℕ) → well_formed l ≡ true → Bytes (bytes_of l)
unfolding well_formed bytes_of
well_formed_bytes [] e k = omega arith
well_formed_bytes (a ∷ []) e k = omega arith
well_formed_bytes (a ∷ b ∷ l) e zero =
    let p = digit_below a (pair_digits a b l e).0 in
    let q = digit_below b (pair_digits a b l e).1 in
    omega arith
well_formed_bytes (a ∷ b ∷ l) e (suc k) = well_formed_bytes l (pair_digits a b l e).2 k

-- ---- the one line feed

feed_no_digit : is_digit 10 ≡ false
unfolding is_digit value_of place_in
feed_no_digit = refl

no_feed : (a : ℕ) → is_digit a ≡ true → a ≡ 10 → ⊥
no_feed a d e = false≢true (sym feed_no_digit ∙ ap is_digit (sym e) ∙ d)

-- a line feed in a well-formed line stands at its end
pub feed_last : (l : List ℕ) → well_formed l ≡ true → (k : ℕ) → get_or l k 0 ≡ 10 → k + 1 ≡ length l
feed_last [] e k h = absurd (omega arith)
feed_last (a ∷ []) e zero h = refl
feed_last (a ∷ []) e (suc k) h = absurd (omega arith)
feed_last (a ∷ b ∷ l) e zero h = absurd (no_feed a (pair_digits a b l e).0 h)
feed_last (a ∷ b ∷ l) e (suc zero) h = absurd (no_feed b (pair_digits a b l e).1 h)
feed_last (a ∷ b ∷ l) e (suc (suc k)) h = let r = feed_last l (pair_digits a b l e).2 k h in omega arith

-- and one stands there
pub last_feed : (l : List ℕ) → well_formed l ≡ true → get_or l (length l - 1) 0 ≡ 10
unfolding well_formed
last_feed [] e = absurd (false≢true e)
last_feed (a ∷ []) e = eqb-true a 10 e
last_feed (a ∷ b ∷ l) e =
    let w = (pair_digits a b l e).2 in
    let n = well_formed_length l w in
    let m : suc (suc (length l)) - 1 ≡ suc (suc (length l - 1)) = omega arith in
    rw m (last_feed l w)

-- ---- both ways

-- the line of the bytes that a well-formed line says is that line
pub hex_bytes : (l : List ℕ) → well_formed l ≡ true → hex_line (bytes_of l) ≡ l
unfolding well_formed bytes_of hex_line hex_of
hex_bytes [] e = absurd (false≢true e)
hex_bytes (a ∷ []) e = rw (eqb-true a 10 e)
hex_bytes (a ∷ b ∷ l) e =
    let h = pair_digits a b l e in
    let k = digit_below b h.1 in
    rw (digits_div (value_of a) k, digits_mod (value_of a) k, digit_value a h.0, digit_value b h.1)
    (ap (λ (t : List ℕ). a ∷ b ∷ t) (hex_bytes l h.2))

-- the line of bytes is well formed, and says the bytes
pub well_formed_hex : (s : List ℕ) → Bytes s → well_formed (hex_line s) ≡ true
unfolding well_formed hex_line hex_of
well_formed_hex [] h = refl
well_formed_hex (b ∷ s) h =
    let k = h 0 in
    let p : b / 16 < 16 = omega arith in
    let q : b % 16 < 16 = omega arith in
    let d : value_of (digit_of (b / 16)) < 16 = rw (value_digit _ p) p in
    let f : value_of (digit_of (b % 16)) < 16 = rw (value_digit _ q) q in
    rw (digit_is _ d, digit_is _ f) (well_formed_hex s (λ i. h (suc i)))

pub bytes_hex : (s : List ℕ) → Bytes s → bytes_of (hex_line s) ≡ s
unfolding bytes_of hex_line hex_of
bytes_hex [] h = refl
bytes_hex (b ∷ s) h =
    let k = h 0 in
    let p : b / 16 < 16 = omega arith in
    let q : b % 16 < 16 = omega arith in
    rw (value_digit _ p, value_digit _ q, div-add-mod' b 16) (ap (λ (t : List ℕ). b ∷ t) (bytes_hex s (λ i. h (suc i))))

-- ---- runs of bytes

pub hex_append : (s t : List ℕ) → hex_of (s ++ t) ≡ hex_of s ++ hex_of t
unfolding hex_of
hex_append [] t = refl
hex_append (b ∷ s) t = ap (λ (r : List ℕ). digit_of (b / 16) ∷ digit_of (b % 16) ∷ r) (hex_append s t)

pub length_hex : (s : List ℕ) → length (hex_of s) ≡ 2 * length s
unfolding hex_of
length_hex [] = refl
length_hex (b ∷ s) = let h = length_hex s in omega arith

pub sets_append : (l : List ℕ) (i : ℕ) (s t : List ℕ) → sets l i (s ++ t) ≡ sets (sets l i s) (i + length s) t
sets_append l i [] t = let e : i + 0 ≡ i = omega arith in rw e
sets_append l i (a ∷ s) t =
    let e : i + suc (length s) ≡ suc i + length s = omega arith in
    rw e (sets_append _ (suc i) s t)

-- one byte more, as a pair of digits
pub sets_hex : (l : List ℕ) (i : ℕ) (s t : List ℕ) → sets (sets l i (hex_of s)) (i + 2 * length s) (hex_of t) ≡ sets l i (hex_of (s ++ t))
sets_hex l i s t = rw (hex_append, sets_append, length_hex)

pub hex_more : (l : List ℕ) (i : ℕ) (s : List ℕ) (k : ℕ) → k < length s
    → sets (sets l i (hex_of (take k s))) (i + 2 * k) (hex_of (get_or s k 0 ∷ [])) ≡ sets l i (hex_of (take (k + 1) s))
hex_more l i s k h =
    let e : length (take k s) ≡ k = length-take-le k s (omega arith) in
    rw (add-one, take-suc s k 0) (rw e at (sets_hex l i (take k s) (get_or s k 0 ∷ [])))

-- one byte more, as it is
pub copy_more : (l s : List ℕ) (k : ℕ) → k < length s → set (sets l 0 (take k s)) k (get_or s k 0) ≡ sets l 0 (take (k + 1) s)
copy_more l s k h =
    let e : 0 + length (take k s) ≡ k = ap (λ (x : ℕ). 0 + x) (length-take-le k s (omega arith)) ∙ zero-add k in
    rw (add-one, take-suc s k 0, sets_append, e)

-- what is put at the start of the first n elements, and what comes after these
pub sets_front : (l s : List ℕ) (n : ℕ) → length s ≡ n → n ≤ length l → sets (take n l) 0 s ++ drop n l ≡ sets l 0 s
sets_front l s n e h =
    let k : length (take n l) ≡ n = length-take-le n l h in
    let m : 0 + length s ≡ n = omega arith in
    rw (sets-eq s (take n l) 0 (omega arith), sets-eq s l 0 (omega arith), m, drop_of_length-le (take n l) {i = n} (omega arith), append-nil s)
