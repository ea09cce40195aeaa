-- Hexadecimal lines: bytes as pairs of upper-case digits, then one line feed. Cited by the contracts of the crate and by the layers above, from `fields` on,
-- where it is said what the bytes of a frame mean; the laws are in proofs/Lines.antt.
-- Assumes nothing.
use Rattle.std.specs.Prelude.{Bool, false, cond, ◌&&◌, List, [], ◌∷◌, ◌++◌, ℕ, ◌+◌, ◌*◌, ◌/◌, ◌%◌, ◌<◌, get_or, ltb, eqb}

-- every element of the list is a byte
abbrev pub Bytes : List ℕ → Type 0
Bytes s = (k : ℕ) → get_or s k 0 < 256

-- the sixteen digits in the order of their values: 0 to 9, then A to F; a lower-case letter is none
abbrev pub digits : List ℕ
digits = 48 ∷ 49 ∷ 50 ∷ 51 ∷ 52 ∷ 53 ∷ 54 ∷ 55 ∷ 56 ∷ 57 ∷ 65 ∷ 66 ∷ 67 ∷ 68 ∷ 69 ∷ 70 ∷ []

-- the digit of a value below 16; 0, which is no digit, from 16 on
unfoldable pub digit_of : ℕ → ℕ
digit_of n = get_or digits n 0

-- the place of b in the list, from 0; the list's length where it is not there
unfoldable pub place_in : List ℕ → ℕ → ℕ
place_in [] b = 0
place_in (x ∷ l) b = cond (eqb x b) 0 (1 + place_in l b)

-- the value of a digit; 16 for a byte that is none
unfoldable pub value_of : ℕ → ℕ
value_of b = place_in digits b

-- whether the byte is a digit
unfoldable pub is_digit : ℕ → Bool
is_digit b = ltb (value_of b) 16

-- the bytes as digits, two a byte, the high one first; none of no bytes
unfoldable pub hex_of : List ℕ → List ℕ
hex_of [] = []
hex_of (b ∷ s) = digit_of (b / 16) ∷ digit_of (b % 16) ∷ hex_of s

-- the line of the bytes: their digits, then one line feed
unfoldable pub hex_line : List ℕ → List ℕ
hex_line s = hex_of s ++ (10 ∷ [])

-- whether a line is pairs of digits and then one line feed; not so of a line of no bytes
unfoldable pub well_formed : List ℕ → Bool
well_formed [] = false
well_formed (a ∷ []) = eqb a 10
well_formed (a ∷ b ∷ l) = is_digit a && (is_digit b && well_formed l)

-- the bytes that the pairs of a line say; what is left over at its end says none
unfoldable pub bytes_of : List ℕ → List ℕ
bytes_of [] = []
bytes_of (a ∷ []) = []
bytes_of (a ∷ b ∷ l) = (value_of a * 16 + value_of b) ∷ bytes_of l
