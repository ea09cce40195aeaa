-- Numbers as bytes, high byte first. Cited by the contracts of `number_at` and `put_number` and by the layers above, from `fields` on; the laws are in
-- proofs/Numbers.antt.
-- Assumes nothing.
use Rattle.std.specs.Prelude.{List, [], ◌∷◌, ℕ, zero, suc, ◌+◌, ◌*◌, ◌/◌, ◌%◌, ◌^◌, length}

-- the number that the bytes say, high byte first; 0 of no bytes
unfoldable pub number_of : List ℕ → ℕ
number_of [] = 0
number_of (b ∷ s) = b * 256 ^ length s + number_of s

-- the low bytes of n, as many as the width, high byte first; what does not fit is left out
unfoldable pub bytes_for : ℕ → ℕ → List ℕ
bytes_for zero n = []
bytes_for (suc w) n = n / 256 ^ w % 256 ∷ bytes_for w n
