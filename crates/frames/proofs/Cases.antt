-- Worked examples, by computation: the frames of the listing in docs/RULE.md, each read and written, and damage to one of them.
-- Assumes nothing.
use mathlib.Core.Path.{◌≡◌, refl}
use mathlib.Core.Bool.{false}
use mathlib.Core.List.{List, [], ◌∷◌}
use Prim.Native.Nat.{ℕ}
use Rattle.std.proofs.Common.{Err}
use Rattle.refusals.specs.declared.Refusal.TheVariants.{NoRoom}
use Rattle.refusals.specs.Refusals.{refusal_number}
use Rattle.laws.specs.Lists.{sum_of}
use Rattle.hex_digits.specs.Lines.{digit_of, place_in, value_of, is_digit, hex_of, hex_line, well_formed, bytes_of}
use Rattle.hex_digits.specs.Numbers.{number_of, bytes_for}
use Rattle.fields.specs.Layouts.{head_size, field_bytes, name_bytes, line_of, tail_size, laid_out, is_frame, fields_of, fields_in, name_in, read_of}
use Rattle.frames.specs.Frames.{name_frame, query_frame, row_frame, end_frame, refusal_frame, name_out, query_out, row_out, end_out, refusal_out, a_name, a_query, a_row, an_end, a_refusal}

-- LANE
abbrev lane : List ℕ
lane = 76 ∷ 65 ∷ 78 ∷ 69 ∷ []

-- 4E000A044C414E45 and its line feed
abbrev name_line : List ℕ
name_line = 52 ∷ 69 ∷ 48 ∷ 48 ∷ 48 ∷ 65 ∷ 48 ∷ 52 ∷ 52 ∷ 67 ∷ 52 ∷ 49 ∷ 52 ∷ 69 ∷ 52 ∷ 53 ∷ 10 ∷ []

-- 51010008000D0000000F044C414E45
abbrev query_line : List ℕ
query_line =
    53 ∷ 49 ∷ 48 ∷ 49 ∷ 48 ∷ 48 ∷ 48 ∷ 56 ∷ 48 ∷ 48 ∷ 48 ∷ 68 ∷ 48 ∷ 48 ∷ 48 ∷ 48 ∷ 48 ∷ 48 ∷ 48 ∷ 70 ∷ 48 ∷ 52 ∷ 52 ∷ 67 ∷ 52 ∷ 49 ∷ 52 ∷ 69 ∷ 52 ∷ 53
    ∷ 10
    ∷ []

-- 52000B040704
abbrev row_line : List ℕ
row_line = 53 ∷ 50 ∷ 48 ∷ 48 ∷ 48 ∷ 66 ∷ 48 ∷ 52 ∷ 48 ∷ 55 ∷ 48 ∷ 52 ∷ 10 ∷ []

-- 4500030000000F0008000D
abbrev end_line : List ℕ
end_line = 52 ∷ 53 ∷ 48 ∷ 48 ∷ 48 ∷ 51 ∷ 48 ∷ 48 ∷ 48 ∷ 48 ∷ 48 ∷ 48 ∷ 48 ∷ 70 ∷ 48 ∷ 48 ∷ 48 ∷ 56 ∷ 48 ∷ 48 ∷ 48 ∷ 68 ∷ 10 ∷ []

-- 58070000000E
abbrev refusal_line : List ℕ
refusal_line = 53 ∷ 56 ∷ 48 ∷ 55 ∷ 48 ∷ 48 ∷ 48 ∷ 48 ∷ 48 ∷ 48 ∷ 48 ∷ 69 ∷ 10 ∷ []

-- the five lines, written
pub listing_written : (line_of name_frame (10 ∷ []) lane ≡ name_line)
    × (line_of query_frame (1 ∷ 8 ∷ 13 ∷ 15 ∷ []) lane ≡ query_line)
    × (line_of row_frame (11 ∷ 4 ∷ 7 ∷ 4 ∷ []) [] ≡ row_line)
    × (line_of end_frame (3 ∷ 15 ∷ 8 ∷ 13 ∷ []) [] ≡ end_line)
    × (line_of refusal_frame (7 ∷ 14 ∷ []) [] ≡ refusal_line)
unfolding line_of hex_line hex_of digit_of field_bytes bytes_for name_bytes
listing_written = (refl, refl, refl, refl, refl)

-- and read; three bytes are no room for LANE
pub listing_read : (read_of name_frame name_line 4 ≡ name_out (a_name 10 4))
    × (name_in name_frame name_line ≡ lane)
    × (read_of name_frame name_line 3 ≡ name_out (Err NoRoom))
    × (read_of query_frame query_line 64 ≡ query_out (a_query 1 8 13 15 4))
    × (read_of row_frame row_line 0 ≡ row_out (a_row 11 4 7 4))
    × (read_of end_frame end_line 0 ≡ end_out (an_end 3 15 8 13))
    × (read_of refusal_frame refusal_line 0 ≡ refusal_out (a_refusal 7 14))
unfolding read_of is_frame well_formed is_digit value_of place_in laid_out bytes_of head_size sum_of tail_size name_in fields_in fields_of number_of
listing_read = (refl, refl, refl, refl, refl, refl, refl)

-- damage to the row: a lower-case digit, no line feed, two of them, no least count; no bytes at all; and the row read as an end
pub damaged : (is_frame row_frame (53 ∷ 50 ∷ 48 ∷ 48 ∷ 48 ∷ 98 ∷ 48 ∷ 52 ∷ 48 ∷ 55 ∷ 48 ∷ 52 ∷ 10 ∷ []) ≡ false)
    × (is_frame row_frame (53 ∷ 50 ∷ 48 ∷ 48 ∷ 48 ∷ 66 ∷ 48 ∷ 52 ∷ 48 ∷ 55 ∷ 48 ∷ 52 ∷ []) ≡ false)
    × (is_frame row_frame (53 ∷ 50 ∷ 48 ∷ 48 ∷ 48 ∷ 66 ∷ 48 ∷ 52 ∷ 48 ∷ 55 ∷ 48 ∷ 52 ∷ 10 ∷ 10 ∷ []) ≡ false)
    × (is_frame row_frame (53 ∷ 50 ∷ 48 ∷ 48 ∷ 48 ∷ 66 ∷ 48 ∷ 52 ∷ 48 ∷ 55 ∷ 10 ∷ []) ≡ false)
    × (is_frame row_frame [] ≡ false)
    × (is_frame end_frame row_line ≡ false)
unfolding is_frame well_formed is_digit value_of place_in laid_out bytes_of head_size sum_of tail_size
damaged = (refl, refl, refl, refl, refl, refl)
