-- Worked examples, by computation: the frames of the listing in docs/RULE.md, each read and written, and a log line without its line feed.
-- Assumes nothing.
use mathlib.Core.Path.{◌≡◌, refl}
use mathlib.Core.Bool.{false}
use mathlib.Core.List.{List, [], ◌∷◌}
use Prim.Native.Nat.{ℕ}
use lib.ListN.{take}
use Rattle.std.proofs.Common.{Err}
use Rattle.refusals.specs.declared.Refusal.TheVariants.{NoRoom}
use Rattle.refusals.specs.Refusals.{refusal_number}
use Rattle.laws.specs.Lists.{sum_of}
use Rattle.hex_digits.specs.Lines.{digit_of, place_in, value_of, is_digit, hex_of, hex_line, well_formed, bytes_of}
use Rattle.hex_digits.specs.Numbers.{number_of, bytes_for}
use Rattle.fields.specs.Layouts.{head_size, field_bytes, name_bytes, line_of, tail_size, laid_out, is_frame, fields_of, fields_in, name_in, read_of}
use Rattle.log_frames.specs.Frames.{log_frame, outcome_frame, pair_frame, import_end_frame, import_refusal_frame, log_out, outcome_out, pair_out, import_end_out, import_refusal_out, a_log, an_outcome, a_pair, an_import_end, an_import_refusal}

-- LANE
abbrev lane : List ℕ
lane = 76 ∷ 65 ∷ 78 ∷ 69 ∷ []

-- 4C0007002D044C414E45 and its line feed: day 7, reading 45, LANE
abbrev log_line : List ℕ
log_line = 52 ∷ 67 ∷ 48 ∷ 48 ∷ 48 ∷ 55 ∷ 48 ∷ 48 ∷ 50 ∷ 68 ∷ 48 ∷ 52 ∷ 52 ∷ 67 ∷ 52 ∷ 49 ∷ 52 ∷ 69 ∷ 52 ∷ 53 ∷ 10 ∷ []

-- 4F01000A: belongs to 10
abbrev outcome_line : List ℕ
outcome_line = 52 ∷ 70 ∷ 48 ∷ 49 ∷ 48 ∷ 48 ∷ 48 ∷ 65 ∷ 10 ∷ []

-- 50000A0001000000870003: id 10, week 1, sum 135, count 3
abbrev pair_line : List ℕ
pair_line = 53 ∷ 48 ∷ 48 ∷ 48 ∷ 48 ∷ 65 ∷ 48 ∷ 48 ∷ 48 ∷ 49 ∷ 48 ∷ 48 ∷ 48 ∷ 48 ∷ 48 ∷ 48 ∷ 56 ∷ 55 ∷ 48 ∷ 48 ∷ 48 ∷ 51 ∷ 10 ∷ []

-- 5A00060002: 6 outcomes, 2 pairs
abbrev end_line : List ℕ
end_line = 53 ∷ 65 ∷ 48 ∷ 48 ∷ 48 ∷ 54 ∷ 48 ∷ 48 ∷ 48 ∷ 50 ∷ 10 ∷ []

-- 59030B0002: the log, 11, line 2
abbrev refusal_line : List ℕ
refusal_line = 53 ∷ 57 ∷ 48 ∷ 51 ∷ 48 ∷ 66 ∷ 48 ∷ 48 ∷ 48 ∷ 50 ∷ 10 ∷ []

-- the five lines, written
pub listing_written : (line_of log_frame (7 ∷ 45 ∷ []) lane ≡ log_line)
    × (line_of outcome_frame (1 ∷ 10 ∷ []) [] ≡ outcome_line)
    × (line_of pair_frame (10 ∷ 1 ∷ 135 ∷ 3 ∷ []) [] ≡ pair_line)
    × (line_of import_end_frame (6 ∷ 2 ∷ []) [] ≡ end_line)
    × (line_of import_refusal_frame (3 ∷ 11 ∷ 2 ∷ []) [] ≡ refusal_line)
unfolding line_of hex_line hex_of digit_of field_bytes bytes_for name_bytes
listing_written = (refl, refl, refl, refl, refl)

-- and read; three bytes are no room for LANE, and a log line without its line feed is none
pub listing_read : (read_of log_frame log_line 4 ≡ log_out (a_log 7 45 4))
    × (name_in log_frame log_line ≡ lane)
    × (read_of log_frame log_line 3 ≡ log_out (Err NoRoom))
    × (is_frame log_frame (take 20 log_line) ≡ false)
    × (read_of outcome_frame outcome_line 0 ≡ outcome_out (an_outcome 1 10))
    × (read_of pair_frame pair_line 0 ≡ pair_out (a_pair 10 1 135 3))
    × (read_of import_end_frame end_line 0 ≡ import_end_out (an_import_end 6 2))
    × (read_of import_refusal_frame refusal_line 0 ≡ import_refusal_out (an_import_refusal 3 11 2))
unfolding read_of is_frame well_formed is_digit value_of place_in laid_out bytes_of head_size sum_of tail_size name_in fields_in fields_of number_of
listing_read = (refl, refl, refl, refl, refl, refl, refl, refl)
