-- Worked examples of a build, as one table: what the definitions give, and what it should be. Each refusal number, the empty register, and the
-- register of LANE (10), LANES (11) and PLANE (12). A new example is one more row.
-- Assumes nothing.
use mathlib.Core.Path.{◌≡◌, refl}
use mathlib.Core.List.{List, [], ◌∷◌, ◌++◌, map}
use Prim.Native.Nat.{ℕ, zero, suc, ◌+◌, ◌/◌, ◌%◌}
use lib.ListN.{replicate}
use Rattle.laws.specs.Lists.{member, tabulate, sum_of}
use Rattle.laws.specs.Below.{any_below}
use Rattle.laws.specs.Sort.{insert, sort_of}
use Rattle.laws.specs.Cases.{first_case}
use Rattle.names.specs.Names.{has_control, judge_of}
use Rattle.names.specs.Features.{padded, packed, gram_at, times_in, number_at, numbered, features_by, features_of}
use Rattle.hex_digits.specs.Lines.{digit_of, place_in, value_of, is_digit, hex_of, hex_line, well_formed, bytes_of}
use Rattle.hex_digits.specs.Numbers.{number_of}
use Rattle.fields.specs.Layouts.{head_size, tail_size, laid_out, is_frame, fields_of, fields_in, name_in}
use Rattle.index_writer.specs.Built.{triples_of, all_triples, join_row, runs_of, lists_of, row_words, words_from, rows_of, words_of}
use Rattle.lines.specs.Lines.{join_line, lines_of}
use Rattle.index_writer.specs.Written.{blank}
use Rattle.register.specs.Build.{next_from, judge_line, take_lines, taken_of, built_of, words_after}

-- the line of a name by its bytes
abbrev line : List ℕ → List ℕ
line s = hex_line (78 ∷ s)

abbrev lane : List ℕ
lane = line (0 ∷ 10 ∷ 4 ∷ 76 ∷ 65 ∷ 78 ∷ 69 ∷ [])

abbrev lanes : List ℕ
lanes = line (0 ∷ 11 ∷ 5 ∷ 76 ∷ 65 ∷ 78 ∷ 69 ∷ 83 ∷ [])

abbrev plane : List ℕ
plane = line (0 ∷ 12 ∷ 5 ∷ 80 ∷ 76 ∷ 65 ∷ 78 ∷ 69 ∷ [])

-- the lines of names of one byte under the ids from i on, k of them
crowd : ℕ → ℕ → List ℕ
crowd i zero = []
crowd i (suc k) = line (i / 256 ∷ i % 256 ∷ 1 ∷ 65 ∷ []) ++ crowd (i + 1) k

-- ---- the table

-- an example: what is computed, and what it should be
record Example : Type 0 where
  is : List ℕ
  should : List ℕ

-- the number and the line of a build with room for so many words
abbrev builds : List ℕ → ℕ → ℕ → ℕ → Example
builds register room number at = record { is = (built_of register room).number ∷ (built_of register room).line ∷ []; should = number ∷ at ∷ [] }

-- the words that a build leaves
abbrev leaves : List ℕ → List ℕ → List ℕ → Example
leaves register words after = record { is = words_after register words; should = after }

examples : List Example
examples =
    -- no lines: three words 0, and a blank
    leaves [] (7 ∷ 7 ∷ 7 ∷ 7 ∷ []) (0 ∷ 0 ∷ 0 ∷ blank ∷ [])
    -- three names
    ∷ builds (lane ++ lanes ++ plane) 99 0 0
    -- a last stretch without a line feed
    ∷ builds (lane ++ (52 ∷ [])) 99 11 2
    -- a line of a line feed alone
    ∷ builds (10 ∷ lane) 99 11 1
    -- a name of no bytes
    ∷ builds (lane ++ line (0 ∷ 11 ∷ 0 ∷ [])) 99 1 2
    -- a name of 201 bytes
    ∷ builds (line (0 ∷ 11 ∷ 201 ∷ replicate 201 65)) 99 2 1
    -- a 0 byte
    ∷ builds (line (0 ∷ 11 ∷ 1 ∷ 0 ∷ [])) 99 3 1
    -- a tab
    ∷ builds (line (0 ∷ 11 ∷ 1 ∷ 9 ∷ [])) 99 12 1
    -- the same id again
    ∷ builds (lane ++ lane) 99 9 2
    -- the first bad line decides
    ∷ builds (lane ++ lane ++ (10 ∷ [])) 99 9 2
    -- a 257th name
    ∷ builds (crowd 0 257) 99 10 257
    -- 3 + 1 + 4 × 6 + 6 words are 34
    ∷ builds lane 33 8 0
    -- and just fit
    ∷ builds lane 34 0 0
    ∷ []

-- every example is what it should be
examples_right : map (λ (e : Example). e.is) examples ≡ map (λ (e : Example). e.should) examples
unfolding examples join_line lines_of next_from first_case judge_line take_lines taken_of built_of words_after triples_of all_triples join_row runs_of lists_of row_words words_from rows_of words_of insert sort_of member tabulate sum_of judge_of has_control any_below padded packed gram_at times_in number_at numbered features_by features_of digit_of place_in value_of is_digit hex_of hex_line well_formed bytes_of number_of head_size tail_size laid_out is_frame fields_of fields_in name_in crowd
examples_right = refl
