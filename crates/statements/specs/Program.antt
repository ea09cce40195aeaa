-- The program, from the bytes of its input to the lines of its output, in full: what a reader has to believe, and nothing of how it is shown.
-- What it writes is `output_of input`: each piece that its code hands to a write is shown to be the next of that (crates/lookup, specs/Pieces.antt).
-- `Programs` is what `programs` of proofs/Program.antt proves, whole. What is said of a search is in Demands.antt.
-- Assumes nothing.
use Rattle.std.specs.Prelude.{◌≡◌, true, false, List, [], ◌∷◌, ◌++◌, map, ℕ, ◌≤◌, ◌<◌, length, take, replicate}
use Rattle.laws.specs.Lists.{count_of, tabulate}
use Rattle.laws.specs.Cases.{first_case}
use Rattle.likeness.specs.Terms.{lowest_terms}
use Rattle.fields.specs.Layouts.{is_frame}
use Rattle.frames.specs.Frames.{query_frame}
use Rattle.lines.specs.Lines.{lines_of, joined}
use Rattle.register.specs.Build.{built_of, words_after}
use Rattle.search.specs.Answers.{rows_in, Columns}
use Rattle.answers.specs.Output.{most_input, program_words, rows_lent, register_of, queries_of, query_in, measure_in, p_in, q_in, allowance_in, row_text, end_line, refusal_line, answer_of, ends_answer, output_of}
use Rattle.statements.specs.Demands.{columns, Question, answer, steps, after, refusals, Answered, touches_with, Accepted, of_register, of_built, Listing}

-- the words of the program's index, as they are lent to the build
abbrev pub index_words : List ℕ
index_words = replicate program_words 0

-- the register of the input is accepted
abbrev pub Registered : List ℕ → Type 0
Registered input = Accepted (register_of input) index_words

-- ---- one query line

-- what a 51 line asks, with room for as many rows as the program lends
abbrev pub asks : List ℕ → Question Columns
asks line =
    record {
      query = query_in line;
      measure = measure_in line;
      p = p_in line;
      q = q_in line;
      allowance = allowance_in line;
      words = [];
      lent = record { ids = replicate rows_lent 0; shared = replicate rows_lent 0; sizes = replicate rows_lent 0; least = replicate rows_lent 0 };
    }

-- and of what: the index of the input's register
abbrev pub asked : List ℕ → List ℕ → Question Columns
asked input line = of_built (register_of input) index_words (asks line)

-- its number, 0 where it is answered
abbrev pub number_to : List ℕ → List ℕ → ℕ
number_to input line = first_case (refusals columns (asked input line))

-- how many rows its answer has
abbrev pub rows_to : List ℕ → List ℕ → ℕ
rows_to input line = rows_in (answer columns (asked input line))

-- row j of them, as a 52 line
abbrev pub row_to : List ℕ → List ℕ → ℕ → List ℕ
row_to input line j = row_text (after columns (asked input line)) j

-- the lines that a line is answered with
abbrev pub lines_to : List ℕ → List ℕ → List (List ℕ)
lines_to input line = lines_of (answer_of (words_after (register_of input) index_words) line)

-- of an input whose register is accepted
pub record AnswerTo (input line : List ℕ) : Type 0 where
  -- a line that is no 51 frame gets one refusal, with 11 and 0 touches
  pub malformed : is_frame query_frame line ≡ false → lines_to input line ≡ refusal_line 11 0 ∷ []
  -- a query that is refused gets one refusal, with its number and the touches that go with it
  pub refused : is_frame query_frame line ≡ true → (Answered columns (asked input line) → ⊥)
      → lines_to input line ≡ refusal_line (number_to input line) (touches_with (asked input line) (number_to input line)) ∷ []
  -- an answered one gets a 52 line for each row, in order, and a 45 line with the rows, the touches and the threshold in lowest terms
  pub answered : is_frame query_frame line ≡ true → Answered columns (asked input line)
      → lines_to input line
      ≡ tabulate (row_to input line) (rows_to input line)
      ++ (end_line (rows_to input line) (steps (asked input line)) (lowest_terms (p_in line) (q_in line)).p (lowest_terms (p_in line) (q_in line)).q ∷ [])
  -- and those rows are of exactly the register's names that are similar, with their true counts, by ascending id
  pub listed : is_frame query_frame line ≡ true → Answered columns (asked input line) → Listing columns (of_register (register_of input)) (asked input line)
  -- in each case exactly one of the lines is a 45 or a 58 frame
  pub once : count_of ends_answer (lines_to input line) ≡ 1

-- ---- all of the output

pub record Program (input : List ℕ) : Type 0 where
  -- too much input is refused with 8 and 0 touches, whatever it holds
  pub too_much : most_input < length input → output_of input ≡ refusal_line 8 0
  -- a refused register gives one refusal, with the build's number and 0 touches
  pub register_refused : length input ≤ most_input → (Registered input → ⊥)
      → output_of input ≡ refusal_line (built_of (register_of input) program_words).number 0
  -- otherwise each query line gets its lines, in order
  pub in_order : length input ≤ most_input → Registered input → lines_of (output_of input) ≡ joined (map (lines_to input) (queries_of input))
  pub each : Registered input → (line : List ℕ) → AnswerTo input line
  -- so there are as many 45 and 58 frames among them as there are query lines
  pub ends : length input ≤ most_input → Registered input → count_of ends_answer (lines_of (output_of input)) ≡ length (queries_of input)
  -- and fewer wherever the output breaks off
  pub broken : (n : ℕ) → n < length (output_of input) → count_of ends_answer (lines_of (take n (output_of input))) < count_of ends_answer (lines_of (output_of input))

abbrev pub Programs : Type 0
Programs = (input : List ℕ) → Program input
