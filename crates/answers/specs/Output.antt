-- What the program makes of an input, byte by byte: the register and its index, the lines of each answer, and all of the output.
-- Assumes nothing.
use Rattle.std.specs.Prelude.{Bool, cond, ◌&&◌, ◌||◌, List, [], ◌∷◌, ◌++◌, ℕ, ◌+◌, ◌*◌, length, get_or, take, drop, replicate, eqb, ltb}
use Rattle.laws.specs.Lists.{tabulate}
use Rattle.names.specs.Features.{features_of}
use Rattle.fields.specs.Layouts.{is_frame, fields_in, name_in, line_of, written_in}
use Rattle.fields.specs.Fitted.{fitting_of}
use Rattle.frames.specs.Frames.{query_frame, row_frame, end_frame, refusal_frame, row_line_length, end_line_length}
use Rattle.lines.specs.Lines.{lines_of, line_length, joined}
use Rattle.index_writer.specs.Written.{blank}
use Rattle.register.specs.Build.{built_in, built_of, words_after}
use Rattle.search.specs.Answers.{Answer, Found, Refused, search_of, Columns, columns_of, places_given}
use Rattle.answers.specs.declared.Opening.{Opening}
use Rattle.answers.specs.declared.Responded.{Responded}

-- ---- the register and the queries

-- whether a line begins with the digits 5 and 1
unfoldable pub begins : List ℕ → Bool
begins l = eqb (get_or l 0 0) 53 && eqb (get_or l 1 0) 49

-- how many bytes come before the first line that begins so; all where none does
unfoldable pub bytes_before : List (List ℕ) → ℕ
bytes_before [] = 0
bytes_before (l ∷ ls) = cond (begins l) 0 (length l + bytes_before ls)

unfoldable pub register_end : List ℕ → ℕ
register_end input = bytes_before (lines_of input)

-- the bytes of the register's lines
abbrev pub register_of : List ℕ → List ℕ
register_of input = take (register_end input) input

-- the lines of the queries
abbrev pub queries_of : List ℕ → List (List ℕ)
queries_of input = lines_of (drop (register_end input) input)

-- ---- opening

-- the most bytes that an input has
abbrev pub most_input : ℕ
most_input = 65536

-- what opening answers: a number, the first bad line of the register, from 1, or 0, and where the queries begin
pub record Opened : Type 0 where
  pub number : ℕ
  pub line : ℕ
  pub at : ℕ

-- what the code answers, set out: as the build's answer is, and where the queries begin
abbrev pub opened_in : Opening → Opened
opened_in o = record { number = (built_in o.built).number; line = (built_in o.built).line; at = o.at }

-- 8 for too much input, judged first, or the build's number and line; and where the queries begin
unfoldable pub opened_of : List ℕ → ℕ → Opened
opened_of input room =
    cond (ltb most_input (length input))
    (record { number = 8; line = 0; at = 0 })
    (record {
      number = (built_of (register_of input) room).number;
      line = (built_of (register_of input) room).line;
      at = register_end input;
    })

-- the words after opening: the build's, or blanks alone for too much input
unfoldable pub open_words : List ℕ → List ℕ → List ℕ
open_words input words = cond (ltb most_input (length input)) (replicate (length words) blank) (words_after (register_of input) words)

-- ---- an answer

abbrev pub row_line : ℕ → ℕ → ℕ → ℕ → List ℕ
row_line id shared size least = line_of row_frame (id ∷ shared ∷ size ∷ least ∷ []) []

abbrev pub end_line : ℕ → ℕ → ℕ → ℕ → List ℕ
end_line rows touches p q = line_of end_frame (rows ∷ touches ∷ p ∷ q ∷ []) []

abbrev pub refusal_line : ℕ → ℕ → List ℕ
refusal_line number touches = line_of refusal_frame (number ∷ touches ∷ []) []

-- the line of row k of some columns
abbrev pub row_text : Columns → ℕ → List ℕ
row_text c k = row_line (get_or c.ids k 0) (get_or c.shared k 0) (get_or c.sizes k 0) (get_or c.least k 0)

-- the lines of the first n rows
abbrev pub rows_text : Columns → ℕ → List ℕ
rows_text c n = joined (tabulate (row_text c) n)

-- the lines of rows that were found, and their end
unfoldable pub found_text : ℕ → ℕ → ℕ → ℕ → Columns → List ℕ
found_text rows touches p q c = rows_text c rows ++ end_line rows touches p q

-- the lines of an answer with its rows in columns
unfoldable pub answer_text : Answer → Columns → List ℕ
answer_text (Found rows touches p q) c = found_text rows touches p q c
answer_text (Refused number touches) c = refusal_line number touches

-- how many rows the program lends
abbrev pub rows_lent : ℕ
rows_lent = 256

-- how many bytes the longest answer has: a line for each row that is lent, and the end
abbrev pub longest_answer : ℕ
longest_answer = row_line_length * rows_lent + end_line_length

-- the query of a 51 line, and its fields
abbrev pub query_in : List ℕ → List ℕ
query_in line = name_in query_frame line

abbrev pub measure_in : List ℕ → ℕ
measure_in line = get_or (fields_in query_frame line) 0 0

abbrev pub p_in : List ℕ → ℕ
p_in line = get_or (fields_in query_frame line) 1 0

abbrev pub q_in : List ℕ → ℕ
q_in line = get_or (fields_in query_frame line) 2 0

abbrev pub allowance_in : List ℕ → ℕ
allowance_in line = get_or (fields_in query_frame line) 3 0

-- the search that a 51 line asks for
abbrev pub search_for : List ℕ → List ℕ → Answer
search_for w line = search_of (query_in line) (measure_in line) (p_in line) (q_in line) (allowance_in line) w rows_lent

-- the places of the names that it gives
abbrev pub places_for : List ℕ → List ℕ → List ℕ
places_for w line = places_given (query_in line) (measure_in line) (p_in line) (q_in line) (allowance_in line) w rows_lent

-- and their rows
abbrev pub columns_for : List ℕ → List ℕ → Columns
columns_for w line = columns_of w (measure_in line) (p_in line) (q_in line) (features_of (query_in line)) (places_for w line)

-- the lines that a query line is answered with; a line that is no 51 frame is refused with 11 and 0 touches
unfoldable pub answer_of : List ℕ → List ℕ → List ℕ
answer_of w line = cond (is_frame query_frame line) (answer_text (search_for w line) (columns_for w line)) (refusal_line 11 0)

-- ---- line by line

-- the lines that the line at a place of the input is answered with; none past the end
unfoldable pub line_text : List ℕ → List ℕ → ℕ → List ℕ
line_text w input at = cond (ltb at (length input)) (answer_of w (take (line_length (drop at input)) (drop at input))) []

-- what answering a line answers: a number and how many bytes, as writing does, and where the next line starts
pub record Response : Type 0 where
  pub number : ℕ
  pub len : ℕ
  pub next : ℕ

-- what the code answers, set out
abbrev pub responded_in : Responded → Response
responded_in r = record { number = (written_in r.written).number; len = (written_in r.written).len; next = r.next }

-- of that line: as its lines fit the room
unfoldable pub responded_of : List ℕ → List ℕ → ℕ → ℕ → Response
responded_of w input at room =
    record {
      number = (fitting_of (line_text w input at) room).number;
      len = (fitting_of (line_text w input at) room).len;
      next = at + line_length (drop at input);
    }

-- ---- lines of an output

-- whether a line is the last of an answer: a 45 or a 58 frame
unfoldable pub ends_answer : List ℕ → Bool
ends_answer l = is_frame end_frame l || is_frame refusal_frame l

-- the lines of an answer with its rows in columns: a 52 line for each row, in order, and a 45 line; or one 58 line
unfoldable pub answer_lines : Answer → Columns → List (List ℕ)
answer_lines (Found rows touches p q) c = tabulate (row_text c) rows ++ (end_line rows touches p q ∷ [])
answer_lines (Refused number touches) c = refusal_line number touches ∷ []

-- ---- the whole program

-- how many words its index has
abbrev pub program_words : ℕ
program_words = 16384

-- the answers of all query lines, one after the other
unfoldable pub answers_text : List ℕ → List (List ℕ) → List ℕ
answers_text w [] = []
answers_text w (l ∷ ls) = answer_of w l ++ answers_text w ls

-- its output: one refusal where opening is refused, and otherwise the answers
unfoldable pub output_of : List ℕ → List ℕ
output_of input =
    cond (eqb (opened_of input program_words).number 0)
    (answers_text (open_words input (replicate program_words 0)) (queries_of input))
    (refusal_line (opened_of input program_words).number 0)
