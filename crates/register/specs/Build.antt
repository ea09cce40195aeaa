-- Building an index from a register: the judging of a line, the names of all lines, and what a build answers and leaves in the words.
-- The order in which a line is judged is `line_cases` alone.
-- Assumes nothing.
use Rattle.std.specs.Prelude.{Result, Ok, Err, Bool, cond, not, List, [], ◌∷◌, ◌++◌, map, ℕ, ◌+◌, ◌*◌, length, get_or, take, replicate, eqb, leb, ltb}
use Rattle.laws.specs.Cases.{Case, case, first_case}
use Rattle.refusals.specs.declared.LineRefusal.{LineRefusal}
use Rattle.refusals.specs.Refusals.{refusal_number}
use Rattle.names.specs.Names.{name_cases}
use Rattle.names.specs.Features.{features_of}
use Rattle.fields.specs.Layouts.{is_frame, fields_in, name_in}
use Rattle.frames.specs.Frames.{name_frame}
use Rattle.words.specs.Words.{head_width, name_width, row_width}
use Rattle.index.specs.Good.{most_names, most_postings}
use Rattle.index_writer.specs.Built.{Entry, words_of}
use Rattle.index_writer.specs.Written.{blank, fits_in, pad_to}
use Rattle.lines.specs.Lines.{lines_of, nth_line}

-- ---- one line

-- the id that a line says
abbrev pub id_in : List ℕ → ℕ
id_in line = get_or (fields_in name_frame line) 0 0

-- the name that a line says
abbrev pub name_of : List ℕ → List ℕ
name_of line = name_in name_frame line

-- the least id that may follow the names, which is one above the last; n where there is no name
unfoldable pub next_from : ℕ → List Entry → ℕ
next_from n [] = n
next_from n (e ∷ es) = next_from (e.id + 1) es

-- any id may come first
abbrev pub next_id : List Entry → ℕ
next_id es = next_from 0 es

-- the refusals of a line after `count` names, whose id has to be at least `next`, in the order in which they are judged: no 4E frame, the name's, an id
-- that is not above the one before, one name too many
abbrev pub line_cases : ℕ → ℕ → List ℕ → List Case
line_cases count next line =
    case 11 (not (is_frame name_frame line)) ∷ (name_cases (name_of line) ++ (case 9 (ltb (id_in line) next) ∷ case 10 (leb most_names count) ∷ []))

-- the number of the line: the first that applies, or 0 for a good line
unfoldable pub judge_line : ℕ → ℕ → List ℕ → ℕ
judge_line count next line = first_case (line_cases count next line)

-- the name of a good line with its features
abbrev pub entry_of : List ℕ → Entry
entry_of line = record { id = id_in line; features = features_of (name_of line) }

-- ---- all lines

-- what the lines come to: the number and the place of the first bad one, from 1, or 0 and 0 and all names
pub record Taken : Type 0 where
  pub number : ℕ
  pub line : ℕ
  pub entries : List Entry

-- the lines after those that gave the names es, a name a line
unfoldable pub take_lines : List Entry → List (List ℕ) → Taken
take_lines es [] = record { number = 0; line = 0; entries = es }
take_lines es (l ∷ ls) =
    let n = judge_line (length es) (next_id es) l in
    let r = take_lines (es ++ (entry_of l ∷ [])) ls in
    cond (eqb n 0) r (record { number = n; line = length es + 1; entries = [] })

unfoldable pub taken_of : List ℕ → Taken
taken_of register = take_lines [] (lines_of register)

-- the number of line i, from 0, judged after the names of the lines before it
abbrev pub judge_nth : List ℕ → ℕ → ℕ
judge_nth register i = judge_line i (next_id (map entry_of (take i (lines_of register)))) (nth_line register i)

-- the names of a register; none where a line is bad
abbrev pub entries_of : List ℕ → List Entry
entries_of register = (taken_of register).entries

-- ---- the whole

-- how many words are room for the index of every register: as many names and postings as there can be, and a row for each posting
abbrev pub most_words : ℕ
most_words = head_width + name_width * most_names + (row_width + 1) * most_postings

-- whether the index of the names fits the room
abbrev pub room_for : List Entry → ℕ → Bool
room_for es room = fits_in room (words_of es)

-- what a build answers: its number, and the place of the first bad line, from 1, or 0
pub record Built : Type 0 where
  pub number : ℕ
  pub line : ℕ

-- the answer of a build, set out: 0 and 0, or the number of the refusal and its line
abbrev pub built_in : {A : Type 0} → Result A LineRefusal → Built
built_in (Ok x) = record { number = 0; line = 0 }
built_in (Err r) = record { number = refusal_number r.refusal; line = r.line }

-- the answer of a build into so many words: the first bad line, then 8 and line 0 where the index does not fit, then 0 and 0
unfoldable pub built_of : List ℕ → ℕ → Built
built_of register room =
    cond (eqb (taken_of register).number 0)
    (cond (room_for (entries_of register) room) (record { number = 0; line = 0 }) (record { number = 8; line = 0 }))
    (record { number = (taken_of register).number; line = (taken_of register).line })

-- the words after a build: the index and then blanks, or blanks alone where the build is refused
unfoldable pub words_after : List ℕ → List ℕ → List ℕ
words_after register words =
    cond (eqb (built_of register (length words)).number 0) (pad_to (length words) (words_of (entries_of register))) (replicate (length words) blank)
