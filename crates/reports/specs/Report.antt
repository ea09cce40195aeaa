-- What the importer makes of an input, byte by byte: its three parts, the refusals in their order, and the lines of its output.
-- What an import answers: specs/Import.antt of `importer`; the frames: specs/Frames.antt of `log_frames`.
-- Assumes nothing.
use Rattle.std.specs.Prelude.{cond, List, [], ◌∷◌, ◌++◌, map, ℕ, ◌+◌, ◌*◌, length, get_or, take, drop, replicate, eqb, ltb}
use Rattle.lines.specs.Lines.{line_length, joined}
use Rattle.fields.specs.Layouts.{Reading, line_of, read_of}
use Rattle.frames.specs.Frames.{query_frame}
use Rattle.log_frames.specs.Frames.{outcome_frame, pair_frame, import_end_frame, import_refusal_frame, outcome_line_length, pair_line_length, import_end_line_length}
use Rattle.weeks.specs.Pairs.{id_in, week_in, pairs_of, sum_for, count_for}
use Rattle.index.specs.Good.{most_names}
use Rattle.register.specs.Build.{most_words, built_of, words_after}
use Rattle.answers.specs.Output.{register_end, register_of}
use Rattle.importer.specs.declared.Settings.{Settings}
use Rattle.reports.specs.declared.Part.{Part}
use Rattle.reports.specs.declared.Part.TheVariants.{Whole, Register, Settings as SettingsLine, Log}
use Rattle.importer.specs.declared.Outcome.{Outcome}
use Rattle.importer.specs.Import.{settings, most_lines, case_of, value_of, outcomes_in, entries_in, imported_of}

-- ---- its limits

-- the most bytes of an input: as many 4E lines as a register has names and as many 4C lines as a log has lines, with the longest names that a frame
-- takes, 519 and 523 bytes each, and a settings line of 23
abbrev pub most_input : ℕ
most_input = 519 * most_names + 23 + 523 * most_lines

-- how many words its index has: room for every register
abbrev pub index_words : ℕ
index_words = most_words

-- how many bytes the longest output has: a line for each outcome and each pair, and the end
abbrev pub longest_report : ℕ
longest_report = outcome_line_length * most_lines + pair_line_length * most_lines + import_end_line_length

-- ---- the parts of an input

-- the register, as `lookup` has it, then one line, the settings, and after it the log; what begins with the settings line
abbrev pub after_register : List ℕ → List ℕ
after_register input = drop (register_end input) input

-- the first line that begins with 51; no bytes where there is none
abbrev pub settings_line : List ℕ → List ℕ
settings_line input = take (line_length (after_register input)) (after_register input)

abbrev pub log_of : List ℕ → List ℕ
log_of input = drop (line_length (after_register input)) (after_register input)

-- the index of the register
abbrev pub index_of : List ℕ → List ℕ
index_of input = words_after (register_of input) (replicate index_words 0)

-- a settings line is a 51 line with no room for a name: number 0 exactly where its name is empty
abbrev pub settled : List ℕ → Reading
settled line = read_of query_frame line 0

-- what it says: measure, p, q, allowance
abbrev pub settings_in : List ℕ → Settings
settings_in line =
    settings (get_or (settled line).fields 0 0) (get_or (settled line).fields 1 0) (get_or (settled line).fields 2 0) (get_or (settled line).fields 3 0)

-- ---- the lines of an output

-- a 4F line
abbrev pub outcome_line : Outcome → List ℕ
outcome_line o = line_of outcome_frame (case_of o ∷ value_of o ∷ []) []

-- a 50 line
abbrev pub pair_line : List ℕ → ℕ → List ℕ
pair_line entries pair = line_of pair_frame (id_in pair ∷ week_in pair ∷ sum_for entries pair ∷ count_for entries pair ∷ []) []

-- a 5A line
abbrev pub end_line : ℕ → ℕ → List ℕ
end_line outcomes pairs = line_of import_end_frame (outcomes ∷ pairs ∷ []) []

-- a 59 line, and the parts that it names
abbrev pub refusal_line : ℕ → ℕ → ℕ → List ℕ
refusal_line part number line = line_of import_refusal_frame (part ∷ number ∷ line ∷ []) []

abbrev pub whole_part : ℕ
whole_part = 0

abbrev pub register_part : ℕ
register_part = 1

abbrev pub settings_part : ℕ
settings_part = 2

abbrev pub log_part : ℕ
log_part = 3

abbrev pub part_number : Part → ℕ
part_number Whole = whole_part
part_number Register = register_part
part_number SettingsLine = settings_part
part_number Log = log_part

-- the lines of an import that is answered: its outcomes, its pairs, and the end with how many of each
unfoldable pub answer_lines : List Outcome → List ℕ → List (List ℕ)
answer_lines outcomes entries =
    map outcome_line outcomes ++ (map (pair_line entries) (pairs_of entries) ++ (end_line (length outcomes) (length (pairs_of entries)) ∷ []))

-- the lines of an import of a log, with room for every outcome and pair; one refusal where it is refused
unfoldable pub import_lines : List ℕ → List ℕ → Settings → List (List ℕ)
import_lines log words s =
    let r = imported_of log words s most_lines most_lines in
    cond (eqb r.number 0) (answer_lines (outcomes_in log words s) (entries_in log words s)) (refusal_line log_part r.number r.line ∷ [])

-- the lines of a settings line and a log; one refusal where the settings line is none
unfoldable pub settled_lines : List ℕ → List ℕ → List ℕ → List (List ℕ)
settled_lines line log words =
    cond (eqb (settled line).number 0) (import_lines log words (settings_in line)) (refusal_line settings_part 11 1 ∷ [])

-- ---- the whole

-- the lines of its output: one refusal for too much input, a register that is refused, a settings line that is none, or a log that is refused, judged
-- in this order; or the lines of the import
unfoldable pub report_lines : List ℕ → List (List ℕ)
report_lines input =
    let b = built_of (register_of input) index_words in
    cond (ltb most_input (length input)) (refusal_line whole_part 8 0 ∷ [])
    (cond (eqb b.number 0)
    (settled_lines (settings_line input) (log_of input) (index_of input))
    (refusal_line register_part b.number b.line ∷ []))

-- its output
unfoldable pub report_of : List ℕ → List ℕ
report_of input = joined (report_lines input)
