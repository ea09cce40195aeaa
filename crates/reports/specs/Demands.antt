-- The program `importer`, from the bytes of its input to the lines of its output, in full: what a reader has to believe, and nothing of how it is shown.
-- What it writes is `report_of input`: the one text that its code hands to a write is shown to be that (crates/importer_program, specs/Sending.antt).
-- What is said of an import is in specs/Demands.antt of `importer`. `Reports` has nothing left open, and is proved as it stands by `reports`.
-- Assumes nothing.
use Rattle.std.specs.Prelude.{◌≡◌, ◌↔◌, Bool, true, ◌||◌, List, [], ◌∷◌, ◌++◌, map, ℕ, ◌≤◌, ◌<◌, length, take, replicate}
use Rattle.laws.specs.Lists.{count_of}
use Rattle.lines.specs.Lines.{lines_of}
use Rattle.fields.specs.Layouts.{is_frame, name_in}
use Rattle.frames.specs.Frames.{query_frame}
use Rattle.log_frames.specs.Frames.{import_end_frame, import_refusal_frame}
use Rattle.weeks.specs.Pairs.{pairs_of}
use Rattle.register.specs.Build.{built_of}
use Rattle.answers.specs.Output.{register_of}
use Rattle.statements.specs.Demands.{Accepted}
use Rattle.importer.specs.Import.{Imported}
use Rattle.importer.specs.declared.Settings.{Settings}
use Rattle.importer.specs.Import.{most_lines, outcomes_in, entries_in, imported_of}
use Rattle.reports.specs.Report.{most_input, index_words, settings_line, log_of, index_of, settled, settings_in, outcome_line, pair_line, end_line, refusal_line, whole_part, register_part, settings_part, log_part, report_of}

-- ---- the parts of an input

-- its register is accepted
abbrev pub Registered : List ℕ → Type 0
Registered input = Accepted (register_of input) (replicate index_words 0)

-- its settings line is good
abbrev pub Settled : List ℕ → Type 0
Settled input = (settled (settings_line input)).number ≡ 0

-- the settings that it says
abbrev pub settings_of : List ℕ → Settings
settings_of input = settings_in (settings_line input)

-- the import of its log into the register's index, with room for every outcome and pair
abbrev pub import_of : List ℕ → Imported
import_of input = imported_of (log_of input) (index_of input) (settings_of input) most_lines most_lines

-- ---- the output

-- whether a line ends an output: a 5A or a 59 frame
unfoldable pub ends_report : List ℕ → Bool
ends_report l = is_frame import_end_frame l || is_frame import_refusal_frame l

pub record Report (input : List ℕ) : Type 0 where
  -- a settings line is good exactly if it is a 51 frame whose name is empty
  pub settings_line_lem : (line : List ℕ) → ((settled line).number ≡ 0) ↔ ((is_frame query_frame line ≡ true) × (name_in query_frame line ≡ []))
  -- too much input is refused with 8, whatever it holds
  pub too_much : most_input < length input → lines_of (report_of input) ≡ refusal_line whole_part 8 0 ∷ []
  -- a refused register with the build's number and line
  pub register_refused : length input ≤ most_input → (Registered input → ⊥)
      → lines_of (report_of input) ≡ refusal_line register_part (built_of (register_of input) index_words).number (built_of (register_of input) index_words).line ∷ []
  -- and never for want of room
  pub register_room : (built_of (register_of input) index_words).number ≡ 8 → ⊥
  -- then a settings line that is not good, or is not there, with 11 and line 1
  pub settings_refused : length input ≤ most_input → Registered input → (Settled input → ⊥) → lines_of (report_of input) ≡ refusal_line settings_part 11 1 ∷ []
  -- then a refused log with the import's number and line
  pub log_refused : length input ≤ most_input → Registered input → Settled input → ((import_of input).number ≡ 0 → ⊥)
      → lines_of (report_of input) ≡ refusal_line log_part (import_of input).number (import_of input).line ∷ []
  -- and never for want of room
  pub log_room : (import_of input).number ≡ 8 → ⊥
  -- otherwise the outcomes in line order, the pairs by id and then week, and the end with how many of each
  pub answered : length input ≤ most_input → Registered input → Settled input → (import_of input).number ≡ 0
      → let outcomes = outcomes_in (log_of input) (index_of input) (settings_of input) in
      let entries = entries_in (log_of input) (index_of input) (settings_of input) in
      lines_of (report_of input)
      ≡ map outcome_line outcomes ++ (map (pair_line entries) (pairs_of entries) ++ (end_line (length outcomes) (length (pairs_of entries)) ∷ []))
  -- in each case exactly one line is a 5A or a 59 frame
  pub once : count_of ends_report (lines_of (report_of input)) ≡ 1
  -- and none wherever the output breaks off
  pub broken : (n : ℕ) → n < length (report_of input) → count_of ends_report (lines_of (take n (report_of input))) ≡ 0

abbrev pub Reports : Type 0
Reports = (input : List ℕ) → Report input
