-- Every line of an output reads back as what it says: no field is cut to its bytes. Which lines an output has is in specs/Demands.antt.
-- `ReadsBack` has nothing left open, and is proved as it stands by `reads_back`.
-- Assumes nothing.
use Rattle.std.specs.Prelude.{◌≡◌, true, List, ℕ, length}
use Rattle.laws.specs.Lists.{member}
use Rattle.fields.specs.Layouts.{read_of}
use Rattle.log_frames.specs.Frames.{outcome_frame, pair_frame, import_end_frame, import_refusal_frame, outcome_out, pair_out, import_end_out, import_refusal_out, an_outcome, a_pair, an_import_end, an_import_refusal}
use Rattle.weeks.specs.Pairs.{id_in, week_in, pairs_of, sum_for, count_for}
use Rattle.register.specs.Build.{built_of}
use Rattle.answers.specs.Output.{register_of}
use Rattle.importer.specs.Import.{case_of, value_of, outcome_of, outcomes_in, entries_in}
use Rattle.reports.specs.Report.{index_words, log_of, index_of, outcome_line, pair_line, end_line, refusal_line, whole_part, register_part, settings_part, log_part}
use Rattle.reports.specs.Demands.{settings_of, import_of}

pub record ReadBack (input : List ℕ) : Type 0 where
  -- the outcome of each line of the log, with its case and its value; so of any line
  pub outcome : (line : List ℕ) → let o = outcome_of (index_of input) (settings_of input) line in
      read_of outcome_frame (outcome_line o) 0 ≡ outcome_out (an_outcome (case_of o) (value_of o))
  -- where the import is answered, each pair, with its id, week, sum and count
  pub pair : (import_of input).number ≡ 0
      → let entries = entries_in (log_of input) (index_of input) (settings_of input) in
      (k : ℕ) → member k (pairs_of entries) ≡ true
      → read_of pair_frame (pair_line entries k) 0 ≡ pair_out (a_pair (id_in k) (week_in k) (sum_for entries k) (count_for entries k))
  -- and the end, with how many outcomes and pairs there are
  pub end : (import_of input).number ≡ 0
      → let outcomes = length (outcomes_in (log_of input) (index_of input) (settings_of input)) in
      let pairs = length (pairs_of (entries_in (log_of input) (index_of input) (settings_of input))) in
      read_of import_end_frame (end_line outcomes pairs) 0 ≡ import_end_out (an_import_end outcomes pairs)
  -- the refusal of too much input
  pub too_much : read_of import_refusal_frame (refusal_line whole_part 8 0) 0 ≡ import_refusal_out (an_import_refusal whole_part 8 0)
  -- of a register, with the number and the line of its build
  pub register_refused : let b = built_of (register_of input) index_words in
      read_of import_refusal_frame (refusal_line register_part b.number b.line) 0 ≡ import_refusal_out (an_import_refusal register_part b.number b.line)
  -- of a settings line
  pub settings_refused : read_of import_refusal_frame (refusal_line settings_part 11 1) 0 ≡ import_refusal_out (an_import_refusal settings_part 11 1)
  -- and of a log, with the number and the line of its import
  pub log_refused : let r = import_of input in
      read_of import_refusal_frame (refusal_line log_part r.number r.line) 0 ≡ import_refusal_out (an_import_refusal log_part r.number r.line)

abbrev pub ReadsBack : Type 0
ReadsBack = (input : List ℕ) → ReadBack input
