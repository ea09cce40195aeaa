-- The lines of an import out of the tables that it was lent: line k from place k of each.
-- Assumes nothing.
use Rattle.std.specs.Prelude.{List, [], ◌∷◌, ◌++◌, ℕ, get_or}
use Rattle.laws.specs.Lists.{tabulate}
use Rattle.lines.specs.Lines.{joined}
use Rattle.fields.specs.Layouts.{line_of}
use Rattle.log_frames.specs.Frames.{outcome_frame, pair_frame}
use Rattle.weeks.specs.Pairs.{Columns}
use Rattle.importer.specs.Import.{Outcomes}
use Rattle.reports.specs.Report.{end_line}

abbrev pub outcome_text : ℕ → ℕ → List ℕ
outcome_text case value = line_of outcome_frame (case ∷ value ∷ []) []

abbrev pub outcome_at : Outcomes → ℕ → List ℕ
outcome_at o k = outcome_text (get_or o.cases k 0) (get_or o.values k 0)

abbrev pub pair_text : ℕ → ℕ → ℕ → ℕ → List ℕ
pair_text id week sum count = line_of pair_frame (id ∷ week ∷ sum ∷ count ∷ []) []

abbrev pub pair_at : Columns → ℕ → List ℕ
pair_at c k = pair_text (get_or c.ids k 0) (get_or c.weeks k 0) (get_or c.sums k 0) (get_or c.counts k 0)

-- the first n outcomes, the first m pairs, and the end
unfoldable pub tables_text : ℕ → ℕ → Outcomes → Columns → List ℕ
tables_text n m o c = (joined (tabulate (outcome_at o) n) ++ joined (tabulate (pair_at c) m)) ++ end_line n m
