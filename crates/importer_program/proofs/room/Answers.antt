-- An array is as long as it says.
use Rattle.std.proofs.Common.{sym, ℕ, ◌+◌}
use lib.ListN.{length-replicate}
use Rattle.reports.specs.Report.{most_input}
use Rattle.importer_program.proofs.room.Goals as goal

pub returns : goal.returns
returns c = sym (length-replicate {A = ℕ} (most_input + 1) 0)
