-- `refuse` meets its contract: the low bytes of the line are all that its frame says.
use mathlib.Core.Path.{◌∙◌}
use lib.ListN.{length}
use Rattle.reports.proofs.Text.{refusal_written, refusal_out_lem}
use Rattle.reports.proofs.refuse.Goals as goal

pub returns : goal.returns
returns c =
    let a = c.args in
    let w = c.write_import_refusal.ensures in
    let e = c.number-number.ensures in
    let p = c.number.ensures in
    rw (← e, ← p) (w.value ∙ refusal_written _ _ a.refused.line (length a.out.now), w.out_after ∙ refusal_out_lem _ _ a.refused.line a.out.now)
