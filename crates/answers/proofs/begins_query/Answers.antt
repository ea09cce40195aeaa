-- `begins_query` meets its contract.
use mathlib.Core.Path.{◌∙◌}
use Rattle.answers.proofs.Input.{begins_tested}
use Rattle.answers.proofs.begins_query.Goals as goal

pub returns : goal.returns
returns c = c.starts_with.ensures.value ∙ begins_tested c.args.line.now
