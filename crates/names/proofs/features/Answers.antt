-- `features` meets its contract: a refused name has none.
use Rattle.std.proofs.Common.{sym, ap, ◌∙◌}
use Rattle.refusals.proofs.Refusals.{refused}
use Rattle.names.specs.Set.{filled}
use Rattle.names.proofs.Laws.{features_refused}
use Rattle.names.proofs.features.Goals as goal

pub returns-in-Err : goal.returns-in-Err
returns-in-Err c = c.empty.ensures ∙ ap filled (sym (features_refused _ (λ e. refused c.in-Err.field-0 (c.in-Err.ensures ∙ e))))
