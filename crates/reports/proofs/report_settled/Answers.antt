-- `report_settled` meets its contract: with no room for a name, the settings line is read exactly where it has none.
use mathlib.Core.Path.{ap, ◌∙◌}
use mathlib.Core.List.{List}
use Prim.Native.Nat.{ℕ}
use lib.ListN.{length}
use Rattle.fields.specs.Fitted.{fitting_of, fitted_of}
use Rattle.reports.proofs.Parts.{settings_bad, settings_good}
use Rattle.reports.proofs.report_settled.Goals as goal

pub returns-in_default : goal.returns-in_default
returns-in_default c =
    let a = c.args in
    let w = c.refuse.ensures in
    let t = settings_bad a.line.now a.log.now a.words.now c.in_default.field-0 c.in_default.ensures.result_value in
    (w.0 ∙ ap (λ (l : List ℕ). fitting_of l (length a.out.now)) t, w.1 ∙ ap (λ (l : List ℕ). fitted_of l a.out.now) t)

pub returns : goal.returns
returns c =
    let a = c.args in
    let w = c.report_log.ensures in
    let t = settings_good a.line.now a.log.now a.words.now c.in-Ok.read c.in-Ok.ensures.result_value in
    (w.0 ∙ ap (λ (l : List ℕ). fitting_of l (length a.out.now)) t, w.1 ∙ ap (λ (l : List ℕ). fitted_of l a.out.now) t)
