-- `report_log` meets its contract: a refused import is one line, and the tables of an answered one hold its lines.
use mathlib.Core.Path.{refl, ap, ◌∙◌}
use mathlib.Core.List.{List}
use Prim.Native.Nat.{ℕ}
use lib.ListN.{length}
use Rattle.fields.specs.Fitted.{fitting_of, fitted_of}
use Rattle.refusals.proofs.Refusals.{refused}
use Rattle.reports.proofs.Import.{refused_line, few, answered_text}
use Rattle.reports.proofs.report_log.Goals as goal

pub put_tables-requires : goal.put_tables-requires
put_tables-requires c = few _ _ _ _ _ _ _ _ refl refl c.in-Ok.ensures refl

pub returns-in-Ok : goal.returns-in-Ok
returns-in-Ok c =
    let a = c.args in
    let w = c.put_tables.ensures in
    let t = answered_text _ _ _ _ _ _ _ _ refl refl c.in-Ok.ensures refl in
    (w.0 ∙ ap (λ (l : List ℕ). fitting_of l (length a.out.now)) t, w.1 ∙ ap (λ (l : List ℕ). fitted_of l a.out.now) t)

pub returns-in-Err : goal.returns-in-Err
returns-in-Err c =
    let a = c.args in
    let w = c.refuse.ensures in
    let t = refused_line _ _ _ _ _ _ _ _ refl refl c.in-Err.ensures (refused c.in-Err.refused.refusal) in
    (w.0 ∙ ap (λ (l : List ℕ). fitting_of l (length a.out.now)) t, w.1 ∙ ap (λ (l : List ℕ). fitted_of l a.out.now) t)
