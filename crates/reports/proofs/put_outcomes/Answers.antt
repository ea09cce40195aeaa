-- `put_outcomes` meets its contract: in front stand the lines so far.
use mathlib.Core.Path.{◌≡◌, ap, ◌∙◌}
use mathlib.Core.List.{List, ◌++◌}
use Prim.Native.Nat.{ℕ, ◌+◌, ◌*◌}
use native.Mathlib.Omega.{arith}
use lib.ListN.{length, take, drop}
use Rattle.laws.specs.Lists.{tabulate}
use Rattle.lines.specs.Lines.{joined}
use Rattle.lines.proofs.Evenly.{texts_none, texts_more, texts_all, length_kept}
use Rattle.log_frames.specs.Frames.{outcome_line_length}
use Rattle.importer.specs.Import.{as_outcomes}
use Rattle.reports.specs.Tables.{outcome_at}
use Rattle.reports.proofs.Text.{outcome_even}
use Rattle.reports.proofs.put_outcomes.Goals as goal

pub loop-k-init : goal.loop-k-init
loop-k-init c = let a = c.args in texts_none (outcome_at (as_outcomes a.cases.now a.values.now)) outcome_line_length (outcome_even (as_outcomes a.cases.now a.values.now)) a.out.now

pub put_outcome-requires : goal.put_outcome-requires
put_outcome-requires c =
    let a = c.args in
    let l = c.loop-k in
    let few = c.requires.0 in
    let n = c.requires.2 in
    let r = as_outcomes a.cases.now a.values.now in
    let e = ap length l.invariant ∙ length_kept (outcome_at r) outcome_line_length (outcome_even r) a.out.now l.k (omega arith) in
    (omega arith, omega arith)

pub loop-k-preserved : goal.loop-k-preserved
loop-k-preserved c =
    let a = c.args in
    let l = c.loop-k in
    let r = as_outcomes a.cases.now a.values.now in
    let line = outcome_at r l.k in
    c.put_outcome.ensures
    ∙ ap (λ (s : List ℕ). take (outcome_line_length * l.k) s ++ (line ++ drop (outcome_line_length * l.k + outcome_line_length) s)) l.invariant
    ∙ texts_more (outcome_at r) outcome_line_length (outcome_even r) a.out.now l.k

pub shape_of-out : goal.shape_of-out
shape_of-out c =
    let a = c.args in
    let l = c.loop-k in
    let n = c.requires.2 in
    let r = as_outcomes a.cases.now a.values.now in
    ap length l.invariant ∙ length_kept (outcome_at r) outcome_line_length (outcome_even r) a.out.now l.k (omega arith)

pub returns : goal.returns
returns c =
    let a = c.args in
    let r = as_outcomes a.cases.now a.values.now in
    let k : c.loop-k.k ≡ a.n = omega arith in
    c.loop-k.invariant
    ∙ ap (λ (m : ℕ). joined (tabulate (outcome_at r) m) ++ drop (outcome_line_length * m) a.out.now) k
    ∙ texts_all (outcome_at r) outcome_line_length (outcome_even r) a.out.now a.n c.requires.2
