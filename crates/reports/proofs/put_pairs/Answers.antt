-- `put_pairs` meets its contract: in front stand the lines so far.
use mathlib.Core.Path.{◌≡◌, ap, ◌∙◌}
use mathlib.Core.List.{List, ◌++◌}
use Prim.Native.Nat.{ℕ, ◌+◌, ◌*◌}
use native.Mathlib.Omega.{arith}
use lib.ListN.{length, take, drop}
use Rattle.laws.specs.Lists.{tabulate}
use Rattle.lines.specs.Lines.{joined}
use Rattle.lines.proofs.Evenly.{texts_none, texts_more, texts_all, length_kept}
use Rattle.log_frames.specs.Frames.{pair_line_length}
use Rattle.weeks.specs.Pairs.{as_columns}
use Rattle.reports.specs.Tables.{pair_at}
use Rattle.reports.proofs.Text.{pair_even}
use Rattle.reports.proofs.put_pairs.Goals as goal

pub loop-k-init : goal.loop-k-init
loop-k-init c = let a = c.args in texts_none (pair_at (as_columns a.ids.now a.weeks.now a.sums.now a.counts.now)) pair_line_length (pair_even (as_columns a.ids.now a.weeks.now a.sums.now a.counts.now)) a.out.now

pub put_pair-requires : goal.put_pair-requires
put_pair-requires c =
    let a = c.args in
    let l = c.loop-k in
    let few = c.requires.0 in
    let n = c.requires.2 in
    let r = as_columns a.ids.now a.weeks.now a.sums.now a.counts.now in
    let e = ap length l.invariant ∙ length_kept (pair_at r) pair_line_length (pair_even r) a.out.now l.k (omega arith) in
    (omega arith, omega arith)

pub loop-k-preserved : goal.loop-k-preserved
loop-k-preserved c =
    let a = c.args in
    let l = c.loop-k in
    let r = as_columns a.ids.now a.weeks.now a.sums.now a.counts.now in
    let line = pair_at r l.k in
    c.put_pair.ensures
    ∙ ap (λ (s : List ℕ). take (pair_line_length * l.k) s ++ (line ++ drop (pair_line_length * l.k + pair_line_length) s)) l.invariant
    ∙ texts_more (pair_at r) pair_line_length (pair_even r) a.out.now l.k

pub shape_of-out : goal.shape_of-out
shape_of-out c =
    let a = c.args in
    let l = c.loop-k in
    let n = c.requires.2 in
    let r = as_columns a.ids.now a.weeks.now a.sums.now a.counts.now in
    ap length l.invariant ∙ length_kept (pair_at r) pair_line_length (pair_even r) a.out.now l.k (omega arith)

pub returns : goal.returns
returns c =
    let a = c.args in
    let r = as_columns a.ids.now a.weeks.now a.sums.now a.counts.now in
    let k : c.loop-k.k ≡ a.n = omega arith in
    c.loop-k.invariant
    ∙ ap (λ (m : ℕ). joined (tabulate (pair_at r) m) ++ drop (pair_line_length * m) a.out.now) k
    ∙ texts_all (pair_at r) pair_line_length (pair_even r) a.out.now a.n c.requires.2
