-- `put_rows` meets its contract: after i turns, the rows of the first i postings are there.
use mathlib.Core.Path.{◌≡◌, subst}
use Prim.Native.Nat.{ℕ}
use native.Mathlib.Omega.{arith}
use lib.ListN.{length}
use Rattle.index_writer.specs.Keys.{triples_at}
use Rattle.index_writer.specs.Steps.{RowsAt}
use Rattle.index_writer.proofs.Rows.{at_nil}
use Rattle.index_writer.proofs.put_rows.Goals as goal

pub loop-i-init : goal.loop-i-init
loop-i-init c = let a = c.args in at_nil (triples_at a.names.now a.keys.now) a.out.now

pub returns : goal.returns
returns c =
    let l = c.loop-i in
    let a = c.args in
    let e : l.i ≡ length a.keys.now = omega arith in
    subst (λ (k : ℕ). RowsAt (triples_at a.names.now a.keys.now) k l.d l.out) e l.invariant
