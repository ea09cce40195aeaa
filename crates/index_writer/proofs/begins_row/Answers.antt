-- `begins_row` meets its contract: the two cases of the definition, and two postings of one row have one row key.
use mathlib.Core.Path.{◌≡◌, sym, ap, ap₂, ◌∙◌}
use Prim.Native.Nat.{ℕ, suc, ◌-◌, ◌/◌}
use native.Mathlib.Omega.{arith}
use mathlib.Core.Bool.{not}
use lib.ListN.{get_or}
use lib.Dec.{eqb}
use Rattle.index_writer.specs.Built.{id_span}
use Rattle.index_writer.specs.Keys.{triples_at}
use Rattle.index_writer.specs.Steps.{begins_row}
use Rattle.index_writer.proofs.Keys.{same_row}
use Rattle.index_writer.proofs.begins_row.Goals as goal

pub returns-then-i-eq0 : goal.returns-then-i-eq0
unfolding begins_row
returns-then-i-eq0 c = rw c.if-i-eq0.true

pub returns-else-i-eq0 : goal.returns-else-i-eq0
unfolding begins_row
returns-else-i-eq0 c =
    let n = c.if-i-eq0.false in
    let a = c.args in
    let h = c.requires.0 in
    let e : a.i ≡ suc (a.i - 1) = omega arith in
    let ts = triples_at a.names.now a.keys.now in
    ap₂ (λ (x y : ℕ). not (eqb x y)) c.run_key.ensures c.run_key-else-i-eq0.ensures
    ∙ ap not (same_row c.requires.1 (a.i - 1) a.i (omega arith) h)
    ∙ sym (ap (begins_row ts) e ∙ ap (λ (k : ℕ). not (eqb (get_or ts (a.i - 1) 0 / id_span) (get_or ts k 0 / id_span))) (sym e))
