-- `put_names` meets its contract: after i turns, the first i words are copied.
use mathlib.Core.Path.{◌≡◌, refl, sym, ap, ◌∙◌}
use mathlib.Core.List.{List}
use Prim.Native.Nat.{ℕ}
use native.Mathlib.Omega.{arith}
use lib.ListN.{length, get_or, set}
use Rattle.laws.proofs.Tables.{table_over, over_nil, over_step}
use Rattle.index_writer.proofs.Over.{over_all}
use Rattle.index_writer.proofs.put_names.Goals as goal

pub loop-i-init : goal.loop-i-init
loop-i-init c = over_nil (λ (k : ℕ). get_or c.args.names.now k 0) c.args.out.now

pub loop-i-preserved : goal.loop-i-preserved
loop-i-preserved c =
    let a = c.args in
    let l = c.loop-i in
    let p = c.requires in
    ap (λ (t : List ℕ). set t l.i (get_or a.names.now l.i 0)) l.invariant ∙ over_step (λ (k : ℕ). get_or a.names.now k 0) l.i a.out.now (omega arith)

pub returns : goal.returns
returns c =
    let a = c.args in
    let l = c.loop-i in
    let p = c.requires in
    let e : l.i ≡ length a.out.now = omega arith in
    l.invariant
    ∙ ap (λ (n : ℕ). table_over (λ (k : ℕ). get_or a.names.now k 0) n a.out.now) e
    ∙ over_all (λ (k : ℕ). get_or a.names.now k 0) a.out.now a.names.now 0 (sym p) (λ k h. refl)
