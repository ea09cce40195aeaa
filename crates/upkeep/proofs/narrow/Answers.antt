-- `narrow` meets its contract: after i turns, the first i features are copied.
use mathlib.Core.Path.{◌≡◌, refl, sym, ap, ◌∙◌}
use mathlib.Core.List.{List}
use Prim.Native.Nat.{ℕ}
use native.Mathlib.Omega.{arith}
use lib.ListN.{length, get_or, set}
use Rattle.laws.proofs.Tables.{table_over, over_nil, over_step}
use Rattle.index_writer.proofs.Over.{over_all}
use Rattle.upkeep.proofs.narrow.Goals as goal

pub loop-i-init : goal.loop-i-init
loop-i-init c = over_nil (λ (k : ℕ). get_or c.args.items.now k 0) c.args.out.now

pub overflow_cast-out : goal.overflow_cast-out
overflow_cast-out c = let b = c.requires.1 c.loop-i.i (omega arith) in record { fits = omega arith }

pub loop-i-preserved : goal.loop-i-preserved
loop-i-preserved c =
    let a = c.args in
    let i = c.loop-i.i in
    let p = c.requires.0 in
    ap (λ (t : List ℕ). set t i (get_or a.items.now i 0)) c.loop-i.invariant ∙ over_step (λ (k : ℕ). get_or a.items.now k 0) i a.out.now (omega arith)

pub returns : goal.returns
returns c =
    let a = c.args in
    let p = c.requires.0 in
    let e : c.loop-i.i ≡ length a.out.now = omega arith in
    c.loop-i.invariant
    ∙ ap (λ (n : ℕ). table_over (λ (k : ℕ). get_or a.items.now k 0) n a.out.now) e
    ∙ over_all (λ (k : ℕ). get_or a.items.now k 0) a.out.now a.items.now 0 (sym p) (λ k h. refl)
