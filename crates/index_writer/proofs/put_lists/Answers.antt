-- `put_lists` meets its contract: after i turns, the ids of the first i postings are there.
use mathlib.Core.Path.{◌≡◌, sym, ap, ap₂, ◌∙◌}
use mathlib.Core.List.{List, map}
use Prim.Native.Nat.{ℕ, ◌/◌}
use native.Mathlib.Omega.{arith}
use lib.ListN.{length, get_or, set, length-map}
use Rattle.laws.proofs.Tables.{table_over, over_nil, over_step}
use Rattle.index_writer.specs.Keys.{id_at}
use Rattle.index_writer.proofs.Over.{over_all}
use Rattle.laws.proofs.Images.{get_d_map_lt}
use Rattle.index_writer.proofs.put_lists.Goals as goal

pub loop-i-init : goal.loop-i-init
loop-i-init c = let a = c.args in over_nil (λ (k : ℕ). id_at a.names.now (get_or a.keys.now k 0)) a.out.now

pub loop-i-preserved : goal.loop-i-preserved
loop-i-preserved c =
    let l = c.loop-i in
    let a = c.args in
    let p = c.requires.0 in
    ap₂ (λ (o : List ℕ) (v : ℕ). set o l.i (v / 256)) l.invariant c.word_at.ensures ∙ over_step (λ (k : ℕ). id_at a.names.now (get_or a.keys.now k 0)) l.i a.out.now (omega arith)

pub returns : goal.returns
returns c =
    let l = c.loop-i in
    let a = c.args in
    let p = c.requires.0 in
    let e : l.i ≡ length a.out.now = omega arith in
    l.invariant
    ∙ ap (λ (n : ℕ). table_over (λ (k : ℕ). id_at a.names.now (get_or a.keys.now k 0)) n a.out.now) e
    ∙ over_all (λ (k : ℕ). id_at a.names.now (get_or a.keys.now k 0)) a.out.now (map (id_at a.names.now) a.keys.now) 0
    (length-map a.keys.now (id_at a.names.now) ∙ sym p) (λ k h. get_d_map_lt (id_at a.names.now) a.keys.now k 0 0 (omega arith))
