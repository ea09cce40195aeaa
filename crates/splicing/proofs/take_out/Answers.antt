-- `take_out` meets its contract: the words at the first i places are taken out.
-- Assumes nothing.
use mathlib.Core.Path.{◌≡◌, refl, sym, ap, ◌∙◌}
use Prim.Native.Nat.{ℕ, ◌+◌}
use native.Mathlib.Omega.{arith}
use lib.ListN.{get_or}
use Rattle.std.proofs.Common.{rules, List, Option, Some, None, Bor, unwrap_or}
use Rattle.std.specs.Option.{option_map, option_map_or}
use Rattle.splicing.proofs.Lemmas.{get_d_there, block_after, take_starts, length_kept, taking, take_step}
use Rattle.splicing.proofs.take_out.Goals as goal

pub loop-i-init : goal.loop-i-init
loop-i-init c = sym (take_starts c.args.at.now c.args.words.now _)

-- the next place, or the end after the last
next_is : (at : List ℕ) (k d r : ℕ) (o : Option (Bor ℕ)) → r ≡ option_map_or (λ (x : Bor ℕ). x.now) o d
    → unwrap_or (option_map (λ (x : Bor ℕ). x.now) o) d ≡ get_or at k d → r ≡ get_or at k d
next_is at k d r None e f = e ∙ f
next_is at k d r (Some x) e f = e ∙ f

pub move_down-requires : goal.move_down-requires
move_down-requires c =
    let a = c.args in
    let i = c.loop-i.i in
    let t = next_is a.at.now (i + 1) a.end c.map_or-to.result c.get.result (search rules) (c.get.ensures.lookup.4 (omega arith) a.end) in
    let b = block_after a.end a.at.now i _ c.requires.0 c.requires.1 (omega arith) t in
    let e = get_d_there a.at.now i 0 a.end (omega arith) in
    let k = length_kept a.at.now a.words.now a.end c.requires.0 c.requires.1 c.requires.2 i _ (omega arith) e in
    (omega arith, omega arith, omega arith)

pub loop-i-preserved : goal.loop-i-preserved
loop-i-preserved c =
    let a = c.args in
    let i = c.loop-i.i in
    let t = next_is a.at.now (i + 1) a.end c.map_or-to.result c.get.result (search rules) (c.get.ensures.lookup.4 (omega arith) a.end) in
    let e = get_d_there a.at.now i 0 a.end (omega arith) in
    take_step a.at.now a.words.now a.end c.requires.0 c.requires.1 c.requires.2 i _ (omega arith) refl _ t c.loop-i.words _ c.loop-i.invariant
    (rw e at c.move_down.ensures)
    ∙ ap (taking a.at.now a.words.now (i + 1)) t
