-- `sizes_present` meets its contract: after i turns, which sizes the first i names have.
use Rattle.std.proofs.Common.{◌≡◌, ◌∙◌, ap₂, Bool, true, List, ℕ, ◌<◌, set, arith}
use Rattle.laws.proofs.Lists.{tabulate_ext}
use Rattle.words.specs.Words.{name_count, name_size}
use Rattle.index.specs.Good.{Good}
use Rattle.index.proofs.Laws.{good_three, good_within_lem, good_name_within}
use Rattle.sizes.specs.Method.{sizes_end}
use Rattle.sizes.specs.Tables.{present_at}
use Rattle.sizes.proofs.Present.{present_by, present_nil, present_step, present_all}
use Rattle.sizes.proofs.sizes_present.Goals as goal

pub name_count-n-requires : goal.name_count-n-requires
name_count-n-requires c = good_three _ c.requires

pub loop-i-init : goal.loop-i-init
loop-i-init c = present_nil _ sizes_end

pub name_size-size-requires : goal.name_size-size-requires
name_size-size-requires c =
    let w = good_within_lem c.args.words.now c.requires in
    let e = c.name_count-n.ensures.0 in
    omega arith

-- a name's size is below their end
within : (w : List ℕ) (n i size : ℕ) → Good w → n ≡ name_count w → i < n → size ≡ name_size w i → size < sizes_end
within w n i size g e h s =
    let l : i < name_count w = omega arith in
    let k = (good_name_within w g i l).2 in
    omega arith

pub bounds-table-size : goal.bounds-table-size
bounds-table-size c = within c.args.words.now _ c.loop-i.i _ c.requires c.name_count-n.ensures.0 c.loop-i-test.true c.name_size-size.ensures

pub loop-i-preserved : goal.loop-i-preserved
loop-i-preserved c =
    let w = within c.args.words.now _ c.loop-i.i _ c.requires c.name_count-n.ensures.0 c.loop-i-test.true c.name_size-size.ensures in
    let e = c.name_size-size.ensures in
    ap₂ (λ (t : List Bool) (x : ℕ). set t x true) c.loop-i.invariant e ∙ present_step c.args.words.now c.loop-i.i sizes_end (omega arith)

pub returns : goal.returns
returns c =
    let l = c.loop-i in
    let n = c.name_count-n.ensures.0 in
    let e : l.i ≡ name_count c.args.words.now = omega arith in
    l.invariant ∙ tabulate_ext (present_by c.args.words.now l.i) (present_at c.args.words.now) sizes_end (λ y h. present_all c.args.words.now l.i e y)
