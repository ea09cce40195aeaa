-- `fill_columns` meets its contract: the columns are cut at the room, and a good index has no more names than they hold.
use native.Mathlib.Omega.{arith}
use Rattle.search.specs.Answers.{answer_in}
use Rattle.rows.proofs.Answers.{length_cut, cut_counted, filled}
use Rattle.rows.proofs.fill_columns.Goals as goal

pub slice_bounds-search-end-2 : goal.slice_bounds-search-end-2
slice_bounds-search-end-2 c = cut_counted _ _ _ _ c.min-n.ensures (omega (arith, c.requires.0, c.requires.1, c.requires.2, c.requires.3))

pub slice_bounds-search-end-4 : goal.slice_bounds-search-end-4
slice_bounds-search-end-4 c = cut_counted _ _ _ _ c.min-n.ensures (omega (arith, c.requires.0, c.requires.1, c.requires.2, c.requires.3))

pub slice_bounds-search-end-6 : goal.slice_bounds-search-end-6
slice_bounds-search-end-6 c = cut_counted _ _ _ _ c.min-n.ensures (omega (arith, c.requires.0, c.requires.1, c.requires.2, c.requires.3))

pub slice_bounds-search-end-8 : goal.slice_bounds-search-end-8
slice_bounds-search-end-8 c = cut_counted _ _ _ _ c.min-n.ensures (omega (arith, c.requires.0, c.requires.1, c.requires.2, c.requires.3))

pub returns : goal.returns
returns c =
    let f = c.search in
    let n = c.min-n.result in
    let e = c.min-n.ensures in
    let long-ids = length_cut n c.args.room _ c.args.ids.now e (omega (arith, c.requires.0)) in
    let long-shared = length_cut n c.args.room _ c.args.shared.now e (omega (arith, c.requires.1)) in
    let long-sizes = length_cut n c.args.room _ c.args.sizes.now e (omega (arith, c.requires.2)) in
    let long-least = length_cut n c.args.room _ c.args.least.now e (omega (arith, c.requires.3)) in
    filled c.args.query.now c.args.measure c.args.p c.args.q c.args.allowance c.args.words.now c.args.room n (answer_in f.result)
    _ _ _ e f.ensures long-ids long-shared long-sizes long-least
