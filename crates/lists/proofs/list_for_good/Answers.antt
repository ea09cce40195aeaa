-- `list_for_good` meets its contract: the part from the list's place on, as long as the list.
use mathlib.Core.Path.{refl, ap₂}
use Prim.Native.Nat.{ℕ, ◌+◌, ◌≤◌}
use native.Mathlib.Nat.{add-sub_cancel_left}
use native.Mathlib.Omega.{arith}
use lib.ListN.{length, take, drop}
use Rattle.lists.proofs.Spans.{span_within}
use borrow.Author.Rules.{rules}
use Rattle.lists.proofs.list_for_good.Goals as goal

-- the list lies within the words
within : (c : goal.After-struct_known-1) → c.place_for_good-place.result.start + c.place_for_good-place.result.count ≤ length c.args.words.now
within c =
    let p = c.place_for_good-place.ensures in
    let e = span_within c.args.words.now c.requires c.args.size c.args.feature in
    omega arith

pub overflow_add-end : goal.overflow_add-end
overflow_add-end c = let e = within c in search rules

pub offset_bounds-words-start : goal.offset_bounds-words-start
offset_bounds-words-start c = let e = within c in search rules

pub slice_bounds-result-end : goal.slice_bounds-result-end
slice_bounds-result-end c = let e = within c in search rules

pub returns : goal.returns
returns c =
    let w = c.args.words.now in
    let p = c.place_for_good-place.ensures in
    record { words = rw add-sub_cancel_left (ap₂ (λ (k n : ℕ). take n (drop k w)) p.0 p.1); block = refl; place = rw p.0 (search rules) }
