-- `add_with` meets its contract: what `put_words` leaves in the tables is what `put_in` asks, what that leaves is what `settle` asks, and the room that
-- is tested is that of the index that results.
use mathlib.Core.Path.{refl, sym, ap, ap₂}
use Prim.Native.Nat.{ℕ, ◌+◌, ◌-◌, ◌/◌, ◌≤◌, ◌<◌}
use native.Mathlib.Omega.{arith}
use lib.ListN.{length, get_or}
use lib.Seq.{length-take-le}
use Rattle.words.specs.Words.{total, row_width, feature_span}
use Rattle.index.proofs.Laws.{good_three}
use Rattle.upkeep.specs.Adding.{cuts_for}
use Rattle.upkeep.proofs.Adding.{few_moved, number_in, number_over, put_may, put_done, settle_may, settle_done}
use Rattle.upkeep.proofs.add_with.Goals as goal

pub name_count-n-requires : goal.name_count-n-requires
name_count-n-requires c = good_three c.args.words.now c.requires.0.good

pub row_count-d-requires : goal.row_count-d-requires
row_count-d-requires c = good_three c.args.words.now c.requires.0.good

pub posting_count-p-requires : goal.posting_count-p-requires
posting_count-p-requires c = good_three c.args.words.now c.requires.0.good

pub postings_start-requires : goal.postings_start-requires
postings_start-requires c = good_three c.args.words.now c.requires.0.good

pub returns-then-words-total : goal.returns-then-words-total
returns-then-words-total c =
    let s = c.postings_start.ensures.0 in
    let p = c.posting_count-p.ensures.0 in
    let m = c.put_words-many.ensures.0 in
    let h = c.if-words-total.true in
    (number_over c.requires.0 (λ k. (let q = c.slice_known-1.given k in omega arith)) (omega arith), refl)

pub slice_bounds-put_in-end-3 : goal.slice_bounds-put_in-end-3
slice_bounds-put_in-end-3 c =
    let x = c.put_words-many in
    let m = (few_moved c.requires.0 (λ k. (let q = c.slice_known-1.given k in omega arith)) x.result x.ensures.0).1 in
    omega (arith, x.auto.values, c.requires.2)

pub slice_bounds-put_in-end-4 : goal.slice_bounds-put_in-end-4
slice_bounds-put_in-end-4 c =
    let x = c.put_words-many in
    let m = (few_moved c.requires.0 (λ k. (let q = c.slice_known-1.given k in omega arith)) x.result x.ensures.0).1 in
    sym (length-take-le x.result x.new.values (omega (arith, x.auto.values, c.requires.2)))

pub put_in-requires : goal.put_in-requires
put_in-requires c =
    let x = c.put_words-many in
    let s = c.postings_start.ensures.0 in
    let p = c.posting_count-p.ensures.0 in
    let m = x.ensures.0 in
    let h = c.if-words-total.false in
    put_may c.requires.0 (λ k. (let q = c.slice_known-1.given k in omega arith)) _ _ _ x.ensures.1 x.ensures.2 (omega arith) (omega arith)

pub overflow_sub-new : goal.overflow_sub-new
overflow_sub-new c =
    let x = c.put_words-many in
    let m = (few_moved c.requires.0 (λ k. (let q = c.slice_known-1.given k in omega arith)) x.result x.ensures.0).2 in
    omega arith

pub overflow_sub-new-2 : goal.overflow_sub-new-2
overflow_sub-new-2 c =
    let x = c.put_words-many in
    let m = (few_moved c.requires.0 (λ k. (let q = c.slice_known-1.given k in omega arith)) x.result x.ensures.0).2 in
    omega arith

pub settle-requires : goal.settle-requires
settle-requires c =
    let w = c.args.words.now in
    let k = length c.args.features.now in
    let wide : (i : ℕ) → get_or w i 0 < feature_span = λ i. (let q = c.slice_known-1.given i in omega arith) in
    let x = c.put_words-many in
    let s = c.postings_start.ensures.0 in
    let p = c.posting_count-p.ensures.0 in
    let m = x.ensures.0 in
    let h = c.if-words-total.false in
    let room : total w + length (cuts_for w c.args.id c.args.features.now) ≤ length w = omega arith in
    settle_may c.requires.0 wide room _ _ _ c.put_in.new.words
    (ap (λ (n : ℕ). n + 1) c.name_count-n.ensures.0)
    (ap₂ (λ (d j : ℕ). d + (j - 1 - k) / row_width) c.row_count-d.ensures.0 m)
    (ap (λ (n : ℕ). n + k) p)
    (put_done c.requires.0 wide _ _ _ x.ensures.1 x.ensures.2 (omega arith) c.put_in.new.words c.put_in.ensures)

pub returns : goal.returns
returns c =
    let w = c.args.words.now in
    let k = length c.args.features.now in
    let wide : (i : ℕ) → get_or w i 0 < feature_span = λ i. (let q = c.slice_known-1.given i in omega arith) in
    let x = c.put_words-many in
    let s = c.postings_start.ensures.0 in
    let p = c.posting_count-p.ensures.0 in
    let m = x.ensures.0 in
    let h = c.if-words-total.false in
    let room : total w + length (cuts_for w c.args.id c.args.features.now) ≤ length w = omega arith in (
      number_in c.requires.0 wide room,
      settle_done c.requires.0 wide room _ _ _ c.put_in.new.words
          (ap (λ (n : ℕ). n + 1) c.name_count-n.ensures.0)
          (ap₂ (λ (d j : ℕ). d + (j - 1 - k) / row_width) c.row_count-d.ensures.0 m)
          (ap (λ (n : ℕ). n + k) p)
          (put_done c.requires.0 wide _ _ _ x.ensures.1 x.ensures.2 (omega arith) c.put_in.new.words c.put_in.ensures) c.settle.new.words c.settle.ensures,
    )
