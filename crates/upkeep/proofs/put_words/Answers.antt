-- `put_words` meets its contract: the name's own place and word, then those of the new rows, then those of the postings; each table has room for all.
use mathlib.Core.Path.{◌≡◌, ◌∙◌}
use mathlib.Core.List.{List}
use Prim.Native.Nat.{ℕ, ◌+◌, ◌-◌, ◌≤◌, ◌<◌}
use native.Mathlib.Omega.{arith}
use borrow.Rule.Slice.PartMut.{same_len_mid}
use lib.ListN.{length, get_or, length-set}
use Rattle.words.specs.Words.{feature_span}
use Rattle.index.proofs.Laws.{good_three}
use Rattle.index_writer.specs.Contents.{all_rows_in}
use Rattle.changes.specs.Cuts.{row_cuts}
use Rattle.upkeep.specs.Adding.{most_moved, cuts_for, Addable}
use Rattle.upkeep.proofs.Adding.{total_small, place_small, many_cuts, cuts_room, length_seats, seat_within, places_put, words_put}
use Rattle.upkeep.proofs.put_words.Goals as goal

-- words are 32 bits wide
abbrev Wide : List ℕ → Type 0
Wide w = (k : ℕ) → get_or w k 0 < feature_span

-- the places are as many as those of a name, and the tables have room for them
count : {w fs : List ℕ} {id place : ℕ} (a : Addable w id place fs) (v : Wide w) (rows : ℕ) → rows ≡ 1 + length (row_cuts (length fs) (all_rows_in w) fs) → rows + length fs ≡ length (cuts_for w id fs)
count a v rows r = let m = many_cuts a v in omega arith

few : {w fs : List ℕ} {id place : ℕ} (a : Addable w id place fs) (v : Wide w) (rows : ℕ) → rows ≡ 1 + length (row_cuts (length fs) (all_rows_in w) fs) → rows + length fs ≤ most_moved
few a v rows r = let e = count a v rows r in let m = cuts_room a v in omega arith

pub overflow_add-at : goal.overflow_add-at
overflow_add-at c =
    let v : Wide c.args.words.now = λ k. (let q = c.type_inv.words k in omega arith) in
    let p = place_small c.requires.0 v in
    record { fits = omega arith }

pub overflow_cast-at : goal.overflow_cast-at
overflow_cast-at c =
    let v : Wide c.args.words.now = λ k. (let q = c.type_inv.words k in omega arith) in
    let p = place_small c.requires.0 v in
    record { fits = omega arith }

pub put_seats-rows-requires : goal.put_seats-rows-requires
put_seats-rows-requires c =
    let m = c.requires.0.fit.most in
    (c.requires.0.good, m, c.requires.3, simp length-set (omega arith), simp length-set (omega arith))

pub overflow_add-many : goal.overflow_add-many
overflow_add-many c =
    let v : Wide c.args.words.now = λ k. (let q = c.type_inv.words k in omega arith) in
    let f = few c.requires.0 v _ c.put_seats-rows.ensures.0 in
    record { fits = omega arith }

pub postings_start-requires : goal.postings_start-requires
postings_start-requires c = good_three c.args.words.now c.requires.0.good

pub put_postings-requires : goal.put_postings-requires
put_postings-requires c =
    let v : Wide c.args.words.now = λ k. (let q = c.type_inv.words k in omega arith) in
    let f = few c.requires.0 v _ c.put_seats-rows.ensures.0 in
    let k = simp length-set at c.put_seats-rows.auto.at in
    let e = c.put_seats-rows.ensures.3 in
    let n = length_seats c.requires.0 v c.put_seats-rows.new.postings e in
    let m = c.postings_start.ensures.0 in
    let t = total_small c.requires.0 v in
    let r = c.requires.1 in
    (omega arith, λ i h. (let b = seat_within c.requires.0 v c.put_seats-rows.new.postings i e h in omega arith))

pub offset_bounds-values-rows : goal.offset_bounds-values-rows
offset_bounds-values-rows c =
    let v : Wide c.args.words.now = λ k. (let q = c.type_inv.words k in omega arith) in
    let f = few c.requires.0 v _ c.put_seats-rows.ensures.0 in
    record { fits = omega arith }

pub slice_bounds-fill-end : goal.slice_bounds-fill-end
slice_bounds-fill-end c =
    let v : Wide c.args.words.now = λ k. (let q = c.type_inv.words k in omega arith) in
    let f = few c.requires.0 v _ c.put_seats-rows.ensures.0 in
    let k = simp length-set at c.put_seats-rows.auto.values in
    let r = c.requires.2 in
    omega arith

pub shape_of-at : goal.shape_of-at
shape_of-at c = c.put_postings.auto.at ∙ (simp length-set at c.put_seats-rows.auto.at)

pub shape_of-values : goal.shape_of-values
shape_of-values c =
    let r = c.put_seats-rows.result in
    same_len_mid r (r + length c.args.features.now - r) c.put_seats-rows.new.values c.fill.new.self c.fill.ensures.len
    ∙ (simp length-set at c.put_seats-rows.auto.values)

pub returns : goal.returns
returns c =
    let v : Wide c.args.words.now = λ k. (let q = c.type_inv.words k in omega arith) in
    let y = c.put_seats-rows.ensures in
    let f = few c.requires.0 v _ y.0 in
    let k = simp length-set at c.put_seats-rows.auto.values in
    let h = c.requires.1 in
    let l = c.requires.2 in (
      count c.requires.0 v _ y.0,
      places_put c.requires.0 v c.args.at.now c.put_seats-rows.new.at c.put_postings.new.at c.put_seats-rows.new.postings c.put_seats-rows.result c.postings_start.result (omega arith) y.1 y.3 c.postings_start.ensures.0 c.put_postings.ensures,
      words_put c.requires.0 v c.args.values.now c.put_seats-rows.new.values c.fill.new.self c.put_seats-rows.result (omega arith) (omega arith) y.2 (c.fill.ensures.after (λ y h. h)),
    )
