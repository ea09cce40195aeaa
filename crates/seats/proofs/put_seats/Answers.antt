-- `put_seats` meets its contract: after j turns, the new rows and the seats of the first j features are put.
use mathlib.Core.Path.{◌≡◌, sym, ap, ◌∙◌}
use mathlib.Core.List.{List, [], ◌∷◌, ◌++◌, map}
use Prim.Native.Nat.{ℕ, ◌+◌, ◌<◌}
use native.Mathlib.Numerals.{add-one}
use native.Mathlib.Omega.{arith}
use lib.ListN.{length, get_or, take, set, length-map}
use lib.Seq.{take-suc, take_all, length-take-le}
use Rattle.laws.proofs.Images.{get_d_map_lt}
use Rattle.laws.proofs.Tables.{table_over, over_nil, over_step}
use Rattle.words.specs.Words.{name_start, name_count}
use Rattle.lists.specs.Sizes.{rows_under}
use Rattle.index.proofs.Laws.{good_postings_most}
use Rattle.lists.proofs.Sized.{under_next}
use Rattle.index_writer.specs.Contents.{all_rows_in}
use Rattle.index_writer.proofs.Over.{over_all}
use Rattle.changes.specs.Cuts.{posting_seat, posting_cuts}
use Rattle.changes.proofs.CutsAppend.{cuts_most}
use Rattle.seats.proofs.Behind.{put_none, put_more}
use Rattle.seats.proofs.Laws.{posting_most}
use Rattle.seats.proofs.put_seats.Invariants.{seatAt}
use Rattle.seats.proofs.put_seats.Goals as goal

-- one value more of a table
over_more : (g : ℕ → ℕ) (k : ℕ) (l p : List ℕ) (v : ℕ) → k < length l → p ≡ table_over g k l → v ≡ g k → set p k v ≡ table_over g (k + 1) l
over_more g k l p v h e q = rw (e, q) (over_step g k l h)

-- a table of the seats of all features is the list of them
seats-all : (g : ℕ → ℕ) (fs l : List ℕ) → length fs ≡ length l → table_over (λ (i : ℕ). g (get_or fs i 0)) (length l) l ≡ map g fs
seats-all g fs l e =
    over_all (λ (i : ℕ). g (get_or fs i 0)) l (map g fs) 0 (length-map fs g ∙ e) (λ i h. get_d_map_lt g fs i 0 0 (omega arith))

pub rows_under-from-requires : goal.rows_under-from-requires
rows_under-from-requires c = (c.requires.0, omega arith)

pub rows_under-to-requires : goal.rows_under-to-requires
rows_under-to-requires c =
    let e = c.rows_under-from.ensures in
    let n = under_next c.args.words.now c.from-wide.result in
    (c.requires.0, omega arith)

pub loop-j-init : goal.loop-j-init
loop-j-init c =
    let a = c.args in (
      put_none (all_rows_in a.words.now) (name_start (name_count a.words.now)) (length a.features.now) a.at.now a.values.now a.n,
      over_nil (seatAt a.words.now a.id a.features.now) a.postings.now,
    )

pub seat-seated-requires : goal.seat-seated-requires
seat-seated-requires c =
    let fs = c.args.features.now in
    let j = c.loop-j.j in
    let n = c.loop-j.invariant.0.count in
    let m = cuts_most (length fs) (all_rows_in c.args.words.now) (take j fs) in
    let k = length-take-le j fs (omega arith) in
    let u = c.loop-j.auto.at in
    let v = c.loop-j.auto.values in
    let p = c.requires.3 in
    let q = c.requires.4 in (
      c.requires.0,
      c.rows_under-from.ensures ∙ ap (rows_under c.args.words.now) c.from-wide.ensures,
      c.rows_under-to.ensures ∙ ap (λ (y : ℕ). rows_under c.args.words.now (y + 1)) c.from-wide.ensures,
      omega arith,
      omega arith,
    )

pub overflow_cast-postings : goal.overflow_cast-postings
overflow_cast-postings c =
    let a = c.args in
    let e = c.seat-seated.ensures.0 in
    let m = posting_most a.words.now c.requires.0 (λ i. (let q = c.type_inv.words i in omega arith)) (length a.features.now) (get_or a.features.now c.loop-j.j 0) a.id in
    let n = good_postings_most a.words.now c.requires.0 in
    record { fits = omega arith }

pub loop-j-preserved : goal.loop-j-preserved
loop-j-preserved c =
    let a = c.args in
    let fs = a.features.now in
    let j = c.loop-j.j in
    let i = c.loop-j.invariant in
    let e = c.seat-seated.ensures in
    let h = c.requires.2 in
    let one : take (j + 1) c.args.features.now ≡ take j c.args.features.now ++ (get_or c.args.features.now j 0 ∷ []) = ap (λ (k : ℕ). take k c.args.features.now) (add-one j) ∙ take-suc c.args.features.now j 0 (omega arith) in
    let more = put_more (all_rows_in c.args.words.now) (name_start (name_count c.args.words.now)) (length c.args.features.now) a.at.now a.values.now a.n (take j c.args.features.now) c.loop-j.at c.loop-j.values c.loop-j.m (get_or c.args.features.now j 0 ∷ []) _ _ c.seat-seated.result.count i.0 (record { count = e.1; places = e.2; words = e.3 }) in
    (rw one more, over_more (seatAt c.args.words.now a.id c.args.features.now) j a.postings.now _ _ (omega arith) i.1 e.0)

pub returns : goal.returns
unfolding posting_cuts
returns c =
    let a = c.args in
    let fs = a.features.now in
    let i = c.loop-j.invariant in
    let h = c.requires.2 in
    let e : c.loop-j.j ≡ length a.postings.now = omega arith in
    let all : take c.loop-j.j c.args.features.now ≡ c.args.features.now = take_all c.loop-j.j c.args.features.now (omega arith) in
    let p = rw all at i.0 in (
      p.count,
      p.places,
      p.words,
      i.1
          ∙ ap (λ (k : ℕ). table_over (seatAt c.args.words.now a.id c.args.features.now) k a.postings.now) e
          ∙ seats-all (posting_seat (length c.args.features.now) a.id (all_rows_in c.args.words.now)) c.args.features.now a.postings.now (sym h),
    )
