-- `seat` meets its contract: where the row is there, nothing is put and the id goes into its list; otherwise a new row's words are put behind.
use mathlib.Core.Path.{◌≡◌, sym, ap, ◌∙◌}
use mathlib.Core.Bool.{true, false}
use Prim.Native.Nat.{ℕ, ◌+◌, ◌≤◌, ◌<◌}
use native.Mathlib.Omega.{arith}
use lib.ListN.{get_or}
use Rattle.words.specs.Words.{name_start, name_count, row_count, row_start, feature_span, list_at}
use Rattle.binary_search.specs.declared.Seat.TheVariants.{At, Before}
use Rattle.binary_search.specs.Seats.{seat_place}
use Rattle.binary_search.proofs.Seats.{seat_place_lem}
use Rattle.index.proofs.Laws.{good_three, good_postings_most, good_names_most, row_ascending}
use Rattle.lists.proofs.Rows.{row_within, list_end}
use Rattle.index_writer.specs.Contents.{all_rows_in}
use Rattle.changes.specs.Cuts.{has_row, row_seat, posting_seat}
use Rattle.seats.proofs.Behind.{put_there, put_new}
use Rattle.seats.proofs.Laws.{seat_in, rows_few, row_there, row_missing, posting_there, posting_new, posting_most}
use Rattle.seats.proofs.seat.Goals as goal

-- words are 32 bits wide
fits : (c : goal.In-At) → (i : ℕ) → get_or c.args.words.now i 0 < feature_span
fits c i = omega (arith, c.type_inv.words i)

-- the seat of the row, in either case
there : (c : goal.In-At) → let a = c.args in seat_in a.words.now a.size a.feature ≡ At c.in-At.r
there c = sym c.row_seat-row.ensures ∙ c.in-At.is

-- where it is there
met : (c : goal.In-At)
    → let a = c.args in
    (has_row a.size (all_rows_in c.args.words.now) a.feature ≡ true)
    × (c.in-At.r ≡ row_seat a.size (all_rows_in c.args.words.now) a.feature)
    × (c.in-At.r < row_count c.args.words.now)
met c =
    let a = c.args in
    row_there a.words.now c.requires.0 (fits c) a.size a.feature c.in-At.r (there c)

pub id_seat-seat-requires : goal.id_seat-seat-requires
id_seat-seat-requires c =
    let w = c.args.words.now in
    let r = c.in-At.r in
    let h = (met c).2 in
    (row_within w c.requires.0 r h, list_end w c.requires.0 r h, row_ascending w c.requires.0 r h)

-- `fits`, at another place
fits-2 : (c : goal.After-id_seat-seat) → (i : ℕ) → get_or c.args.words.now i 0 < feature_span
fits-2 c i = omega (arith, c.type_inv.words i)

-- `there`, at another place
there-2 : (c : goal.After-id_seat-seat) → let a = c.args in seat_in a.words.now a.size a.feature ≡ At c.in-At.r
there-2 c = sym c.row_seat-row.ensures ∙ c.in-At.is

-- `met`, at another place
met-2 : (c : goal.After-id_seat-seat)
    → let a = c.args in
    (has_row a.size (all_rows_in c.args.words.now) a.feature ≡ true)
    × (c.in-At.r ≡ row_seat a.size (all_rows_in c.args.words.now) a.feature)
    × (c.in-At.r < row_count c.args.words.now)
met-2 c =
    let a = c.args in
    row_there a.words.now c.requires.0 (fits-2 c) a.size a.feature c.in-At.r (there-2 c)

pub list_seat-requires : goal.list_seat-requires
list_seat-requires c = let h = (met-2 c).2 in (c.requires.0, omega arith)

-- `fits`, at another place
fits-3 : (c : goal.After-place_of) → (i : ℕ) → get_or c.args.words.now i 0 < feature_span
fits-3 c i = omega (arith, c.type_inv.words i)

-- `there`, at another place
there-3 : (c : goal.After-place_of) → let a = c.args in seat_in a.words.now a.size a.feature ≡ At c.in-At.r
there-3 c = sym c.row_seat-row.ensures ∙ c.in-At.is

-- the id's place in the row's list is its seat
seated : (c : goal.After-place_of)
    → let a = c.args in
    c.list_seat.result + c.place_of.result ≡ posting_seat a.size a.id (all_rows_in a.words.now) a.feature
seated c =
    let a = c.args in
    let r = c.in-At.r in
    let p = posting_there a.words.now c.requires.0 (fits-3 c) a.size a.feature a.id r (there-3 c) in
    let l = c.list_seat.ensures in
    let i = c.place_of.ensures ∙ ap seat_place c.id_seat-seat.ensures ∙ seat_place_lem (list_at a.words.now r) a.id in
    omega arith

pub overflow_add-result : goal.overflow_add-result
overflow_add-result c =
    let a = c.args in
    let e = seated c in
    let m = posting_most a.words.now c.requires.0 (fits-3 c) a.size a.feature a.id in
    let n = good_postings_most a.words.now c.requires.0 in
    record { fits = omega arith }

-- `met`, at another place
met-3 : (c : goal.After-place_of)
    → let a = c.args in
    (has_row a.size (all_rows_in c.args.words.now) a.feature ≡ true)
    × (c.in-At.r ≡ row_seat a.size (all_rows_in c.args.words.now) a.feature)
    × (c.in-At.r < row_count c.args.words.now)
met-3 c =
    let a = c.args in
    row_there a.words.now c.requires.0 (fits-3 c) a.size a.feature c.in-At.r (there-3 c)

pub returns-in-At : goal.returns-in-At
returns-in-At c =
    let a = c.args in
    let p = put_there (all_rows_in c.args.words.now) (name_start (name_count c.args.words.now)) a.size a.feature a.at.now a.values.now a.n (met-3 c).0 in
    (seated c, p.count, p.places, p.words)

-- `fits`, at another place
fits-4 : (c : goal.In-Before) → (i : ℕ) → get_or c.args.words.now i 0 < feature_span
fits-4 c i = omega (arith, c.type_inv.words i)

missing : (c : goal.In-Before) → let a = c.args in seat_in a.words.now a.size a.feature ≡ Before c.in-Before.r
missing c = sym c.row_seat-row.ensures ∙ c.in-Before.is

-- where it is not
new : (c : goal.In-Before)
    → let a = c.args in
    (has_row a.size (all_rows_in c.args.words.now) a.feature ≡ false)
    × (c.in-Before.r ≡ row_seat a.size (all_rows_in c.args.words.now) a.feature)
    × (c.in-Before.r ≤ row_count c.args.words.now)
new c =
    let a = c.args in
    row_missing a.words.now c.requires.0 (fits-4 c) a.size a.feature c.in-Before.r (missing c)

pub row_start-requires : goal.row_start-requires
row_start-requires c =
    let h = (new c).2 in
    let n = rows_few c.args.words.now c.requires.0 in
    (good_three c.args.words.now c.requires.0, omega arith)

-- `fits`, at another place
fits-5 : (c : goal.After-put_row-arg-in-Before-1) → (i : ℕ) → get_or c.args.words.now i 0 < feature_span
fits-5 c i = omega (arith, c.type_inv.words i)

-- `missing`, at another place
missing-2 : (c : goal.After-put_row-arg-in-Before-1) → let a = c.args in seat_in a.words.now a.size a.feature ≡ Before c.in-Before.r
missing-2 c = sym c.row_seat-row.ensures ∙ c.in-Before.is

-- `new`, at another place
new-2 : (c : goal.After-put_row-arg-in-Before-1)
    → let a = c.args in
    (has_row a.size (all_rows_in c.args.words.now) a.feature ≡ false)
    × (c.in-Before.r ≡ row_seat a.size (all_rows_in c.args.words.now) a.feature)
    × (c.in-Before.r ≤ row_count c.args.words.now)
new-2 c =
    let a = c.args in
    row_missing a.words.now c.requires.0 (fits-5 c) a.size a.feature c.in-Before.r (missing-2 c)

pub put_row-requires : goal.put_row-requires
put_row-requires c =
    let h = (new-2 c).2 in
    let n = rows_few c.args.words.now c.requires.0 in
    let k = good_names_most c.args.words.now c.requires.0 in
    let s = c.row_start.ensures.0 in
    let u = c.requires.3 in
    let v = c.requires.4 in
    (omega arith, omega arith, omega arith)

-- `fits`, at another place
fits-6 : (c : goal.After-slice_known-in-Before-2-1) → (i : ℕ) → get_or c.args.words.now i 0 < feature_span
fits-6 c i = omega (arith, c.type_inv.words i)

-- `missing`, at another place
missing-3 : (c : goal.After-slice_known-in-Before-2-1) → let a = c.args in seat_in a.words.now a.size a.feature ≡ Before c.in-Before.r
missing-3 c = sym c.row_seat-row.ensures ∙ c.in-Before.is

-- `new`, at another place
new-3 : (c : goal.After-slice_known-in-Before-2-1)
    → let a = c.args in
    (has_row a.size (all_rows_in c.args.words.now) a.feature ≡ false)
    × (c.in-Before.r ≡ row_seat a.size (all_rows_in c.args.words.now) a.feature)
    × (c.in-Before.r ≤ row_count c.args.words.now)
new-3 c =
    let a = c.args in
    row_missing a.words.now c.requires.0 (fits-6 c) a.size a.feature c.in-Before.r (missing-3 c)

pub list_seat-requires-in-Before : goal.list_seat-requires-in-Before
list_seat-requires-in-Before c = (c.requires.0, (new-3 c).2)

-- `fits`, at another place
fits-7 : (c : goal.After-list_seat-in-Before) → (i : ℕ) → get_or c.args.words.now i 0 < feature_span
fits-7 c i = omega (arith, c.type_inv.words i)

-- `missing`, at another place
missing-4 : (c : goal.After-list_seat-in-Before) → let a = c.args in seat_in a.words.now a.size a.feature ≡ Before c.in-Before.r
missing-4 c = sym c.row_seat-row.ensures ∙ c.in-Before.is

-- `new`, at another place
new-4 : (c : goal.After-list_seat-in-Before)
    → let a = c.args in
    (has_row a.size (all_rows_in c.args.words.now) a.feature ≡ false)
    × (c.in-Before.r ≡ row_seat a.size (all_rows_in c.args.words.now) a.feature)
    × (c.in-Before.r ≤ row_count c.args.words.now)
new-4 c =
    let a = c.args in
    row_missing a.words.now c.requires.0 (fits-7 c) a.size a.feature c.in-Before.r (missing-4 c)

pub returns-in-Before : goal.returns-in-Before
returns-in-Before c =
    let a = c.args in
    let h = new-4 c in
    let place = c.row_start.ensures.0 ∙ ap (row_start c.args.words.now) h.1 in
    let p = put_new (all_rows_in c.args.words.now) (name_start (name_count c.args.words.now)) a.size a.feature a.at.now a.values.now a.n c.row_start.result _ _ h.0 place c.requires.3 c.requires.4 c.put_row.ensures.0 c.put_row.ensures.1 in
    (c.list_seat-in-Before.ensures ∙ sym (posting_new c.args.words.now c.requires.0 (fits-7 c) a.size a.feature a.id c.in-Before.r (missing-4 c)), p.count, p.places, p.words)
