-- `withdraw_with` meets its contract: the places of all words that go stand in one table, and once these are taken out and the rest is settled, the
-- index of the other names is left. The laws are in proofs/Withdrawing.antt.
use mathlib.Core.Path.{◌≡◌, sym, ap, ap₂, ◌∙◌}
use Prim.Native.Nat.{ℕ, ◌+◌, ◌-◌, ◌/◌, ◌≤◌}
use native.Mathlib.Omega.{arith}
use lib.ListN.{length, take, length-set}
use lib.Seq.{length-take-le}
use Rattle.words.specs.Words.{row_width, total}
use Rattle.index.proofs.Laws.{good_three, good_within_lem, good_names_most}
use Rattle.index_writer.specs.Built.{lists_of}
use Rattle.index_writer.proofs.Read.{narrow_words}
use Rattle.upkeep.specs.Adding.{most_moved}
use Rattle.upkeep.proofs.Withdrawing.{Stands, cuts, less, kept, cut_out, ids_few, cuts_few, ids_fit, cuts_put, cuts_rise, cuts_below, cut_out_lem, counts_left, settle_asks, name_less}
use Rattle.upkeep.proofs.withdraw_with.Goals as goal

pub name_count-n-requires : goal.name_count-n-requires
name_count-n-requires c = good_three _ c.requires.0

pub row_count-d-requires : goal.row_count-d-requires
row_count-d-requires c = good_three _ c.requires.0

pub posting_count-p-requires : goal.posting_count-p-requires
posting_count-p-requires c = good_three _ c.requires.0

pub postings_start-first-requires : goal.postings_start-first-requires
postings_start-first-requires c = good_three _ c.requires.0

pub name_size-size-requires : goal.name_size-size-requires
name_size-size-requires c =
    let l = c.requires.1 in
    omega (arith, good_within_lem c.args.words.now c.requires.0)

pub overflow_cast-at : goal.overflow_cast-at
overflow_cast-at c =
    let l = c.requires.1 in
    let m = good_names_most c.args.words.now c.requires.0 in
    record { fits = omega arith }

pub note_rows-noted-requires : goal.note_rows-noted-requires
note_rows-noted-requires c =
    let l = c.requires.3 in
    (c.requires.0, (c.args.place, c.requires.1, c.requires.2, sym c.name_size-size.ensures), simp length-set (omega arith), c.requires.4)

-- the name stands at its place
here : (c : goal.After-slice_known-6-1) → let a = c.args in Stands a.words.now a.id a.place
here c =
    record {
      good = c.requires.0;
      narrow = narrow_words c.args.words.now (λ k. (let h = c.slice_known-1.given k in omega arith));
      low = c.requires.1;
      named = c.requires.2;
    }

-- the table of places is as long as it was, and both tables hold what is noted
same : (c : goal.After-slice_known-6-1) → length c.note_rows-noted.new.at ≡ length c.args.at.now
same c = simp length-set at c.note_rows-noted.auto.at

room : (c : goal.After-slice_known-6-1)
    → let r = c.note_rows-noted.result in (r.postings ≤ length c.note_rows-noted.new.postings)
    × (r.rows + r.postings ≤ length c.note_rows-noted.new.at)
    × (r.rows + r.postings ≤ most_moved)
room c =
    let r = c.note_rows-noted.ensures.1 in
    let t = c.note_rows-noted.ensures.3 in
    let f = ids_few (here c) in
    let g = cuts_few (here c) in
    let k = c.note_rows-noted.auto.postings in
    let l = same c in
    let m = c.requires.3 in
    let n = c.requires.4 in
    (omega arith, omega arith, omega arith)

pub slice_bounds-put_postings-end : goal.slice_bounds-put_postings-end
slice_bounds-put_postings-end c = (room c).0

pub slice_bounds-put_postings-end-2 : goal.slice_bounds-put_postings-end-2
slice_bounds-put_postings-end-2 c = let e = c.note_rows-noted.ensures in e.1 ∙ sym (ap length e.2)

-- `here`, at another place
here-2 : (c : goal.After-put_postings-arg-1) → let a = c.args in Stands a.words.now a.id a.place
here-2 c =
    record {
      good = c.requires.0;
      narrow = narrow_words c.args.words.now (λ k. (let h = c.slice_known-1.given k in omega arith));
      low = c.requires.1;
      named = c.requires.2;
    }

-- `same`, at another place
same-2 : (c : goal.After-put_postings-arg-1) → length c.note_rows-noted.new.at ≡ length c.args.at.now
same-2 c = simp length-set at c.note_rows-noted.auto.at

-- `room`, at another place
room-2 : (c : goal.After-put_postings-arg-1)
    → let r = c.note_rows-noted.result in (r.postings ≤ length c.note_rows-noted.new.postings)
    × (r.rows + r.postings ≤ length c.note_rows-noted.new.at)
    × (r.rows + r.postings ≤ most_moved)
room-2 c =
    let r = c.note_rows-noted.ensures.1 in
    let t = c.note_rows-noted.ensures.3 in
    let f = ids_few (here-2 c) in
    let g = cuts_few (here-2 c) in
    let k = c.note_rows-noted.auto.postings in
    let l = same-2 c in
    let m = c.requires.3 in
    let n = c.requires.4 in
    (omega arith, omega arith, omega arith)

abbrev first : goal.After-put_postings-arg-1 → ℕ
first c = c.postings_start-first.result

pub put_postings-requires : goal.put_postings-requires
put_postings-requires c =
    let e = c.note_rows-noted.ensures in
    let r = (room-2 c).1 in
    let k = e.1 ∙ sym (ap length e.2) in
    (omega arith, ids_fit (here-2 c) (first c) c.postings_start-first.ensures.0 (take c.note_rows-noted.result.postings c.note_rows-noted.new.postings) e.2)

-- `here`, at another place
here-3 : (c : goal.After-slice_known-7-1) → let a = c.args in Stands a.words.now a.id a.place
here-3 c =
    record {
      good = c.requires.0;
      narrow = narrow_words c.args.words.now (λ k. (let h = c.slice_known-1.given k in omega arith));
      low = c.requires.1;
      named = c.requires.2;
    }

-- `same`, at another place
same-3 : (c : goal.After-slice_known-7-1) → length c.note_rows-noted.new.at ≡ length c.args.at.now
same-3 c = simp length-set at c.note_rows-noted.auto.at

-- `room`, at another place
room-3 : (c : goal.After-slice_known-7-1)
    → let r = c.note_rows-noted.result in (r.postings ≤ length c.note_rows-noted.new.postings)
    × (r.rows + r.postings ≤ length c.note_rows-noted.new.at)
    × (r.rows + r.postings ≤ most_moved)
room-3 c =
    let r = c.note_rows-noted.ensures.1 in
    let t = c.note_rows-noted.ensures.3 in
    let f = ids_few (here-3 c) in
    let g = cuts_few (here-3 c) in
    let k = c.note_rows-noted.auto.postings in
    let l = same-3 c in
    let m = c.requires.3 in
    let n = c.requires.4 in
    (omega arith, omega arith, omega arith)

pub overflow_add-many : goal.overflow_add-many
overflow_add-many c = let r = (room-3 c).2 in record { fits = omega arith }

-- `here`, at another place
here-4 : (c : goal.After-take_out-arg-1) → let a = c.args in Stands a.words.now a.id a.place
here-4 c =
    record {
      good = c.requires.0;
      narrow = narrow_words c.args.words.now (λ k. (let h = c.slice_known-1.given k in omega arith));
      low = c.requires.1;
      named = c.requires.2;
    }

-- `same`, at another place
same-4 : (c : goal.After-take_out-arg-1) → length c.note_rows-noted.new.at ≡ length c.args.at.now
same-4 c = simp length-set at c.note_rows-noted.auto.at

-- `room`, at another place
room-4 : (c : goal.After-take_out-arg-1)
    → let r = c.note_rows-noted.result in (r.postings ≤ length c.note_rows-noted.new.postings)
    × (r.rows + r.postings ≤ length c.note_rows-noted.new.at)
    × (r.rows + r.postings ≤ most_moved)
room-4 c =
    let r = c.note_rows-noted.ensures.1 in
    let t = c.note_rows-noted.ensures.3 in
    let f = ids_few (here-4 c) in
    let g = cuts_few (here-4 c) in
    let k = c.note_rows-noted.auto.postings in
    let l = same-4 c in
    let m = c.requires.3 in
    let n = c.requires.4 in
    (omega arith, omega arith, omega arith)

pub slice_bounds-take_out-end : goal.slice_bounds-take_out-end
slice_bounds-take_out-end c =
    let r = (room-4 c).1 in
    let e = c.put_postings.auto.at in
    omega arith

pub slice_bounds-take_out-end-2 : goal.slice_bounds-take_out-end-2
slice_bounds-take_out-end-2 c =
    let r = (room-4 c).1 in
    let e = c.put_postings.auto.at in
    sym (length-take-le _ c.put_postings.new.at (omega arith))

-- `first`, at another place
abbrev first-2 : goal.After-take_out-arg-1 → ℕ
first-2 c = c.postings_start-first.result

abbrev postings : goal.After-take_out-arg-1 → ℕ
postings c = c.posting_count-p.result

-- where the words in use end
end : (c : goal.After-take_out-arg-1) → first-2 c + postings c ≡ total c.args.words.now
end c = ap₂ ◌+◌ c.postings_start-first.ensures.0 c.posting_count-p.ensures.0

-- the table of all places
table : (c : goal.After-take_out-arg-1)
    → let r = c.note_rows-noted.result in let a = c.args in take (r.rows + r.postings) c.put_postings.new.at ≡ cuts a.words.now a.id a.place
table c =
    let n = c.note_rows-noted in
    let l = c.requires.3 in
    cuts_put (here-4 c) c.args.at.now n.new.at c.put_postings.new.at (take n.result.postings n.new.postings) n.result.rows n.result.postings (first-2 c) (omega arith) n.ensures.2 n.ensures.1 c.postings_start-first.ensures.0 n.ensures.4 c.put_postings.ensures

pub take_out-requires : goal.take_out-requires
take_out-requires c =
    let e = end c in
    let k = c.note_rows-noted.auto.words in
    let w = good_within_lem c.args.words.now c.requires.0 in
    (rw (table c) (cuts_rise (here-4 c)), rw (table c) (cuts_below (here-4 c) (first-2 c + postings c) e), omega arith)

abbrev names : goal.After-settle-arg-1 → ℕ
names c = c.name_count-n.result

abbrev rows : goal.After-settle-arg-1 → ℕ
rows c = c.row_count-d.result

-- `postings`, at another place
abbrev postings-2 : goal.After-settle-arg-1 → ℕ
postings-2 c = c.posting_count-p.result

-- `here`, at another place
here-5 : (c : goal.After-settle-arg-1) → let a = c.args in Stands a.words.now a.id a.place
here-5 c =
    record {
      good = c.requires.0;
      narrow = narrow_words c.args.words.now (λ k. (let h = c.slice_known-1.given k in omega arith));
      low = c.requires.1;
      named = c.requires.2;
    }

-- how many names, rows and postings are left
counts : (c : goal.After-settle-arg-1)
    → let a = c.args in (names c ≡ length (less a.words.now a.place) + 1)
    × (rows c ≡ length (kept a.words.now a.id) + (c.note_rows-noted.result.rows - 1) / row_width)
    × (postings-2 c ≡ length (lists_of (kept a.words.now a.id)) + c.note_rows-noted.result.postings)
counts c =
    let q = counts_left (here-5 c) c.note_rows-noted.result.rows c.note_rows-noted.result.postings c.note_rows-noted.ensures.3 c.note_rows-noted.ensures.1 in
    (c.name_count-n.ensures.0 ∙ q.0, c.row_count-d.ensures.0 ∙ q.1, c.posting_count-p.ensures.0 ∙ q.2)

pub overflow_sub-n : goal.overflow_sub-n
overflow_sub-n c = let q = counts c in omega arith

pub overflow_sub-d : goal.overflow_sub-d
overflow_sub-d c = let q = counts c in omega arith

pub overflow_sub-p : goal.overflow_sub-p
overflow_sub-p c = let q = counts c in omega arith

-- as many as before
long : (c : goal.After-settle-arg-1) → length c.take_out.new.words ≡ length c.args.words.now
long c = c.take_out.auto.words ∙ c.note_rows-noted.auto.words

-- `first`, at another place
abbrev first-3 : goal.After-settle-arg-1 → ℕ
first-3 c = c.postings_start-first.result

-- `table`, at another place
table-2 : (c : goal.After-settle-arg-1)
    → let r = c.note_rows-noted.result in let a = c.args in take (r.rows + r.postings) c.put_postings.new.at ≡ cuts a.words.now a.id a.place
table-2 c =
    let n = c.note_rows-noted in
    let l = c.requires.3 in
    cuts_put (here-5 c) c.args.at.now n.new.at c.put_postings.new.at (take n.result.postings n.new.postings) n.result.rows n.result.postings (first-3 c) (omega arith) n.ensures.2 n.ensures.1 c.postings_start-first.ensures.0 n.ensures.4 c.put_postings.ensures

-- `end`, at another place
end-2 : (c : goal.After-settle-arg-1) → first-3 c + postings-2 c ≡ total c.args.words.now
end-2 c = ap₂ ◌+◌ c.postings_start-first.ensures.0 c.posting_count-p.ensures.0

-- the words without those that go
cut : (c : goal.After-settle-arg-1) → let a = c.args in c.take_out.new.words ≡ cut_out a.words.now a.id a.place
cut c =
    cut_out_lem (here-5 c) (table-2 c) (end-2 c) c.note_rows-noted.ensures.0 c.take_out.ensures

pub settle-requires : goal.settle-requires
settle-requires c =
    let q = counts c in
    let l = long c in
    let w = good_within_lem c.args.words.now c.requires.0 in
    settle_asks (here-5 c) (cut c) (names c - 1) (rows c - (c.note_rows-noted.result.rows - 1) / row_width) (postings-2 c - c.note_rows-noted.result.postings) c.name_size-size.result (omega arith) (omega arith) (omega arith) (omega arith)

-- `same`, at another place
same-5 : (c : goal.After-slice_known-9-1) → length c.note_rows-noted.new.at ≡ length c.args.at.now
same-5 c = simp length-set at c.note_rows-noted.auto.at

pub shape_of-at : goal.shape_of-at
shape_of-at c = c.put_postings.auto.at ∙ same-5 c

-- `names`, at another place
abbrev names-2 : goal.After-slice_known-9-1 → ℕ
names-2 c = c.name_count-n.result

-- `rows`, at another place
abbrev rows-2 : goal.After-slice_known-9-1 → ℕ
rows-2 c = c.row_count-d.result

-- `postings`, at another place
abbrev postings-3 : goal.After-slice_known-9-1 → ℕ
postings-3 c = c.posting_count-p.result

-- `here`, at another place
here-6 : (c : goal.After-slice_known-9-1) → let a = c.args in Stands a.words.now a.id a.place
here-6 c =
    record {
      good = c.requires.0;
      narrow = narrow_words c.args.words.now (λ k. (let h = c.slice_known-1.given k in omega arith));
      low = c.requires.1;
      named = c.requires.2;
    }

-- `counts`, at another place
counts-2 : (c : goal.After-slice_known-9-1)
    → let a = c.args in (names-2 c ≡ length (less a.words.now a.place) + 1)
    × (rows-2 c ≡ length (kept a.words.now a.id) + (c.note_rows-noted.result.rows - 1) / row_width)
    × (postings-3 c ≡ length (lists_of (kept a.words.now a.id)) + c.note_rows-noted.result.postings)
counts-2 c =
    let q = counts_left (here-6 c) c.note_rows-noted.result.rows c.note_rows-noted.result.postings c.note_rows-noted.ensures.3 c.note_rows-noted.ensures.1 in
    (c.name_count-n.ensures.0 ∙ q.0, c.row_count-d.ensures.0 ∙ q.1, c.posting_count-p.ensures.0 ∙ q.2)

-- `first`, at another place
abbrev first-4 : goal.After-slice_known-9-1 → ℕ
first-4 c = c.postings_start-first.result

-- `table`, at another place
table-3 : (c : goal.After-slice_known-9-1)
    → let r = c.note_rows-noted.result in let a = c.args in take (r.rows + r.postings) c.put_postings.new.at ≡ cuts a.words.now a.id a.place
table-3 c =
    let n = c.note_rows-noted in
    let l = c.requires.3 in
    cuts_put (here-6 c) c.args.at.now n.new.at c.put_postings.new.at (take n.result.postings n.new.postings) n.result.rows n.result.postings (first-4 c) (omega arith) n.ensures.2 n.ensures.1 c.postings_start-first.ensures.0 n.ensures.4 c.put_postings.ensures

-- `end`, at another place
end-3 : (c : goal.After-slice_known-9-1) → first-4 c + postings-3 c ≡ total c.args.words.now
end-3 c = ap₂ ◌+◌ c.postings_start-first.ensures.0 c.posting_count-p.ensures.0

-- `cut`, at another place
cut-2 : (c : goal.After-slice_known-9-1) → let a = c.args in c.take_out.new.words ≡ cut_out a.words.now a.id a.place
cut-2 c =
    cut_out_lem (here-6 c) (table-3 c) (end-3 c) c.note_rows-noted.ensures.0 c.take_out.ensures

-- `long`, at another place
long-2 : (c : goal.After-slice_known-9-1) → length c.take_out.new.words ≡ length c.args.words.now
long-2 c = c.take_out.auto.words ∙ c.note_rows-noted.auto.words

pub returns : goal.returns
returns c =
    let q = counts-2 c in
    name_less (here-6 c) (cut-2 c) (names-2 c - 1) (rows-2 c - (c.note_rows-noted.result.rows - 1) / row_width) (postings-3 c - c.note_rows-noted.result.postings) c.name_size-size.result (omega arith) (omega arith) (omega arith) (long-2 c) c.settle.ensures
