-- `note_rows` meets its contract: after r turns the first r rows are noted, and the words are those of the entry in which they no longer count the id.
use mathlib.Core.Path.{◌≡◌, ◌∙◌}
use native.Mathlib.Omega.{arith}
use lib.ListN.{take}
use lib.Seq.{take_all}
use Rattle.words.specs.Words.{row_count}
use Rattle.index.proofs.Laws.{good_three}
use Rattle.index_writer.specs.Contents.{all_rows_in}
use Rattle.index_writer.proofs.Read.{narrow_words}
use Rattle.vacancies.proofs.Rows.{length_rows, noted_none, noted_asks, noted_next}
use Rattle.vacancies.proofs.note_rows.Goals as goal

pub row_count-d-requires : goal.row_count-d-requires
row_count-d-requires c = good_three _ c.requires.0

pub loop-r-init : goal.loop-r-init
loop-r-init c = let a = c.args in noted_none a.words.now a.id a.n a.at.now a.postings.now

pub note_row-noted-requires : goal.note_row-noted-requires
note_row-noted-requires c =
    let u = c.loop-r in
    let a = c.args in
    let i = c.requires.1 in
    let d = c.row_count-d.ensures.0 in
    let h = noted_asks a.words.now c.requires.0 (narrow_words a.words.now (λ k. (let t = c.slice_known-1.given k in omega arith))) i.0 a.id i.1 i.2 u.r (omega arith) a.n (take a.n a.at.now) u.words u.at u.m u.postings u.k u.invariant
    (rw u.auto.at c.requires.2) (rw u.auto.postings c.requires.3) in
    (h.0, λ m. h.1 m ∙ i.3, h.2, h.3)

pub loop-r-preserved : goal.loop-r-preserved
loop-r-preserved c =
    let u = c.loop-r in
    let a = c.args in
    let i = c.requires.1 in
    let h = c.note_row-noted.ensures in
    let d = c.row_count-d.ensures.0 in
    noted_next a.words.now c.requires.0 (narrow_words a.words.now (λ k. (let t = c.slice_known-1.given k in omega arith))) i.0 a.id i.1 i.2 u.r (omega arith) a.n (take a.n a.at.now) u.words u.at u.m u.postings u.k u.invariant _ _ _ _ _
    h.0 h.1 h.2 h.3 h.4

pub returns : goal.returns
returns c =
    let a = c.args in
    let n = c.loop-r.invariant in
    let d : c.loop-r.r ≡ row_count a.words.now = (let e = c.row_count-d.ensures.0 in omega arith) in
    let all : take c.loop-r.r (all_rows_in a.words.now) ≡ all_rows_in a.words.now = take_all c.loop-r.r (all_rows_in a.words.now) (let e = length_rows a.words.now in omega arith) in
    (rw (← d) n.words, rw (← all) n.count, rw (← all) n.postings, rw (← all) n.more, rw (← all) n.at)
