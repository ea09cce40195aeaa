-- `settle` meets its contract: the head is set, the rows' part is worked out and put back, and blanks are put after the postings.
use mathlib.Core.Path.{refl, ap, ◌∙◌}
use mathlib.Core.List.{List}
use Prim.Native.Nat.{ℕ, ◌+◌, ◌*◌, ◌-◌, ◌≤◌, ◌<◌}
use native.Mathlib.Omega.{arith}
use borrow.Rule.Slice.PartMut.{put_mid}
use lib.ListN.{length, take, length-set}
use Rattle.words.specs.Words.{name_start, row_width}
use Rattle.index_writer.specs.Written.{pad_to}
use Rattle.settling.proofs.Laws.{headed, length_headed, rows_wide, part_short, part_put, blanks_put}
use borrow.Author.Rules.{rules}
use Rattle.settling.proofs.settle.Goals as goal

pub bounds-words-1 : goal.bounds-words-1
bounds-words-1 c =
    let h : 1 < length c.args.words.now = omega arith in
    search rules

pub bounds-words-2 : goal.bounds-words-2
bounds-words-2 c =
    let h : 2 < length c.args.words.now = omega arith in
    search rules

pub slice_bounds-place_rows-end : goal.slice_bounds-place_rows-end
slice_bounds-place_rows-end c =
    let a = c.args in
    let h : name_start a.n + row_width * a.d ≤ length a.words.now = omega arith in
    search rules

pub place_rows-requires : goal.place_rows-requires
place_rows-requires c =
    let a = c.args in
    let s = c.requires.5 in
    (c.requires.4, (s.0, part_short a.n a.d a.size a.features.now a.words.now s.0 s.2 _ _ _, s.3))

pub slice_bounds-fill-count : goal.slice_bounds-fill-count
slice_bounds-fill-count c = let k = simp length-set at c.words-1.given.1 in search rules

pub slice_bounds-fill-start : goal.slice_bounds-fill-start
slice_bounds-fill-start c = let k = simp length-set at c.words-1.given.1 in search rules

pub slice_bounds-fill-end : goal.slice_bounds-fill-end
slice_bounds-fill-end c = let k = simp length-set at c.words-1.given.1 in search rules

pub shape_of-words : goal.shape_of-words
shape_of-words c = let k = simp length-set at c.words-1.given.1 in search rules

pub returns : goal.returns
returns c =
    let a = c.args in
    let s = c.requires.5 in
    let rows = c.place_rows.new.rows in
    let ws = put_mid (name_start a.n) (rows_wide a.n a.d) (headed a.n a.d a.p a.words.now) rows in
    let end = name_start a.n + row_width * a.d + a.p in
    blanks_put (length a.words.now) end (length ws - end) ws c.fill.new.words (c.words-1.given.1 ∙ length_headed a.n a.d a.p a.words.now) c.requires.0 refl c.fill.ensures
    ∙ ap (λ (l : List ℕ). pad_to (length a.words.now) (take end l))
    (part_put a.n a.d a.size a.features.now a.words.now s.0 s.2 a.p rows s.1 c.place_rows.ensures)
