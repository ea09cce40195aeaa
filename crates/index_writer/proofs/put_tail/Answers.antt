-- `put_tail` meets its contract: the rows stand at the front, the lists after them, and blanks after those.
use mathlib.Core.Path.{◌≡◌, refl, sym, ap, ap₂, ◌∙◌}
use mathlib.Core.List.{List, ◌++◌}
use Prim.Native.Nat.{ℕ, ◌+◌, ◌*◌, ◌-◌, ◌≤◌}
use native.Mathlib.Omega.{arith}
use lib.ListN.{length, take, drop, length-map}
use borrow.Rule.Slice.PartMut.{put_mid}
use lib.Seq.{length-take-le, take_all}
use Rattle.index.specs.Good.{most_postings}
use Rattle.index_writer.specs.Built.{runs_of, row_words}
use Rattle.index_writer.specs.Keys.{id_at, triple_at, triples_at}
use Rattle.index_writer.specs.Written.{pad_to}
use Rattle.index_writer.proofs.Rows.{rows_few}
use Rattle.index_writer.proofs.Parts.{tail_put}
use Rattle.index_writer.proofs.put_tail.Goals as goal

pub slice_bounds-put_rows-end-2 : goal.slice_bounds-put_rows-end-2
slice_bounds-put_rows-end-2 c = let a = c.args in sym (length-take-le (length a.words.now - length a.keys.now) a.words.now (omega arith))

-- the rows that were put are those of all postings
all : (names keys : List ℕ) → take (length keys) (triples_at names keys) ≡ triples_at names keys
all names keys = take_all (length keys) (triples_at names keys) (omega (arith, length-map keys (triple_at names)))

few : (names keys : List ℕ) (d : ℕ) → d ≡ length (runs_of (take (length keys) (triples_at names keys))) → length keys ≤ most_postings → d ≤ most_postings
few names keys d e m =
    let r = rows_few (triples_at names keys) (length keys) (omega (arith, length-map keys (triple_at names))) in
    omega arith

pub overflow_mul-rows : goal.overflow_mul-rows
overflow_mul-rows c = let f = few _ _ _ c.put_rows-d.ensures.count c.requires.0.most in record { fits = omega arith }

counted : (names keys : List ℕ) (d : ℕ) → d ≡ length (runs_of (take (length keys) (triples_at names keys))) → d ≡ length (runs_of (triples_at names keys))
counted names keys d e = e ∙ ap (λ (l : List ℕ). length (runs_of l)) (all names keys)

pub returns-then-room-rows : goal.returns-then-room-rows
returns-then-room-rows c =
    (counted _ _ _ c.put_rows-d.ensures.count, λ h. (let t = c.if-room-rows.true in absurd (omega arith)))

pub returns : goal.returns
returns c =
    let a = c.args in
    let d = c.put_rows-d.result in
    let p = length a.keys.now in
    let room = length a.words.now - p in
    let hp = c.requires.1 in
    let r = c.put_rows-d.new.out in
    let lists = c.put_lists.new.out in
    let lr : length r ≡ room = c.put_rows-d.auto.out ∙ length-take-le room a.words.now (omega arith) in
    let le = c.put_lists.ensures in
    let ll : length lists ≡ p = ap length le ∙ length-map a.keys.now (id_at a.names.now) in (
      counted _ _ _ c.put_rows-d.ensures.count,
      λ h.
          tail_put a.words.now r lists c.fill.new.words room (4 * d) p ((4 * d + p) - 4 * d) (length (put_mid (4 * d) ((4 * d + p) - 4 * d) (r ++ drop room a.words.now) lists) - (4 * d + p)) lr (omega arith) (omega arith) ll (omega arith) refl c.fill.ensures
          ∙ ap (pad_to (length a.words.now)) (ap₂ ◌++◌ (c.put_rows-d.ensures.words (omega arith) ∙ ap (λ (l : List ℕ). row_words 0 (runs_of l)) (all a.names.now a.keys.now)) le),
    )
