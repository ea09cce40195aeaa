-- `put_row` meets its contract: a new row where one begins, a longer last row otherwise.
use mathlib.Core.Path.{sym, ap, ap₂, ◌∙◌}
use mathlib.Core.List.{List}
use Prim.Native.Nat.{ℕ, ◌%◌, ◌≤◌, ◌<◌}
use native.Mathlib.Omega.{arith}
use lib.ListN.{length, length-map}
use Rattle.index.specs.Good.{most_postings}
use Rattle.index_writer.specs.Keys.{triple_at, triples_at, Keyed}
use Rattle.index_writer.specs.Steps.{new_row, RowsAt}
use Rattle.index_writer.proofs.Keys.{triple_size, triple_feature}
use Rattle.index_writer.proofs.Rows.{rows_few, at_new, rows_some, last_short, at_more}
use Rattle.index_writer.proofs.put_row.Goals as goal

pub word_at-requires : goal.word_at-requires
word_at-requires c = c.requires.1.named c.args.i c.requires.0

pub overflow_cast-key : goal.overflow_cast-key
overflow_cast-key c = let f = c.requires.1.below c.args.i c.requires.0 in record { fits = omega arith }

-- the place is one of a posting, and there are at most as many rows as postings before it
within : (names keys : List ℕ) (i : ℕ) → i < length keys → i < length (triples_at names keys)
within names keys i h = rw (length-map keys (triple_at names)) h

few : (names keys : List ℕ) (i d : ℕ) (out : List ℕ) → i < length keys → Keyed names keys → RowsAt (triples_at names keys) i d out → d ≤ most_postings
few names keys i d out h k r =
    let m = rows_few (triples_at names keys) i (omega (arith, within names keys i h)) in
    omega (arith, r.count, k.most)

pub new_row-requires : goal.new_row-requires
new_row-requires c = few _ _ _ _ _ c.requires.0 c.requires.1 c.requires.2

pub overflow_add-result : goal.overflow_add-result
overflow_add-result c = let f = few _ _ _ _ _ c.requires.0 c.requires.1 c.requires.2 in record { fits = omega arith }

pub returns-then-begins_row : goal.returns-then-begins_row
returns-then-begins_row c =
    let a = c.args in
    let q = c.requires.1 in
    let h = c.requires.0 in
    let ts = triples_at a.names.now a.keys.now in
    at_new ts a.out.now a.i a.d (within a.names.now a.keys.now a.i c.requires.0) (sym c.begins_row.ensures ∙ c.if-begins_row.true) c.requires.2 _
    (c.new_row.ensures ∙ ap₂ (λ (x y : ℕ). new_row x y a.i a.out.now a.d) (ap (λ (x : ℕ). x % 256) c.word_at.ensures ∙ sym (triple_size q a.i h)) (sym (triple_feature q a.i h)))

pub grow_row-requires : goal.grow_row-requires
grow_row-requires c =
    let a = c.args in
    let n = sym c.begins_row.ensures ∙ c.if-begins_row.false in
    let ts = triples_at a.names.now a.keys.now in
    let m = c.requires.1.most in
    (rows_some ts a.out.now a.i a.d (within a.names.now a.keys.now a.i c.requires.0) n c.requires.2, few _ _ _ _ _ c.requires.0 c.requires.1 c.requires.2, λ r. (let t = last_short ts a.out.now a.i a.d (within a.names.now a.keys.now a.i c.requires.0) n c.requires.2 r in omega arith))

pub returns : goal.returns
returns c =
    let a = c.args in
    at_more (triples_at a.names.now a.keys.now) a.out.now a.i a.d (within a.names.now a.keys.now a.i c.requires.0) (sym c.begins_row.ensures ∙ c.if-begins_row.false) c.requires.2 _ c.grow_row.ensures
