-- `write_index` meets its contract: rows, lists and blanks after the names, where all fits, and the head before these.
use mathlib.Core.Path.{◌≡◌, refl, sym, ap, ◌∙◌}
use mathlib.Core.List.{List, ◌++◌}
use Prim.Native.Nat.{ℕ, ◌+◌, ◌*◌, ◌-◌, ◌≤◌}
use native.Mathlib.Omega.{arith}
use borrow.Author.Tests.{le-leb, lt-leb}
use borrow.Rule.Slice.PartMut.{put_mid}
use lib.ListN.{length, take, drop, replicate, length-map}
use Rattle.index.specs.Good.{most_postings}
use Rattle.index_writer.specs.Built.{runs_of, row_words, words_from}
use Rattle.index_writer.specs.Keys.{triple_at, triples_at}
use Rattle.index_writer.specs.Written.{blank, pad_to}
use Rattle.index_writer.proofs.Keys.{ids_at}
use Rattle.index_writer.proofs.Rows.{rows_most}
use Rattle.index_writer.proofs.Parts.{length_mid, length_put, length_from, index_put, written_all, written_none}
use Rattle.index_writer.proofs.write_index.Goals as goal

-- the words that are to be written
abbrev index : goal.After-slice_known-then-room-head-1 → List ℕ
index c = words_from c.args.names.now (runs_of (triples_at c.args.names.now c.args.keys.now))

wide : (c : goal.After-slice_known-then-room-head-1) → length (index c) ≡ 3 + length c.args.names.now + 4 * length (runs_of (triples_at c.args.names.now c.args.keys.now)) + length c.args.keys.now
wide c =
    let n = length_from c.args.names.now (triples_at c.args.names.now c.args.keys.now) in
    let m = length-map c.args.keys.now (triple_at c.args.names.now) in
    omega arith

pub returns-then-room-head : goal.returns-then-room-head
returns-then-room-head c =
    let a = c.args in
    let n = wide c in
    let t = c.if-room-head.true in
    let f = lt-leb (length (index c)) (length a.words.now) (omega arith) in
    (sym f, c.fill.ensures ∙ sym (written_none (length a.words.now) (index c) f))

few : (c : goal.After-slice_known-2-1) → c.put_tail-d.result ≤ most_postings
few c =
    let e = c.put_tail-d.ensures.0 in
    let n = length-map c.args.keys.now (triple_at c.args.names.now) in
    let r = rows_most (triples_at c.args.names.now c.args.keys.now) in
    let m = c.requires.most in
    omega arith

pub overflow_mul-d : goal.overflow_mul-d
overflow_mul-d c = let f = few c in record { fits = omega arith }

pub overflow_add-head-4 : goal.overflow_add-head-4
overflow_add-head-4 c =
    let f = few c in
    let n = c.requires.few in
    let m = c.requires.most in
    record { fits = omega arith }

-- `index`, at another place
abbrev index-2 : goal.After-slice_known-then-room-head-2-1 → List ℕ
index-2 c = words_from c.args.names.now (runs_of (triples_at c.args.names.now c.args.keys.now))

-- `wide`, at another place
wide-2 : (c : goal.After-slice_known-then-room-head-2-1) → length (index-2 c) ≡ 3 + length c.args.names.now + 4 * length (runs_of (triples_at c.args.names.now c.args.keys.now)) + length c.args.keys.now
wide-2 c =
    let n = length_from c.args.names.now (triples_at c.args.names.now c.args.keys.now) in
    let m = length-map c.args.keys.now (triple_at c.args.names.now) in
    omega arith

-- the words are as many as before
kept : (c : goal.After-slice_known-then-room-head-2-1)
    → let h = 3 + length c.args.names.now in length (put_mid h (length c.args.words.now - h) c.args.words.now c.put_tail-d.new.words) ≡ length c.args.words.now
kept c =
    let h = 3 + length c.args.names.now in
    let t = c.if-room-head.false in
    length_put h (length c.args.words.now - h) c.args.words.now c.put_tail-d.new.words (omega arith) refl c.put_tail-d.auto.words

pub returns-then-room-head-2 : goal.returns-then-room-head-2
returns-then-room-head-2 c =
    let n = wide-2 c in
    let e = c.put_tail-d.ensures.0 in
    let t = c.if-room-head-2.true in
    let f = lt-leb (length (index-2 c)) (length c.args.words.now) (omega arith) in
    (sym f, c.fill-then-room-head-2.ensures ∙ ap (λ (n : ℕ). replicate n blank) (kept c) ∙ sym (written_none (length c.args.words.now) (index-2 c) f))

-- `kept`, at another place
kept-2 : (c : goal.After-put_head-arg-1)
    → let h = 3 + length c.args.names.now in length (put_mid h (length c.args.words.now - h) c.args.words.now c.put_tail-d.new.words) ≡ length c.args.words.now
kept-2 c =
    let h = 3 + length c.args.names.now in
    let t = c.if-room-head.false in
    length_put h (length c.args.words.now - h) c.args.words.now c.put_tail-d.new.words (omega arith) refl c.put_tail-d.auto.words

-- `few`, at another place
few-2 : (c : goal.After-put_head-arg-1) → c.put_tail-d.result ≤ most_postings
few-2 c =
    let e = c.put_tail-d.ensures.0 in
    let n = length-map c.args.keys.now (triple_at c.args.names.now) in
    let r = rows_most (triples_at c.args.names.now c.args.keys.now) in
    let m = c.requires.most in
    omega arith

pub put_head-requires : goal.put_head-requires
put_head-requires c =
    let q = kept-2 c in
    let t = c.if-room-head.false in
    (c.requires.few, few-2 c, c.requires.most, omega arith)

-- `index`, at another place
abbrev index-3 : goal.After-slice_known-3-1 → List ℕ
index-3 c = words_from c.args.names.now (runs_of (triples_at c.args.names.now c.args.keys.now))

-- `wide`, at another place
wide-3 : (c : goal.After-slice_known-3-1) → length (index-3 c) ≡ 3 + length c.args.names.now + 4 * length (runs_of (triples_at c.args.names.now c.args.keys.now)) + length c.args.keys.now
wide-3 c =
    let n = length_from c.args.names.now (triples_at c.args.names.now c.args.keys.now) in
    let m = length-map c.args.keys.now (triple_at c.args.names.now) in
    omega arith

pub returns : goal.returns
returns c =
    let a = c.args in
    let n = wide-3 c in
    let e = c.put_tail-d.ensures.0 in
    let t = c.if-room-head-2.false in
    let u = c.if-room-head.false in
    let h = 3 + length a.names.now in
    let f = le-leb (length (index-3 c)) (length a.words.now) (omega arith) in
    let m = length_mid h (length a.words.now - h) a.words.now refl in
    let ts = triples_at a.names.now a.keys.now in (
      sym f,
      c.put_head.ensures
          ∙ index_put a.names.now ts a.words.now c.put_tail-d.new.words c.put_tail-d.result (length a.keys.now) (length a.words.now - h) (length (take (length a.words.now - h) (drop h a.words.now))) (omega arith) refl e (sym (length-map a.keys.now (triple_at a.names.now))) m
          (c.put_tail-d.ensures.1 (omega arith) ∙ ap (λ (l : List ℕ). pad_to (length (take (length a.words.now - h) (drop h a.words.now))) (row_words 0 (runs_of ts) ++ l)) (ids_at c.requires))
          ∙ sym (written_all (length a.words.now) (index-3 c) f),
    )
