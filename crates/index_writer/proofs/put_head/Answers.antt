-- `put_head` meets its contract: the names go after three words, and these are set.
use mathlib.Core.Path.{ap, ◌∙◌}
use mathlib.Core.List.{List}
use Prim.Native.Nat.{ℕ, ◌+◌, ◌-◌, ◌<◌}
use native.Mathlib.Omega.{arith}
use borrow.Rule.Slice.PartMut.{put_mid}
use lib.ListN.{length, set, length-set}
use Rattle.index_writer.proofs.Parts.{head_put, head_long}
use Rattle.index_writer.proofs.put_head.Goals as goal

pub bounds-words-1 : goal.bounds-words-1
bounds-words-1 c =
    let a = c.args in
    let b = c.requires in
    let b3 = b.3 in
    let k = (3 + length a.names.now) - 3 in
    let o = put_mid 3 k a.words.now c.put_names.new.out in
    let g = head_long c.put_names.new.out a.words.now k (omega arith) in
    let f = length-set o 0 (length a.names.now) in
    let h : 1 < length (set o 0 (length a.names.now)) = omega arith in
    h

pub bounds-words-2 : goal.bounds-words-2
bounds-words-2 c =
    let a = c.args in
    let b = c.requires in
    let b3 = b.3 in
    let k = (3 + length a.names.now) - 3 in
    let o = put_mid 3 k a.words.now c.put_names.new.out in
    let g = head_long c.put_names.new.out a.words.now k (omega arith) in
    let f = length-set o 0 (length a.names.now) in
    let j = length-set (set o 0 (length a.names.now)) 1 a.d in
    let h : 2 < length (set (set o 0 (length a.names.now)) 1 a.d) = omega arith in
    h

pub returns : goal.returns
returns c =
    let a = c.args in
    let b = c.requires in
    let k = (3 + length a.names.now) - 3 in
    ap (λ (t : List ℕ). set (set (set (put_mid 3 k a.words.now t) 0 (length a.names.now)) 1 a.d) 2 a.p) c.put_names.ensures
    ∙ head_put a.names.now a.words.now (length a.names.now) a.d a.p k b.3 (omega arith)
