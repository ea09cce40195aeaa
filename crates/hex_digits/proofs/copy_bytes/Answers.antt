-- `copy_bytes` meets its contract: after k turns the first k bytes stand at the start of the buffer.
-- Assumes nothing.
use mathlib.Core.Path.{◌≡◌}
use mathlib.Core.List.{List}
use Prim.Native.Nat.{ℕ, ◌+◌, ◌<◌}
use native.Mathlib.Omega.{arith}
use lib.ListN.{length, get_or, take, drop, length-drop}
use lib.Seq.{get_or-drop, length-take-le}
use Rattle.hex_digits.specs.Lines.{bytes_of}
use Rattle.hex_digits.proofs.Lines.{copy_more, sets_front, well_formed_length, well_formed_bytes}
use Rattle.hex_digits.proofs.copy_bytes.Goals as goal

pub overflow_cast-byte : goal.overflow_cast-byte
overflow_cast-byte c =
    let h = well_formed_bytes c.args.line.now c.requires.0 (c.args.at + c.loop-k.k) in
    let e = c.byte_at.ensures.0 in
    omega arith

pub loop-k-preserved : goal.loop-k-preserved
loop-k-preserved c =
    let a = c.args in
    let k = c.loop-k.k in
    let t : List ℕ = drop a.at (bytes_of a.line.now) in
    let m = well_formed_length a.line.now c.requires.0 in
    let n = length-take-le a.count a.buffer.now c.requires.2 in
    let h : k < length t = rw length-drop (omega arith) in
    let e : c.byte_at.result ≡ get_or t k 0 = rw get_or-drop c.byte_at.ensures.0 in
    rw (c.loop-k.invariant, e) (copy_more (take a.count a.buffer.now) t k h)

pub returns : goal.returns
returns c =
    let a = c.args in
    let t : List ℕ = drop a.at (bytes_of a.line.now) in
    let m = well_formed_length a.line.now c.requires.0 in
    let n = length-take-le a.count a.buffer.now c.requires.2 in
    let d = length-drop a.at (bytes_of a.line.now) in
    let e : c.loop-k.k ≡ a.count = omega arith in
    let f : length (take a.count t) ≡ a.count = length-take-le a.count t (omega arith) in
    rw (c.loop-k.invariant, e) (sets_front a.buffer.now (take a.count t) a.count f c.requires.2)
