-- `write` meets its contract: its tests come in the order of the definition, and past them the line is put.
-- Assumes nothing.
use mathlib.Core.Path.{◌≡◌, sym, ap, ◌∙◌}
use Prim.Native.Nat.{ℕ, suc, ◌≤◌}
use native.Mathlib.Omega.{arith}
use lib.ListN.{length}
use Rattle.fields.specs.Layouts.{Written, line_of}
use Rattle.fields.proofs.Layouts.{length_line, written_long, written_full, written_good, out_kept, out_good}
use Rattle.fields.proofs.write.Goals as goal

-- a refused writing answers a number that is not 0
refused : (w : Written) (n : ℕ) → w ≡ record { number = suc n; len = 0 } → w.number ≡ 0 → ⊥
refused w n e z = let h = ap (λ (x : Written). x.number) e in omega arith

pub returns-then-name-gt-LONGEST_NAME : goal.returns-then-name-gt-LONGEST_NAME
returns-then-name-gt-LONGEST_NAME c =
    let a = c.args in
    let e = written_long a.layout a.fields a.name.now (length a.out.now) c.if-name-gt-LONGEST_NAME.true in
    record {
      value = sym e;
      out_after = sym (out_kept a.layout a.fields a.name.now a.out.now (refused _ 1 e));
    }

pub returns-then-out-len : goal.returns-then-out-len
returns-then-out-len c =
    let a = c.args in
    let e = c.line_len-len.ensures.0 in
    let l = length_line a.layout a.fields a.name.now in
    let w = written_full a.layout a.fields a.name.now (length a.out.now) c.if-name-gt-LONGEST_NAME.false (omega arith) in
    record {
      value = sym w;
      out_after = sym (out_kept a.layout a.fields a.name.now a.out.now (refused _ 7 w));
    }

pub put_line-requires : goal.put_line-requires
put_line-requires c =
    let a = c.args in
    let e = c.line_len-len.ensures.0 in
    let l = length_line a.layout a.fields a.name.now in
    let h : length (line_of a.layout a.fields a.name.now) ≤ length a.out.now = omega arith in
    (c.requires, c.if-name-gt-LONGEST_NAME.false, h)

pub returns : goal.returns
returns c =
    let a = c.args in
    let l = length_line a.layout a.fields a.name.now in
    let e : c.line_len-len.result ≡ length (line_of a.layout a.fields a.name.now) = c.line_len-len.ensures.0 ∙ sym l in
    let h : length (line_of a.layout a.fields a.name.now) ≤ length a.out.now = omega arith in
    record {
      value =
          rw e (sym (written_good a.layout a.fields a.name.now (length a.out.now) c.if-name-gt-LONGEST_NAME.false h));
      out_after =
          rw (out_good a.layout a.fields a.name.now a.out.now c.if-name-gt-LONGEST_NAME.false h) c.put_line.ensures;
    }
