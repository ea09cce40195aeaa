-- `put_name` meets its contract: nothing for a layout without a name, and otherwise the length and after it the name.
-- Assumes nothing.
use mathlib.Core.Path.{◌≡◌, ◌∙◌}
use mathlib.Core.Bool.{true, false}
use mathlib.Core.List.{[], ◌∷◌}
use Prim.Native.Nat.{◌+◌, ◌*◌, ◌≤◌}
use native.Mathlib.Omega.{arith}
use lib.ListN.{length}
use Rattle.hex_digits.specs.Lines.{hex_of}
use Rattle.hex_digits.proofs.Lines.{sets_hex}
use Rattle.fields.specs.Layouts.{name_bytes}
use Rattle.fields.proofs.put_name.Goals as goal

pub returns-then-not-named : goal.returns-then-not-named
unfolding name_bytes hex_of
returns-then-not-named c =
    let e : c.args.named ≡ false = c.if-not-named.true in
    rw e

pub put_pair-requires : goal.put_pair-requires
unfolding name_bytes
put_pair-requires c =
    let e : c.args.named ≡ true = c.if-not-named.false in
    let p = rw e at c.requires.1 in
    let h : c.args.at + 2 ≤ length c.args.out.now = omega arith in
    h

pub put_bytes-requires : goal.put_bytes-requires
unfolding name_bytes
put_bytes-requires c =
    let e : c.args.named ≡ true = c.if-not-named.false in
    let p = rw e at c.requires.1 in
    let k = c.put_pair.auto.out in
    let h : c.args.at + 2 + 2 * length c.args.name.now ≤ length c.put_pair.new.out = omega arith in
    h

pub returns : goal.returns
unfolding name_bytes
returns c =
    let a = c.args in
    let e : a.named ≡ true = c.if-not-named.false in
    c.put_bytes.ensures ∙ rw (c.put_pair.ensures, e) (sets_hex a.out.now a.at (length c.args.name.now ∷ []) c.args.name.now)
