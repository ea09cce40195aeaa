-- `put_fields` meets its contract: after k turns the digits of the first k fields stand from index 2 on, and `at` is after them.
-- Assumes nothing.
use mathlib.Core.Path.{◌≡◌}
use Prim.Native.Nat.{◌+◌, ◌*◌}
use lib.ListN.{length, take}
use lib.Seq.{sets}
use Rattle.laws.specs.Lists.{sum_of}
use Rattle.hex_digits.specs.Lines.{hex_of}
use Rattle.fields.specs.Layouts.{field_bytes}
use Rattle.fields.proofs.put_fields.Given as goal

abbrev pub invariant-loop-k : goal.invariant-loop-k
invariant-loop-k l =
    (l.out ≡ sets l.initial.out 2 (hex_of (field_bytes (take l.k l.layout.widths) l.fields)))
    × (l.at ≡ 2 + 2 * sum_of (take l.k l.layout.widths))
    × (length l.out ≡ length l.initial.out)
