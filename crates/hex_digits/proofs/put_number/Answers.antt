-- `put_number` meets its contract: its bytes are the low ones of the number.
-- Assumes nothing.
use mathlib.Core.Path.{◌∙◌, ap}
use mathlib.Core.List.{List}
use Prim.Native.Nat.{ℕ}
use lib.Seq.{sets}
use Rattle.hex_digits.specs.Lines.{hex_of}
use Rattle.hex_digits.proofs.Numbers.{bytes_low}
use Rattle.hex_digits.proofs.put_number.Goals as goal

pub returns : goal.returns
returns c =
    let a = c.args in
    c.put_bytes.ensures ∙ ap (λ (s : List ℕ). sets a.out.now a.at (hex_of s)) (bytes_low a.width a.n _ c.requires.0 c.to_be_bytes.ensures)
