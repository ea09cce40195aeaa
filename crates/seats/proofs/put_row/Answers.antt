-- `put_row` meets its contract: four places and four words are put.
use mathlib.Core.Path.{◌≡◌, ap, ◌∙◌}
use mathlib.Core.List.{List}
use Prim.Native.Nat.{ℕ, ◌+◌, ◌-◌, ◌≤◌}
use native.Mathlib.Omega.{arith}
use lib.ListN.{length, take, drop, replicate, length-drop}
use lib.Seq.{length-take-le}
use Rattle.index_writer.proofs.Over.{mid_sets}
use Rattle.seats.proofs.put_row.Goals as goal

four : (l : List ℕ) (n : ℕ) → n + 4 ≤ length l → length (take (n + 4 - n) (drop n l)) ≡ 4
four l n h =
    let d = length-drop n l in
    let t = length-take-le (n + 4 - n) (drop n l) (omega arith) in
    omega arith

pub returns : goal.returns
returns c =
    let a = c.args in (
      mid_sets a.at.now a.n _ _ (replicate 4 a.place) (c.fill.ensures.after (λ y h. h) ∙ ap (λ (k : ℕ). replicate k a.place) (four a.at.now a.n c.requires.1)) (omega arith) c.requires.1,
      mid_sets a.values.now a.n _ _ _ c.copy_from_slice.ensures.after (omega arith) c.requires.2,
    )
