-- `next_gram` meets its contract: the last two characters of the gram before it, and one more.
use mathlib.Core.Path.{◌≡◌, refl, ap}
use Prim.Native.Nat.{ℕ, ◌+◌}
use native.Mathlib.Omega.{arith}
use lib.ListN.{get_or}
use Rattle.names.specs.Features.{padded, gram_length}
use Rattle.names.proofs.Lemmas.{gram_three}
use Rattle.names.proofs.next_gram.Goals as goal

pub returns : goal.returns
returns c =
    let s = c.args.name.now in
    let i = c.args.i in
    let x = c.character_at.result in
    let e = c.requires.1.0 in
    let k = c.requires.1.1 in
    let y = c.character_at.ensures.0 in
    let m = c.character_at.ensures.1 in
    let g = gram_three s i (get_or (padded gram_length s) i 0) (get_or (padded gram_length s) (i + 1) 0) x refl refl y in
    let n : i + 1 + 1 ≡ i + 2 = omega arith in
    let f = ap (λ (j : ℕ). get_or (padded gram_length s) j 0) n in
    (omega arith, omega arith, (omega arith, omega arith))
