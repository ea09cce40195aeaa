-- `list_in` meets its contract.
use mathlib.Core.Path.{◌≡◌, ap}
use Prim.Native.Nat.{ℕ, ◌+◌, ◌-◌, ◌/◌, ◌%◌, min}
use native.Mathlib.Nat.{add-sub_cancel_left}
use native.Mathlib.Omega.{arith}
use lib.ListN.{length, get_or, take, drop, length-take}
use Rattle.candidates.specs.Tables.{cut_at}
use Rattle.candidates.proofs.list_in.Goals as goal

pub returns : goal.returns
unfolding cut_at
returns c =
    let k = get_or c.args.keys.now c.args.k 0 in
    let s = get_or c.args.starts.now (k % 256) 0 in
    let e : s + k / 256 - s ≡ k / 256 = add-sub_cancel_left s (k / 256) in
    let t : take (s + k / 256 - s) (drop s c.args.words.now) ≡ take (k / 256) (drop s c.args.words.now) = ap (λ (n : ℕ). take n (drop s c.args.words.now)) e in
    let n : length (take (s + k / 256 - s) (drop s c.args.words.now)) ≡ min (s + k / 256 - s) (length (drop s c.args.words.now)) = length-take (s + k / 256 - s) (drop s c.args.words.now) in
    let h = c.requires.2 in
    (t, omega arith)
