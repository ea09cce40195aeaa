-- `tally_of` meets its contract: 1 for a reading, and 0 where it is missing.
-- Assumes nothing.
use mathlib.Core.Path.{◌≡◌}
use Prim.Native.Nat.{ℕ}
use Rattle.std.proofs.Common.{rules}
use Rattle.std.specs.Option.{option_map_or}
use Rattle.weeks.specs.Pairs.{pair_in, tally}
use Rattle.weeks.proofs.Laws.{added}
use Rattle.weeks.proofs.Steps.{tally_most}
use Rattle.weeks.proofs.tally_of.Goals as goal

pub returns : goal.returns
unfolding tally
returns c =
    let x = c.args.entry in
    let h : c.map_or.result ≡ option_map_or (λ (n : ℕ). 1) c.reading_in.result 0 = search rules in
    let e : c.map_or.result ≡ tally (pair_in x) x = added _ x _ _ c.reading_in.ensures h in
    (e, rw e (tally_most (pair_in x) x))
