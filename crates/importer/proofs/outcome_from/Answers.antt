-- `outcome_from` meets its contract, by the answer's case and the count of its rows.
use Rattle.std.proofs.Common.{arith, rules}
use Rattle.importer.specs.Import.{outcome_from}
use Rattle.importer.proofs.Searching.{from_none, from_one, from_many}
use Rattle.importer.proofs.outcome_from.Goals as goal

pub returns-in-empty : goal.returns-in-empty
returns-in-empty c = let h = c.in-empty.len_below in rw c.in-Ok.is (from_none _ _ _ _ _ (omega arith))

pub returns-in-len1 : goal.returns-in-len1
returns-in-len1 c =
    let h = c.in-len1.len_below in
    let l = c.in-len1.len_at_least in
    rw c.in-Ok.is (from_one _ _ _ _ _ (omega arith))

pub returns-in_default : goal.returns-in_default
returns-in_default c = rw c.in-Ok.is (from_many _ _ _ _ _ c.in_default.len_at_least)

pub returns-in-Err : goal.returns-in-Err
unfolding outcome_from
returns-in-Err c = rw c.in-Err.is (search rules)
