-- `put_places` meets its contract: four places are put.
use native.Mathlib.Omega.{arith}
use Rattle.index_writer.proofs.Over.{mid_sets}
use Rattle.vacancies.proofs.put_places.Goals as goal

pub returns : goal.returns
returns c = mid_sets c.args.at.now c.args.n _ _ _ c.copy_from_slice.ensures.after (omega arith) (omega arith)
