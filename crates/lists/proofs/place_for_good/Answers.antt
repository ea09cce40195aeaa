-- `place_for_good` meets its contract: as `place_among`, of the rows that the size has.
use Rattle.index.proofs.Laws.{good_three}
use Rattle.lists.proofs.place_for_good.Goals as goal

pub postings_start-first-requires : goal.postings_start-first-requires
postings_start-first-requires c = good_three _ c.requires

pub place_among-requires : goal.place_among-requires
place_among-requires c = (c.requires, c.rows_of_size-rows.ensures.words, c.postings_start-first.ensures.0)

pub returns : goal.returns
returns c = c.place_among.ensures
