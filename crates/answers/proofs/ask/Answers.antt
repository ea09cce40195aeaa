-- `ask` meets its contract.
use Rattle.answers.proofs.ask.Goals as goal

pub search_good-requires : goal.search_good-requires
search_good-requires c = c.requires c.if-known.true
