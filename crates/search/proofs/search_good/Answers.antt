-- `search_good` meets its contract: it says that the words are good, as they are.
use mathlib.Core.Path.{sym}
use Rattle.search.proofs.search_good.Goals as goal

pub search_checked-requires : goal.search_checked-requires
search_checked-requires c = sym c.requires
