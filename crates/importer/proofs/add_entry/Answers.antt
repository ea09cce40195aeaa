-- `add_entry` meets its contract: what belongs to an id is put and counted.
-- Assumes nothing.
use Rattle.importer.proofs.Tables.{entered, not_entered}
use Rattle.importer.proofs.add_entry.Goals as goal

pub returns-in-Belongs : goal.returns-in-Belongs
returns-in-Belongs c =
    let a = c.args in
    entered a.outcome c.in-Belongs.id a.day a.reading a.k a.entries.now c.entry.result c.requires c.in-Belongs.is c.entry.ensures

pub returns-in_default : goal.returns-in_default
returns-in_default c =
    let a = c.args in
    not_entered a.outcome a.day a.reading a.k a.entries.now c.in_default.not-Belongs
