-- `take_lines` meets its contract: the tables hold the names of the lines so far, and the lines of the rest come to what all lines come to.
-- A turn of the loop is a `Turn` of Taking.antt, and what follows from a turn is proved there.
use Rattle.register.proofs.Taking.{Reached}
use Rattle.register.proofs.take_lines.Given as goal

abbrev pub invariant-loop-bytes : goal.invariant-loop-bytes
invariant-loop-bytes l = Reached l.register l.bytes-iterator.rest.now l.names l.keys l.n l.p l.next
