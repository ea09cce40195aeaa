-- Before each line what is sent and the answers from there on are the output (`Sending`), and what is sent was taken.
use Rattle.std.proofs.Common.{length, take, ◌-◌}
use Rattle.std.specs.Io.KnownBytes.{Appends}
use Rattle.answers.specs.Output.{output_of}
use Rattle.lookup.proofs.Sending.{Sending}
use Rattle.lookup.proofs.answer_lines.Given as goal

abbrev pub invariant-loop-at : goal.invariant-loop-at
invariant-loop-at g l = record {
  next : Sending l.input l.words l.out l.sent l.at;
  taken : Appends (g.W.Write.contents l.initial.writer) (g.W.Write.contents l.writer) (take l.sent (output_of l.input));
}

abbrev pub decreases-loop-at : goal.decreases-loop-at
decreases-loop-at g l = length l.input - l.at
