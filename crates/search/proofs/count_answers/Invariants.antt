-- `count_answers` meets its contract: after some turns, how many of the places passed are answers.
use Rattle.std.proofs.Common.{◌≡◌, ◌≤◌, length}
use Rattle.search.specs.Places.{places_in}
use Rattle.search.proofs.count_answers.Given as goal

abbrev pub invariant-loop-count : goal.invariant-loop-count
invariant-loop-count l = record { counted : l.rows ≡ length (places_in l.fn.answers l.count-index); few : l.rows ≤ l.count-index }
