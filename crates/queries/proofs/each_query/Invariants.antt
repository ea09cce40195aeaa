-- `each_query` meets its contract: after k queries, their outcomes and their rows stand in front.
use Rattle.search.specs.Answers.{as_columns}
use Rattle.queries.specs.Queries.{as_outcomes}
use Rattle.queries.proofs.Upto.{Upto}
use Rattle.queries.proofs.each_query.Given as goal

abbrev pub invariant-loop-k : goal.invariant-loop-k
invariant-loop-k l =
    Upto l.bytes l.ends l.measure l.p l.q l.allowance l.words l.room l.n (as_outcomes l.initial.numbers l.initial.until l.initial.touches) (as_columns l.initial.ids l.initial.shared l.initial.sizes l.initial.least) l.k l.used l.from (as_outcomes l.numbers l.until l.touches) (as_columns l.ids l.shared l.sizes l.least)
