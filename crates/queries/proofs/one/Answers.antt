-- `one` meets its contract: what does not lie in the bytes is refused with 11, and the search of what does has the columns' parts.
use Rattle.std.proofs.Common.{◌≡◌, sym, ap, subst, ◌-◌, List, ℕ, ◌≤◌, ◌<◌, length, arith}
use mathlib.Core.Logic.{◌⊎◌, ⊎_elim}
use Rattle.laws.proofs.Order.{le_or_lt}
use Rattle.std.proofs.lemmas.Result.{err_from_is_err_and}
use Rattle.refusals.specs.Refusals.{refusal_number, outcome_number}
use Rattle.search.specs.Answers.{Refused, answer_in, as_columns, Searched}
use Rattle.queries.specs.Queries.{answer_for}
use Rattle.queries.proofs.Room.{query_falls, query_beyond}
use Rattle.queries.proofs.Upto.{refused_columns, query_searched, lent_parts}
use Rattle.queries.proofs.one.Goals as goal

-- what does not lie in the bytes falls, or is beyond them
outside : (bytes : List ℕ) (from to m p q allowance : ℕ) (w : List ℕ) (room : ℕ) → (to < from) ⊎ (length bytes < to)
    → answer_for bytes from to m p q allowance w room ≡ Refused 11 0
outside bytes from to m p q allowance w room h =
    ⊎_elim
    (λ (f : from ≤ to).
    ⊎_elim
    (λ (l : to < from). absurd (omega arith))
    (λ (l : length bytes < to). query_beyond bytes from to m p q allowance w room f l)
    h)
    (λ (l : to < from). query_falls bytes from to m p q allowance w room l)
    (le_or_lt from to)

pub returns-in_err-query : goal.returns-in_err-query
returns-in_err-query c =
    let a = c.args in
    let lent = as_columns a.ids.now a.shared.now a.sizes.now a.least.now in
    let p = err_from_is_err_and c.from_residual.result c.from_residual.ensures.1 in
    let n = c.in_err-query.ensures.ok_part in
    let w = rw n at c.get.ensures.lookup in
    let e : refusal_number c.in_err-query.field-0.0 ≡ 11 = ap outcome_number (rw n at c.in_err-query.ensures.value) in
    rw (p.1, p.2, e) (
      sym (outside a.bytes.now a.from a.to a.measure a.p a.q a.allowance a.words.now (a.room - a.used) w.0),
      sym (refused_columns a.bytes.now a.from a.to a.measure a.p a.q a.allowance a.words.now a.used (Refused 11 0) lent (λ (z : 11 ≡ 0). omega arith)),
    )

pub returns : goal.returns
returns c =
    let a = c.args in
    let lent = as_columns a.ids.now a.shared.now a.sizes.now a.least.now in
    let s = c.search_checked in
    let w = rw c.in_ok-query.ensures.ok_part at c.get.ensures.lookup in
    let h = c.requires in
    query_searched a.bytes.now a.from a.to a.measure a.p a.q a.allowance a.words.now a.used a.room lent _ (answer_in s.result) w.0.0 w.0.1 h.1 h.2 h.3 h.4 h.5
    (subst (λ (l : List ℕ). Searched l a.measure a.p a.q a.allowance a.words.now (lent_parts a.bytes.now a.from a.to a.measure a.p a.q a.allowance a.words.now a.used a.room lent) (as_columns s.new.ids s.new.shared s.new.sizes s.new.least) (answer_in s.result)) w.0.2 s.ensures)
