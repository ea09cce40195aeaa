-- `withdraw` meets its contract: each answer is the first case that holds, and where none does, the name at the id's seat is withdrawn.
use mathlib.Core.Path.{sym, ◌∙◌}
use native.Mathlib.Omega.{arith}
use Rattle.index.proofs.Laws.{good_named, good_seat}
use Rattle.upkeep.proofs.Laws.{seat_live, seat_unused, sought}
use Rattle.upkeep.proofs.Judging.{withdraw_bad, withdraw_gone, withdraw_live, withdrawn_words, withdrawn_kept}
use Rattle.upkeep.proofs.withdraw.Goals as goal

pub returns-then-not-good : goal.returns-then-not-good
returns-then-not-good c =
    let a = c.args in
    let w = a.words.now in
    let n = withdraw_bad c.args.words.now a.id (sym c.good.ensures ∙ c.if-not-good.true) in
    (sym n, sym (withdrawn_kept c.args.words.now a.id (λ q. let z = sym n ∙ q in omega arith)))

pub name_seat-seat-requires : goal.name_seat-seat-requires
name_seat-seat-requires c = good_named _ (sym c.good.ensures ∙ c.if-not-good.false)

pub returns-in_default : goal.returns-in_default
returns-in_default c =
    let a = c.args in
    let u = seat_unused a.words.now a.id _ (sought _ _ _ _ _ c.from-wide.ensures c.name_seat-seat.ensures c.in_default.is) in
    let n = withdraw_gone a.words.now a.id (sym c.good.ensures ∙ c.if-not-good.false) u in
    (sym n, sym (withdrawn_kept a.words.now a.id (λ q. let z = sym n ∙ q in omega arith)))

pub withdraw_with-requires : goal.withdraw_with-requires
withdraw_with-requires c =
    let a = c.args in
    let p = good_seat a.words.now (sym c.good.ensures ∙ c.if-not-good.false) a.id c.in-At.place (sought _ _ _ _ _ c.from-wide.ensures c.name_seat-seat.ensures c.in-At.is) in
    ((sym c.good.ensures ∙ c.if-not-good.false), p.0, p.1 ∙ sym c.from-wide.ensures, omega arith, omega arith)

pub returns : goal.returns
returns c =
    let a = c.args in
    let n = withdraw_live a.words.now a.id (sym c.good.ensures ∙ c.if-not-good.false) (seat_live a.words.now a.id c.in-At.place (sought _ _ _ _ _ c.from-wide.ensures c.name_seat-seat.ensures c.in-At.is)) in
    (sym n, (rw c.from-wide.ensures at c.withdraw_with.ensures) ∙ sym (withdrawn_words a.words.now a.id n))
