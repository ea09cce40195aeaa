-- `name_for` meets its contract: only the name at the id's seat can have the id.
use Rattle.std.proofs.Common.{◌≡◌, sym, ap, ◌∙◌, arith}
use Rattle.words.specs.Words.{name_size}
use Rattle.index.proofs.Names.{names_within, seat_of_name, seat_of_none, one_name, for_met, for_size, for_none}
use Rattle.index.proofs.name_for.Goals as goal

pub name_size-requires : goal.name_size-requires
name_size-requires c =
    let h = seat_of_name c.args.words.now c.requires c.args.id c.in-At.at (sym c.name_seat.ensures ∙ c.in-At.is) in
    omega (arith, names_within c.args.words.now c.requires)

pub returns-in-At-clause-found : goal.returns-in-At-clause-found
returns-in-At-clause-found c =
    let h = seat_of_name c.args.words.now c.requires c.args.id c.in-At.at (sym c.name_seat.ensures ∙ c.in-At.is) in
    record { within = h.0; id_is = h.1; size_is = omega arith }

pub returns-in-At-clause-place : goal.returns-in-At-clause-place
returns-in-At-clause-place c =
    let h = seat_of_name c.args.words.now c.requires c.args.id c.in-At.at (sym c.name_seat.ensures ∙ c.in-At.is) in
    for_met c.args.words.now c.requires c.args.size c.args.id c.in-At.at h.0 h.1 (omega arith)

pub returns-in_default-clause-found : goal.returns-in_default-clause-found
returns-in_default-clause-found c =
    let w = c.args.words.now in
    let h = seat_of_name w c.requires c.args.id c.in-At.at (sym c.name_seat.ensures ∙ c.in-At.is) in
    λ at n.
    let e = one_name w c.requires c.in-At.at at h.0 n.within (h.1 ∙ sym n.id_is) in
    let q : name_size w c.in-At.at ≡ c.args.size = ap (name_size w) e ∙ n.size_is in
    omega arith

pub returns-in_default-clause-place : goal.returns-in_default-clause-place
returns-in_default-clause-place c =
    let w = c.args.words.now in
    let h = seat_of_name w c.requires c.args.id c.in-At.at (sym c.name_seat.ensures ∙ c.in-At.is) in
    for_size w c.requires c.args.size c.args.id c.in-At.at h.0 h.1 (λ q. omega arith)

pub returns-in_default-2-clause-found : goal.returns-in_default-2-clause-found
returns-in_default-2-clause-found c =
    λ at n. seat_of_none c.args.words.now c.requires c.args.id _ (sym c.name_seat.ensures ∙ c.in_default.is) at n.within n.id_is

pub returns-in_default-2-clause-place : goal.returns-in_default-2-clause-place
returns-in_default-2-clause-place c =
    for_none c.args.words.now c.requires c.args.size c.args.id
    (λ at l p q. seat_of_none c.args.words.now c.requires c.args.id _ (sym c.name_seat.ensures ∙ c.in_default.is) at l p)
