-- `is_name` meets its contract: what it looks at is what the place of a name of that id and size has, and only one name has that.
use Rattle.std.proofs.Common.{rules, arith}
use Rattle.index.proofs.Facts.{head_facts}
use Rattle.index.specs.Check.{NameAt}
use Rattle.index.proofs.Names.{names_within, for_met}
use Rattle.index.proofs.is_name.Goals as goal

pub name_count-requires : goal.name_count-requires
name_count-requires c = (head_facts _ c.requires.head).three

pub name_id-requires : goal.name_id-requires
name_id-requires c = omega (arith, names_within c.args.words.now c.requires, c.name_count.ensures.0)

pub name_size-requires : goal.name_size-requires
name_size-requires c = omega (arith, names_within c.args.words.now c.requires, c.name_count.ensures.0)

pub returns-then-name_id-id-clause-place : goal.returns-then-name_id-id-clause-place
returns-then-name_id-id-clause-place c =
    λ e.
    let n : NameAt c.args.words.now c.args.size c.args.id c.args.guess = search rules in
    for_met c.args.words.now c.requires c.args.size c.args.id c.args.guess n.within n.id_is n.size_is
