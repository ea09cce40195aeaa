-- `has_control` meets its contract: a chain looks at each byte.
use Rattle.std.proofs.Common.{ℕ, ◌∙◌, rules, tests}
use Rattle.std.proofs.lemmas.Iterator.{YieldsList-from_slice}
use Rattle.std.proofs.lemmas.Iterator.Search.{any_from_yields_List}
use Rattle.names.specs.Names.{is_control, has_control}
use Rattle.names.proofs.Chains.{any_all}
use Rattle.names.proofs.has_control.Goals as goal

pub returns : goal.returns
unfolding has_control
returns c =
    let name = c.args.name.now in
    any_from_yields_List is_control _ _ c.any.result c.any.ensures.ran (YieldsList-from_slice name cc) (λ x b q k. search (rules, tests)) ∙ any_all is_control name 0
