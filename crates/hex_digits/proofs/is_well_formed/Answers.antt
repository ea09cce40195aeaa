-- `is_well_formed` meets its contract: a line is well formed by its pairs, and by what is left behind them.
-- Assumes nothing.
use mathlib.Core.Path.{◌≡◌, sym, ◌∙◌}
use native.Mathlib.Omega.{arith}
use lib.ListN.{length, get_or}
use borrow.Author.Tests.{ne_eqb}
use Rattle.std.proofs.Common.{rules, tests}
use Rattle.std.proofs.lemmas.Iterator.{YieldsList-from_slice}
use Rattle.std.proofs.lemmas.Iterator.Search.{all_from_yields_List}
use Rattle.std.specs.List.{list_all}
use Rattle.hex_digits.proofs.Lines.{pair_good, well_formed_cut, end_is, end_of_no_byte, end_of_another}
use Rattle.hex_digits.proofs.is_well_formed.Goals as goal

pub returns-in_default : goal.returns-in_default
returns-in_default c =
    let a = c.as_chunks in
    let r = a.result.1.now in
    sym (well_formed_cut _ r _ _ a.ensures.front a.ensures.back (end_of_no_byte r (λ (e : length r ≡ 1). omega arith)))

pub returns-in_default-2 : goal.returns-in_default-2
returns-in_default-2 c =
    let a = c.as_chunks in
    let r = a.result.1.now in
    sym (well_formed_cut _ r _ _ a.ensures.front a.ensures.back (end_of_no_byte r (λ (e : length r ≡ 1). omega arith)))

pub returns-then-last-eq10 : goal.returns-then-last-eq10
returns-then-last-eq10 c =
    let a = c.as_chunks in
    let p = a.result.0.now in
    let r = a.result.1.now in
    let e : c.all.result ≡ list_all pair_good p =
    all_from_yields_List pair_good _ _ _ c.all.ensures.ran (YieldsList-from_slice p (cc)) (λ x r q k. search (rules, tests)) in
    e ∙ sym (well_formed_cut _ r _ _ a.ensures.front a.ensures.back (end_is r (omega arith) c.if-last-eq10.true))

pub returns-else-last-eq10 : goal.returns-else-last-eq10
returns-else-last-eq10 c =
    let a = c.as_chunks in
    let r = a.result.1.now in
    ne_eqb (get_or r 0 0) 10 c.if-last-eq10.false ∙ sym (well_formed_cut _ r _ _ a.ensures.front a.ensures.back (end_of_another r c.if-last-eq10.false))
