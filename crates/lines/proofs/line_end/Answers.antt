-- `line_end` meets its contract: the first line feed from `from` on ends the line, and the end of the bytes where there is none.
-- Assumes nothing.
use mathlib.Core.Path.{◌≡◌, refl, ap, ◌∙◌}
use mathlib.Core.List.{List}
use Prim.Native.Nat.{ℕ, ◌+◌}
use lib.ListN.{length, drop}
use lib.Dec.{eqb}
use Rattle.std.proofs.Common.{rules, tests, Bor}
use Rattle.std.proofs.lemmas.Iterator.{YieldsList-from_slice}
use Rattle.std.proofs.lemmas.Iterator.Search.{position_from_yields_List}
use Rattle.std.specs.List.{position}
use Rattle.std.specs.Option.{option_map_or}
use Rattle.lines.specs.Lines.{line_feed, line_length}
use Rattle.lines.proofs.Lines.{rest_is, line_by}
use Rattle.lines.proofs.line_end.Goals as goal

pub returns : goal.returns
returns c =
    let a = c.args in
    let rest : List ℕ = c.unwrap_or-rest.result.now in
    let e : rest ≡ drop a.from a.bytes.now =
    ap (λ (x : Bor (List ℕ)). x.now) c.unwrap_or-rest.ensures ∙ rest_is a.bytes.now a.from c.get.result _ refl c.get.ensures.lookup.0 in
    let p : c.position.result ≡ position (λ b. eqb b line_feed) rest =
    position_from_yields_List _ _ _ _ c.position.ensures.ran (YieldsList-from_slice rest (cc)) (λ x r q k. search (rules, tests)) in
    let m : c.map_or.result ≡ option_map_or (λ (i : ℕ). i + 1) c.position.result (length rest) = search rules in
    ap (λ (n : ℕ). a.from + n) (m ∙ line_by rest _ p ∙ ap line_length e)
