-- `character_at` meets its contract: before the name and past it stand zeros.
use Rattle.std.proofs.Common.{◌≡◌, ◌-◌, ◌<◌, ◌≤◌, length, get_or, sym, ◌∙◌, arith}
use Rattle.std.proofs.lemmas.Grind.{common_steps}
use lib.ListN.{get_or-eq_default}
use Rattle.names.proofs.Lemmas.{pad_low, pad_at}
use Rattle.names.proofs.character_at.Goals as goal

pub returns-then-k-lt2 : goal.returns-then-k-lt2
returns-then-k-lt2 c = (sym (pad_low 3 _ _ c.if-k-lt2.true), omega arith)

pub returns-in-Some : goal.returns-in-Some
returns-in-Some c =
    let s = c.args.name.now in
    let k = c.args.k in
    let e : c.from.result ≡ get_or s (k - 2) 0 = grind (arith, common_steps) in
    let b = c.type_inv.name (k - 2) in
    (e ∙ sym (pad_at 3 s k (omega arith)), omega arith)

pub returns-in-None : goal.returns-in-None
returns-in-None c =
    let s = c.args.name.now in
    let k = c.args.k in
    let h : length s ≤ k - 2 = grind (arith, common_steps) in
    (sym (pad_at 3 s k (omega arith) ∙ get_or-eq_default s 0 h), omega arith)
