-- What a write took comes behind what was taken before.
use Rattle.std.proofs.Common.{rules, ◌++◌, ◌∙◌, ap, sym, subst, take}
use Rattle.std.specs.Io.KnownBytes.{Appends}
use Rattle.std.proofs.KnownBytes.{Appends-trans}
use Rattle.std.proofs.lemmas.List.{take_rest}
use lib.Seq.{take-add}
use Rattle.streams.proofs.write_text.Goals as goal

pub loop-taken-preserved-in-Ok : goal.loop-taken-preserved-in-Ok
loop-taken-preserved-in-Ok g c =
    let text = c.args.text.now in
    let from = c.loop-taken.taken in
    let more = c.in-Ok.more in
    let joined = ap (λ rest. take from text ++ take more rest) (take_rest text from) ∙ sym (take-add from more text) in
    record {
      within = search rules;
      bytes = subst (Appends _ _) joined (Appends-trans _ _ _ _ _ c.loop-taken.invariant.bytes c.in-Ok.ensures.bytes);
    }
