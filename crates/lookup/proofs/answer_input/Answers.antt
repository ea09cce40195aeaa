-- Opening goes by how many words are lent, and those are the program's.
use Rattle.std.proofs.Common.{sym, ap, ◌∙◌}
use Rattle.answers.specs.Output.{Opened, opened_of}
use Rattle.answers.proofs.Pieces.{opening_ok, words_lent}
use Rattle.lookup.proofs.answer_input.Goals as goal

pub answer_lines-requires : goal.answer_lines-requires
answer_lines-requires g c =
    let a = c.args in
    let p = c.requires in
    let o = c.open-opened in
    let e = o.ensures.value ∙ ap (opened_of a.input.now) p.0 in (
      record {
        opened = sym (ap (λ (x : Opened). x.number) e) ∙ opening_ok o.result c.in-Ok.is;
        queries = ap (λ (x : Opened). x.at) e;
        index = o.ensures.words_after ∙ words_lent a.input.now a.words.now p.0;
      },
      p.1,
    )
