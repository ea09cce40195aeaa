-- `write_rows` meets its contract: after i names, the rows of the answers among them stand in front; where they are as many as all, the rest has none.
use Rattle.std.proofs.Common.{◌≡◌, ℕ, ◌≤◌, length, get_or}
use Rattle.words.specs.Words.{name_count, name_id, name_size}
use Rattle.search.specs.Places.{places_in}
use Rattle.search.proofs.Rows.{Written}
use Rattle.search.proofs.write_rows.Given as goal

abbrev pub invariant-loop-i : goal.invariant-loop-i
invariant-loop-i l =
    record {
      named : l.i ≤ name_count l.words;
      written : l.k ≡ length (places_in l.answers l.i);
      few : l.k ≤ l.rows;
      ids : Written l.answers (name_id l.words) l.initial.ids l.ids l.i;
      shared : Written l.answers (λ (j : ℕ). get_or l.answers j 0) l.initial.shared l.shared l.i;
      sizes : Written l.answers (name_size l.words) l.initial.sizes l.sizes l.i;
      least : Written l.answers (λ (j : ℕ). get_or l.leasts (name_size l.words j) 0) l.initial.least l.least l.i;
    }
