-- What a build and a search of what it built come to: specs/Demands.antt says what, this file cites why.
-- Assumes nothing.
use mathlib.Core.Path.{◌≡◌, refl, sym, ap, subst, ◌∙◌}
use mathlib.Core.Bool.{false, false≢true}
use mathlib.Core.List.{List}
use Prim.Native.Nat.{ℕ, ◌≤◌, ◌<◌}
use lib.ListN.{length}
use Rattle.names.specs.Features.{features_of}
use Rattle.names.proofs.Laws.{length_features}
use Rattle.words.specs.Words.{name_size}
use Rattle.index.specs.Good.{good_of}
use Rattle.index_writer.specs.Built.{Entry, words_of}
use Rattle.lines.specs.Lines.{lines_of, nth_line}
use Rattle.register.specs.Build.{name_of, words_after}
use Rattle.register.proofs.Room.{room_enough}
use Rattle.register.proofs.Laws.{accepted_good, refused_words, refused_bad}
use Rattle.register.proofs.First.{first_bad_built, none_bad, none_bad_over, none_bad_fits}
use Rattle.register.proofs.Names.{accepted_name, accepted_count, accepted_id, accepted_size, accepted_features}
use Rattle.search.specs.Answers.{number_in, refusal_of}
use Rattle.search.specs.Answers.{Refused}
use Rattle.search.proofs.Answered.{search_refused}
use Rattle.search.proofs.Outcomes.{admitted}
use Rattle.statements.specs.Demands.{Lending, columns, records, Question, answer, number, RefusedBefore, Accepted, of_register, of_built, Builds, EndToEnd}
use Rattle.statements.proofs.Demands.{refused_first}
use Rattle.statements.proofs.Listing.{listings}

-- ---- words that are not good

-- what their searches answer
pub bad_answer : {A : Type 0} (s : Lending A) (a : Question A) → good_of a.words ≡ false
    → (answer s a ≡ Refused (refusal_of a.query a.measure a.p a.q a.words) 0) × (number s a ≡ 0 → ⊥)
bad_answer s a g =
    let n : refusal_of a.query a.measure a.p a.q a.words ≡ 0 → ⊥ = λ z. false≢true (sym g ∙ (admitted a.query a.measure a.p a.q a.words z).good) in
    let e = search_refused a.query a.measure a.p a.q a.allowance a.words (s.room a.lent) (refusal_of a.query a.measure a.p a.q a.words) refl n in
    (e, λ z. n (sym (ap number_in e) ∙ z))

-- they are refused before the work is counted
bad_refused : {A : Type 0} (s : Lending A) (a : Question A) → good_of a.words ≡ false → RefusedBefore s a
bad_refused s a g = (ap number_in (bad_answer s a g).0 ∙ refused_first a, (bad_answer s a g).1)

-- ---- a build

size_line : (register words : List ℕ) → Accepted register words → (i : ℕ) → i < length (lines_of register)
    → name_size (words_after register words) i ≡ length (features_of (name_of (nth_line register i)))
size_line register words k i h = accepted_size register words k i h ∙ sym (length_features (name_of (nth_line register i)) (accepted_name register words k i h))

pub builds : Builds
builds register words =
    record {
      bad_line = λ i h g b. first_bad_built register i (length words) h g b;
      no_room = λ g h.
          let t = none_bad register g in
          none_bad_over register (length words) t.0 (subst (λ (l : List Entry). length words < length (words_of l)) (sym t.1) h);
      room = λ g h.
          let t = none_bad register g in
          none_bad_fits register (length words) t.0 (subst (λ (l : List Entry). length (words_of l) ≤ length words) (sym t.1) h);
      enough = room_enough register (length words);
      good = accepted_good register words;
      holds = λ k.
          record {
            count = accepted_count register words k;
            id = accepted_id register words k;
            size = size_line register words k;
            features = accepted_features register words k;
          };
      every_word = refused_words register words;
      refused = λ n. (
        λ a. bad_refused columns (of_built register words a) (refused_bad register words n),
        λ a. bad_refused records (of_built register words a) (refused_bad register words n),
      );
    }

-- ---- end to end

pub end_to_end : EndToEnd
end_to_end register words = (
  λ a b k n. (listings (of_register register)).0 (of_built register words a) ((builds register words).holds k) b n,
  λ a b k n. (listings (of_register register)).1 (of_built register words a) ((builds register words).holds k) b n,
)
