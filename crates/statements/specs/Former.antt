-- An index that was built before control characters were refused: it stays good, and a search of it lists its names by their features, whatever bytes they have.
-- What a good index is does not ask how a name is judged. So it is said here of any names with their features, and then of those that were let in before.
-- Proved in proofs/Former.antt.
-- Assumes nothing.
use Rattle.std.specs.Prelude.{◌≡◌, false, List, ◌++◌, map, ℕ, ◌≤◌, length, get_or}
use Rattle.laws.specs.Lists.{member, Ascending}
use Rattle.laws.specs.Each.{Each}
use Rattle.names.specs.Names.{longest}
use Rattle.names.specs.Features.{features_by, gram_length, characters}
use Rattle.hex_digits.specs.Lines.{Bytes}
use Rattle.index.specs.Good.{most_names, largest_id, Good}
use Rattle.index_writer.specs.Built.{Entry, no_entry, words_of, Fit}
use Rattle.statements.specs.Demands.{Every, Answered, with_words, Names, Holds, Listing}

-- ---- the index of any names with their features

-- the names of entries, each with the features that its entry has
abbrev pub of_entries : List Entry → Names
of_entries es =
    record {
      count = length es;
      id = λ (i : ℕ). (get_or es i no_entry).id;
      features = λ (i : ℕ). (get_or es i no_entry).features;
    }

-- the words of their index, and whatever stands after it
abbrev pub index_of : List Entry → List ℕ → List ℕ
index_of es rest = words_of es ++ rest

-- such an index is good and holds the names, so every answered search of it lists those that are similar
pub record GoodAndListed (es : List Entry) (rest : List ℕ) : Type 0 where
  pub good : Good (index_of es rest)
  pub holds : Holds (index_of es rest) (of_entries es)
  pub listed : Every
      (λ A s a. Bytes a.query → Answered s (with_words (index_of es rest) a) → Listing s (of_entries es) (with_words (index_of es rest) a))

-- proved by `indexed`
abbrev pub Indexed : Type 0
Indexed = (es : List Entry) (rest : List ℕ) → Fit es → GoodAndListed es rest

-- ---- names that were let in before

-- a name with its id
pub record IdName : Type 0 where
  pub id : ℕ
  pub name : List ℕ

-- it was let in before: at least one byte and at most the longest, none of them 0
pub record LetIn (r : IdName) : Type 0 where
  pub id : r.id ≤ largest_id
  pub some : 1 ≤ length r.name
  pub short : length r.name ≤ longest
  pub zeros : member 0 r.name ≡ false
  pub bytes : Bytes r.name

-- the entry that a build made of it
abbrev pub entry_then : IdName → Entry
entry_then r = record { id = r.id; features = features_by gram_length characters r.name }

-- a register's names, as a build took them
pub record Register (rs : List IdName) : Type 0 where
  pub few : length rs ≤ most_names
  pub ids : Ascending (map (λ (r : IdName). r.id) rs)
  pub each : Each LetIn rs

-- so the index of such names is good, and is searched as before: proved by `former`
abbrev pub Former : Type 0
Former = (rs : List IdName) (rest : List ℕ) → Register rs → GoodAndListed (map entry_then rs) rest
