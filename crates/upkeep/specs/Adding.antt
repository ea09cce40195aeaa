-- A name that goes into a good index in place: what is known of it by then, and where its words go. Cited by the parts of `add`.
-- Assumes nothing.
use Rattle.std.specs.Prelude.{◌≡◌, false, List, ℕ, ◌+◌, ◌*◌, ◌<◌, length}
use Rattle.laws.specs.Lists.{Ascending}
use Rattle.names.specs.Features.{most_features}
use Rattle.words.specs.Words.{name_width, row_width, name_count}
use Rattle.binary_search.specs.Seats.{place_of}
use Rattle.index.specs.Good.{most_names, ids_in, Good}
use Rattle.index_writer.specs.Built.{Entry, word_of, words_of, EntryFit}
use Rattle.index_writer.specs.Contents.{all_rows_in, entries_in}
use Rattle.changes.specs.Names.{with_entry}
use Rattle.changes.specs.Cuts.{add_cuts, add_words}
use Rattle.upkeep.specs.Upkeep.{is_live}

-- the most words of a name: its own, and for each feature those of a row and a posting
abbrev pub most_moved : ℕ
most_moved = name_width + (row_width + 1) * most_features

abbrev pub new_entry : ℕ → List ℕ → Entry
new_entry id fs = record { id = id; features = fs }

-- the words are a good index that has room for a name more, the id is not live, its place is known, and its features ascend
pub record Addable (w : List ℕ) (id at : ℕ) (fs : List ℕ) : Type 0 where
  pub good : Good w
  pub place : at ≡ place_of id (ids_in w)
  pub unused : is_live w id ≡ false
  pub few : name_count w < most_names
  pub rise : Ascending fs
  pub fit : EntryFit (new_entry id fs)

-- the index of the names that are live then
abbrev pub index_for : List ℕ → ℕ → List ℕ → List ℕ
index_for w id fs = words_of (with_entry (new_entry id fs) (entries_in w))

-- where its words go, and which they are
unfoldable pub cuts_for : List ℕ → ℕ → List ℕ → List ℕ
cuts_for w id fs = add_cuts (name_count w) (place_of id (ids_in w)) (length fs) id (all_rows_in w) fs

unfoldable pub words_for : List ℕ → ℕ → List ℕ → List ℕ
words_for w id fs = add_words (word_of (new_entry id fs)) (length fs) id (all_rows_in w) fs
