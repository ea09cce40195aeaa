-- What stands in given words: the name words, the rows, the names with their features.
-- Of any words; in a good index they are what the index was made from (proofs/Unique.antt).
-- Assumes nothing.
use Rattle.std.specs.Prelude.{List, ℕ, ◌<◌}
use Rattle.laws.specs.Lists.{tabulate}
use Rattle.words.specs.Words.{name_count, row_count, name_word, name_id, row_size, row_feature, list_at, feature_span, key_of}
use Rattle.lists.specs.Lists.{features_in}
use Rattle.index_writer.specs.Built.{Entry, Row}

-- the name words, in order
unfoldable pub names_in : List ℕ → List ℕ
names_in w = tabulate (name_word w) (name_count w)

-- row r
abbrev pub row_in : List ℕ → ℕ → Row
row_in w r = record { key = key_of (row_size w r) (row_feature w r); list = list_at w r }

-- the rows, in order
unfoldable pub all_rows_in : List ℕ → List Row
all_rows_in w = tabulate (row_in w) (row_count w)

-- name i with the features that it stands for
abbrev pub entry_in : List ℕ → ℕ → Entry
entry_in w i = record { id = name_id w i; features = features_in w (name_id w i) }

-- the names with their features, in order
unfoldable pub entries_in : List ℕ → List Entry
entries_in w = tabulate (entry_in w) (name_count w)

-- the rows' features fit a word each; so wherever words are 32 bits wide
abbrev pub Narrow : List ℕ → Type 0
Narrow w = (r : ℕ) → r < row_count w → row_feature w r < feature_span
