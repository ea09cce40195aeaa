-- A posting as the code holds it: its feature × 256 + the place of its name among the names, whose word has the size and the id.
-- A posting as one number of all three, `triple_of`, is for the definitions: with wider features it would not fit 64 bits.
-- Assumes nothing.
use Rattle.std.specs.Prelude.{List, [], ◌∷◌, ◌++◌, map, ℕ, suc, ◌+◌, ◌*◌, ◌/◌, ◌%◌, ◌≤◌, ◌<◌, length, get_or}
use Rattle.words.specs.Words.{size_room, feature_span}
use Rattle.index.specs.Good.{most_names, most_postings}
use Rattle.index_writer.specs.Built.{Entry, id_span, triple_of}

-- places are below this
abbrev pub place_span : ℕ
place_span = 256

-- the word of the key's name; 0 where there is no such name
abbrev pub word_at : List ℕ → ℕ → ℕ
word_at names k = get_or names (k % place_span) 0

-- the size, the feature and the id of the posting
abbrev pub size_at : List ℕ → ℕ → ℕ
size_at names k = word_at names k % size_room

abbrev pub feature_at : ℕ → ℕ
feature_at k = k / place_span

abbrev pub id_at : List ℕ → ℕ → ℕ
id_at names k = word_at names k / size_room

-- the three as one number
abbrev pub triple_at : List ℕ → ℕ → ℕ
triple_at names k = triple_of (size_at names k) (feature_at k) (id_at names k)

-- of each key, in their order
abbrev pub triples_at : List ℕ → List ℕ → List ℕ
triples_at names ks = map (triple_at names) ks

-- ---- of names

-- the keys of the name at a place
unfoldable pub keys_of : ℕ → Entry → List ℕ
keys_of i e = map (λ (f : ℕ). f * place_span + i) e.features

-- the keys of names, name after name, the first at a place
unfoldable pub keys_from : ℕ → List Entry → List ℕ
keys_from i [] = []
keys_from i (e ∷ es) = keys_of i e ++ keys_from (suc i) es

-- the keys of all names
abbrev pub all_keys : List Entry → List ℕ
all_keys es = keys_from 0 es

-- ---- what can be written

-- name words and keys within the limits of an index: ids that fit, and each key's name is there and its feature fits a word
pub record Keyed (names keys : List ℕ) : Type 0 where
  pub few : length names ≤ most_names
  pub most : length keys ≤ most_postings
  pub ids : (i : ℕ) → i < length names → get_or names i 0 / size_room < id_span
  pub named : (i : ℕ) → i < length keys → get_or keys i 0 % place_span < length names
  pub below : (i : ℕ) → i < length keys → feature_at (get_or keys i 0) < feature_span
