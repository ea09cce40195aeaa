-- What `Good` says, as statements: each list as a list, each listed id with its name. That the two say the same is in proofs/Plain.antt.
-- Assumes nothing.
use Rattle.std.specs.Prelude.{◌≡◌, true, List, ℕ, ◌+◌, ◌≤◌, ◌<◌, length}
use Rattle.laws.specs.Lists.{member, Ascending}
use Rattle.laws.specs.Below.{sum_below}
use Rattle.names.specs.Features.{most_features}
use Rattle.words.specs.Words.{head_width, name_count, row_count, posting_count, name_id, name_size, row_size, row_place, row_length, list_at, total}
use Rattle.index.specs.Good.{most_names, most_postings, largest_id, least_size, row_before, lists_with}

-- a name of that id and size stands among the names
abbrev pub NameOf : List ℕ → ℕ → ℕ → Type 0
NameOf w size id = (i : ℕ) × (i < name_count w) × (name_id w i ≡ id) × (name_size w i ≡ size)

pub record Plain (w : List ℕ) : Type 0 where
  pub head : head_width ≤ length w
  pub few : name_count w ≤ most_names
  pub postings : posting_count w ≤ most_postings
  pub room : total w ≤ length w
  pub id : (i : ℕ) → i < name_count w → name_id w i ≤ largest_id
  pub least : (i : ℕ) → i < name_count w → least_size ≤ name_size w i
  pub most : (i : ℕ) → i < name_count w → name_size w i ≤ most_features
  pub ids : (i : ℕ) → i + 1 < name_count w → name_id w i < name_id w (i + 1)
  pub some : (r : ℕ) → r < row_count w → 1 ≤ row_length w r
  pub place : (r : ℕ) → r < row_count w → row_place w r ≡ sum_below r (row_length w)
  pub rows : (r : ℕ) → r + 1 < row_count w → row_before w r (r + 1) ≡ true
  pub sum : sum_below (row_count w) (row_length w) ≡ posting_count w
  pub up : (r : ℕ) → r < row_count w → Ascending (list_at w r)
  pub named : (r id : ℕ) → r < row_count w → member id (list_at w r) ≡ true → NameOf w (row_size w r) id
  pub held : (i : ℕ) → i < name_count w → lists_with w (name_id w i) ≡ name_size w i
