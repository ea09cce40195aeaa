-- What a part of the check leans on, where an earlier part has found it so, where it finds a name, and the tally that it keeps.
-- Assumes nothing.
use Rattle.std.specs.Prelude.{◌≡◌, true, ◌&&◌, List, ℕ, ◌<◌, get_or, eqb, Option, None, Some}
use Rattle.laws.specs.Lists.{member}
use Rattle.laws.specs.First.{first_from}
use Rattle.laws.specs.Below.{count_below}
use Rattle.words.specs.Words.{name_count, name_id, name_size, list_at}
use Rattle.index.specs.Good.{head_good, names_good, rows_good}

-- head and names are good
pub record Named (w : List ℕ) : Type 0 where
  pub head : head_good w ≡ true
  pub names : names_good w ≡ true

-- and the rows
pub record Checked (w : List ℕ) : Type 0 where
  pub named : Named w
  pub rows : rows_good w ≡ true

-- the place of the name of that id and that size; N where there is none
unfoldable pub name_for : List ℕ → ℕ → ℕ → ℕ
name_for w size id = first_from (λ (i : ℕ). eqb (name_id w i) id && eqb (name_size w i) size) (name_count w) 0

-- a place of a name of that id and that size
pub record NameAt (w : List ℕ) (size id at : ℕ) : Type 0 where
  pub within : at < name_count w
  pub id_is : name_id w at ≡ id
  pub size_is : name_size w at ≡ size

-- such a place, or nothing where no name has that id and that size
abbrev pub NameFor : List ℕ → ℕ → ℕ → Option ℕ → Type 0
NameFor w size id (Some at) = NameAt w size id at
NameFor w size id None = (at : ℕ) → NameAt w size id at → ⊥

-- how many guesses there are, of both kinds
abbrev pub guess_room : ℕ
guess_room = 8192

-- the tally has, at each name's place, how many of the first r lists hold the name
unfoldable pub Tallied : List ℕ → ℕ → List ℕ → Type 0
Tallied w r tally = (i : ℕ) → i < name_count w → get_or tally i 0 ≡ count_below r (λ (s : ℕ). member (name_id w i) (list_at w s))
