-- Pools open and close: the number of an add and of a withdrawal, and the words afterwards, of any words. What is refused first is the order of
-- `add_cases` and of `withdraw_cases` alone. The names of words are `entries_in`, their one index is `words_of`, both of index_writer.
-- Assumes nothing.
use Rattle.std.specs.Prelude.{Bool, cond, not, List, [], ◌∷◌, ◌++◌, ℕ, length, eqb, leb}
use Rattle.laws.specs.Cases.{Case, case, first_case}
use Rattle.laws.specs.Lists.{member}
use Rattle.names.specs.Names.{name_cases}
use Rattle.names.specs.Features.{features_of}
use Rattle.words.specs.Words.{name_count}
use Rattle.index.specs.Good.{most_names, good_of}
use Rattle.index_writer.specs.Built.{Entry, words_of}
use Rattle.index_writer.specs.Contents.{entries_in}
use Rattle.index_writer.specs.Written.{fits_in, pad_to}
use Rattle.changes.specs.Names.{ids_of, with_entry, without_id}

-- whether the id is live: a name of the words has it
abbrev pub is_live : List ℕ → ℕ → Bool
is_live w id = member id (ids_of (entries_in w))

-- the words with that index, and blanks behind it, if the number is 0; otherwise the words as they were
abbrev pub changed_if : ℕ → List ℕ → List ℕ → List ℕ
changed_if number index w = cond (eqb number 0) (pad_to (length w) index) w

-- ---- a name more

abbrev pub entry_for : ℕ → List ℕ → Entry
entry_for id name = record { id = id; features = features_of name }

-- the index of the names that are live then
abbrev pub index_with : List ℕ → ℕ → List ℕ → List ℕ
index_with w id name = words_of (with_entry (entry_for id name) (entries_in w))

-- 6, then the numbers of a name, then 9 for a live id, 10 where 256 names are live, 8 where the index that would result does not fit
abbrev pub add_cases : List ℕ → ℕ → List ℕ → List Case
add_cases w id name =
    case 6 (not (good_of w))
    ∷ (name_cases name
    ++ (case 9 (is_live w id) ∷ case 10 (leb most_names (name_count w)) ∷ case 8 (not (fits_in (length w) (index_with w id name))) ∷ []))

unfoldable pub added_of : List ℕ → ℕ → List ℕ → ℕ
added_of w id name = first_case (add_cases w id name)

unfoldable pub words_added : List ℕ → ℕ → List ℕ → List ℕ
words_added w id name = changed_if (added_of w id name) (index_with w id name) w

-- ---- a name less

-- the index of the names that are live then
abbrev pub index_without : List ℕ → ℕ → List ℕ
index_without w id = words_of (without_id id (entries_in w))

-- 6, then 13 where the id is not live
abbrev pub withdraw_cases : List ℕ → ℕ → List Case
withdraw_cases w id = case 6 (not (good_of w)) ∷ case 13 (not (is_live w id)) ∷ []

unfoldable pub withdrawn_of : List ℕ → ℕ → ℕ
withdrawn_of w id = first_case (withdraw_cases w id)

unfoldable pub words_withdrawn : List ℕ → ℕ → List ℕ
words_withdrawn w id = changed_if (withdrawn_of w id) (index_without w id) w
