-- Pools open and close: an index after names were added and withdrawn. What one call leaves, of any words; what any run of calls leaves, refused ones
-- among them; and that searches keep demands 2 and 3 over the names then live. That `add` and `withdraw` are `added_of`, `words_added`, `withdrawn_of` and
-- `words_withdrawn` are their contracts, in `upkeep`. Proved in proofs/Live.antt.
-- Assumes nothing.
use Rattle.std.specs.Prelude.{◌≡◌, true, false, cond, not, List, [], ◌∷◌, ◌++◌, map, ℕ, ◌+◌, ◌*◌, ◌≤◌, ◌<◌, length, get_or, take, eqb, leb}
use Rattle.laws.specs.Lists.{member, count_of, sum_of}
use Rattle.laws.specs.Each.{Each}
use Rattle.laws.specs.Filter.{filter_of}
use Rattle.laws.specs.Cases.{first_case}
use Rattle.names.specs.Names.{judge_of}
use Rattle.names.specs.Features.{features_of}
use Rattle.hex_digits.specs.Lines.{Bytes}
use Rattle.fields.specs.Layouts.{line_of}
use Rattle.frames.specs.Frames.{name_frame}
use Rattle.words.specs.Words.{name_count, posting_count, total}
use Rattle.index.specs.Good.{most_names, largest_id, good_of, Good}
use Rattle.index_writer.specs.Contents.{entries_in}
use Rattle.changes.specs.Names.{with_entry, without_id}
use Rattle.upkeep.specs.Upkeep.{is_live, entry_for, index_with, add_cases, added_of, words_added, withdraw_cases, withdrawn_of, words_withdrawn}
use Rattle.lines.specs.Lines.{lines_of}
use Rattle.lists.specs.Lists.{features_in}
use Rattle.sizes.specs.Method.{touches_of_size}
use Rattle.register.specs.Build.{id_in, name_of, most_words, words_after}
use Rattle.statements.specs.Demands.{Lending, Question, Every, steps, Answered, Counted, Demand2, Demand3, with_words, Names, Holds, Listing, Accepted}
use Rattle.statements.specs.Former.{of_entries, IdName}

-- each word has 32 bits, as lent words have
abbrev pub Words : List ℕ → Type 0
Words w = (k : ℕ) → get_or w k 0 < 4294967296

-- ---- one call, of any words

-- the words after an accepted call are as many as before, a good index that holds these names, and blank beyond its total; and any good index that
-- holds the same names has the same words up to there
pub record Leaves (before after : List ℕ) (names : Names) : Type 0 where
  pub as_many : length after ≡ length before
  pub good : Good after
  pub holds : Holds after names
  pub beyond : (k : ℕ) → total after ≤ k → k < length after → get_or after k 0 ≡ 4294967295
  pub only : (other : List ℕ) → Words other → Good other → Holds other names → take (total other) other ≡ take (total after) after

-- the words are the one good index of these names: a good index that holds them, and blank beyond its total; and any good index that holds the same
-- names has the same words up to there
pub record TheIndex (w : List ℕ) (names : Names) : Type 0 where
  pub good : Good w
  pub holds : Holds w names
  pub beyond : (k : ℕ) → total w ≤ k → k < length w → get_or w k 0 ≡ 4294967295
  pub only : (other : List ℕ) → Words other → Good other → Holds other names → take (total other) other ≡ take (total w) w

pub record Adding (w : List ℕ) (id : ℕ) (name : List ℕ) : Type 0 where
  -- the first case that applies gives the number, 0 where none does: 6, the name's own numbers, 9, 10, 8
  pub judged : added_of w id name ≡ first_case (add_cases w id name)
  -- a refused add changes no word
  pub refused : (added_of w id name ≡ 0 → ⊥) → words_added w id name ≡ w
  -- after an accepted one the words are the one index of the names of before, each with its features, and this name with its own
  pub accepted : added_of w id name ≡ 0 → Leaves w (words_added w id name) (of_entries (with_entry (entry_for id name) (entries_in w)))
  -- where nothing else refuses it, it is accepted exactly if the index that results fits: room that was given up counts
  pub room : good_of w ≡ true → judge_of name ≡ 0 → is_live w id ≡ false → name_count w < most_names
      → (length (index_with w id name) ≤ length w → added_of w id name ≡ 0) × (length w < length (index_with w id name) → added_of w id name ≡ 8)
  -- the words that are room for every register are room for every add
  pub enough : most_words ≤ length w → added_of w id name ≡ 8 → ⊥

pub record Withdrawing (w : List ℕ) (id : ℕ) : Type 0 where
  pub judged : withdrawn_of w id ≡ first_case (withdraw_cases w id)
  pub refused : (withdrawn_of w id ≡ 0 → ⊥) → words_withdrawn w id ≡ w
  pub accepted : withdrawn_of w id ≡ 0 → Leaves w (words_withdrawn w id) (of_entries (without_id id (entries_in w)))

-- proved by `one_call`
abbrev pub OneCall : Type 0
OneCall = (w : List ℕ) → Words w → (id : ℕ) → id ≤ largest_id
    → ((name : List ℕ) → Bytes name → Adding w id name) × Withdrawing w id

-- ---- runs of calls

pub data Call : Type 0 where
  add : ℕ → List ℕ → Call
  withdraw : ℕ → Call

-- a call that can be made: its id has 16 bits and its name is bytes
unfoldable pub Callable : Call → Type 0
Callable (add id name) = (id ≤ largest_id) × Bytes name
Callable (withdraw id) = id ≤ largest_id

-- the number of a call, and the words after it
unfoldable pub number_of : List ℕ → Call → ℕ
number_of w (add id name) = added_of w id name
number_of w (withdraw id) = withdrawn_of w id

unfoldable pub words_then : List ℕ → Call → List ℕ
words_then w (add id name) = words_added w id name
words_then w (withdraw id) = words_withdrawn w id

-- the names that are live after a call, if they were these before: by ascending id
unfoldable pub with_id_name : IdName → List IdName → List IdName
with_id_name r [] = r ∷ []
with_id_name r (x ∷ rs) = let later = with_id_name r rs in cond (leb r.id x.id) (r ∷ x ∷ rs) (x ∷ later)

abbrev pub without_id_name : ℕ → List IdName → List IdName
without_id_name id rs = filter_of (λ (r : IdName). not (eqb r.id id)) rs

-- the names of a register's lines
abbrev pub id_names : List ℕ → List IdName
id_names register = map (λ (line : List ℕ). record { id = id_in line; name = name_of line }) (lines_of register)

-- the names that are live in words which came from an accepted build and accepted calls; a refused call changes neither
pub data Live : List ℕ → List IdName → Type 0 where
  built : (register words : List ℕ) → Accepted register words → Live (words_after register words) (id_names register)
  added : (w : List ℕ) (names : List IdName) → Live w names → (id : ℕ) (name : List ℕ) → id ≤ largest_id → Bytes name → added_of w id name ≡ 0
      → Live (words_added w id name) (with_id_name (record { id = id; name = name }) names)
  withdrawn : (w : List ℕ) (names : List IdName) → Live w names → (id : ℕ) → withdrawn_of w id ≡ 0 → Live (words_withdrawn w id) (without_id_name id names)

-- ---- what is live

-- the register of names: a line for each, in order
unfoldable pub register_of : List IdName → List ℕ
register_of [] = []
register_of (r ∷ rs) = line_of name_frame (r.id ∷ []) r.name ++ register_of rs

-- the names as a search knows them, each with its own features
abbrev pub of_id_names : List IdName → Names
of_id_names rs = of_entries (map (λ (r : IdName). entry_for r.id r.name) rs)

-- the size of a name
abbrev pub size_of : IdName → ℕ
size_of r = length (features_of r.name)

-- the work of a search, by the live names: a size costs at most the query's size times the names that have it, and all sizes that times all names
pub record WorkOver {A : Type 0} (names : List IdName) (a : Question A) : Type 0 where
  pub a_size : (y : ℕ) → 0 < y
      → touches_of_size a.words a.measure a.p a.q (features_of a.query) y
      ≤ length (features_of a.query) * count_of (λ (n : ℕ). eqb n y) (map size_of names)
  pub in_all : steps a ≤ length (features_of a.query) * length names

-- demands 2 and 3 over the live names: an answered search lists exactly those of them that are similar, each with its true row; and the work of any
-- search whose work is counted is the method's, and bounded by them
pub record DemandsOver (names : List IdName) (A : Type 0) (s : Lending A) (a : Question A) : Type 0 where
  pub two : Bytes a.query → Answered s a → Demand2 s a × Listing s (of_id_names names) a
  pub three : Bytes a.query → Counted a → Demand3 s a × WorkOver names a

pub record Alive (w : List ℕ) (names : List IdName) : Type 0 where
  -- the words are exactly those of a fresh build, in as many words, of the register of the live names
  pub fresh : Accepted (register_of names) w × (words_after (register_of names) w ≡ w)
  -- they are a good index, which holds the live names
  pub good : Good w
  pub holds : Holds w (of_id_names names)
  -- an id is live exactly if one of these names has it
  pub live : (id : ℕ) → is_live w id ≡ member id (map (λ (r : IdName). r.id) names)
  -- as many postings as the names have features
  pub postings : posting_count w ≡ sum_of (map (λ (r : IdName). length (features_of r.name)) names)
  -- an answered search lists exactly those of them that are similar
  pub listed : Every (λ A s a. Bytes a.query → Answered s (with_words w a) → Listing s (of_id_names names) (with_words w a))
  -- withdrawing what was added gives the very words of before
  pub back : (id : ℕ) (name : List ℕ) → id ≤ largest_id → Bytes name → added_of w id name ≡ 0 → words_withdrawn (words_added w id name) id ≡ w
  -- they are the one good index of the live names
  pub index : TheIndex w (of_id_names names)
  -- searches keep demands 2 and 3 over them
  pub searched : Every (λ A s a. DemandsOver names A s (with_words w a))

-- proved by `all_live`
abbrev pub AllLive : Type 0
AllLive = (w : List ℕ) (names : List IdName) → Live w names → Alive w names

-- ---- any run of calls

-- the words after calls, one after the other
unfoldable pub words_last : List ℕ → List Call → List ℕ
words_last w [] = w
words_last w (c ∷ cs) = words_last (words_then w c) cs

-- the size of the name that a call adds, and of the one that it withdraws; 0 where it is refused
unfoldable pub size_added : List ℕ → Call → ℕ
size_added w (add id name) = cond (eqb (added_of w id name) 0) (length (features_of name)) 0
size_added w (withdraw id) = 0

unfoldable pub size_withdrawn : List ℕ → Call → ℕ
size_withdrawn w (add id name) = 0
size_withdrawn w (withdraw id) = cond (eqb (withdrawn_of w id) 0) (length (features_in w id)) 0

-- of all calls
unfoldable pub sizes_added : List ℕ → List Call → ℕ
sizes_added w [] = 0
sizes_added w (c ∷ cs) = size_added w c + sizes_added (words_then w c) cs

unfoldable pub sizes_withdrawn : List ℕ → List Call → ℕ
sizes_withdrawn w [] = 0
sizes_withdrawn w (c ∷ cs) = size_withdrawn w c + sizes_withdrawn (words_then w c) cs

-- over any calls from the empty index that a build left, accepted or refused, the postings are the sizes added less the sizes withdrawn since: proved
-- by `postings_held`
abbrev pub PostingsHeld : Type 0
PostingsHeld = (words : List ℕ) (calls : List Call) → Accepted [] words → Each Callable calls
    → let w = words_after [] words in
    posting_count (words_last w calls) + sizes_withdrawn w calls ≡ sizes_added w calls

-- ---- any run of calls, by the names

-- the names that are live after a call, where these were live in the words before it: a refused call changes none
unfoldable pub live_then : List ℕ → List IdName → Call → List IdName
live_then w names (add id name) = cond (eqb (added_of w id name) 0) (with_id_name (record { id = id; name = name }) names) names
live_then w names (withdraw id) = cond (eqb (withdrawn_of w id) 0) (without_id_name id names) names

-- and after calls, one after the other
unfoldable pub live_last : List ℕ → List IdName → List Call → List IdName
live_last w names [] = names
live_last w names (c ∷ cs) = live_last (words_then w c) (live_then w names c) cs

-- the name that is live under an id; the empty one where none is
unfoldable pub name_under : ℕ → List IdName → List ℕ
name_under id [] = []
name_under id (r ∷ rs) = cond (eqb r.id id) r.name (name_under id rs)

-- the size of the name that a call withdraws, as it was accepted; 0 where it is refused
unfoldable pub size_taken : List ℕ → List IdName → Call → ℕ
size_taken w names (add id name) = 0
size_taken w names (withdraw id) = cond (eqb (withdrawn_of w id) 0) (length (features_of (name_under id names))) 0

-- of all calls
unfoldable pub sizes_taken : List ℕ → List IdName → List Call → ℕ
sizes_taken w names [] = 0
sizes_taken w names (c ∷ cs) = size_taken w names c + sizes_taken (words_then w c) (live_then w names c) cs

-- a run of calls on words in which these names are live
pub record Ran (w : List ℕ) (names : List IdName) (calls : List Call) : Type 0 where
  -- afterwards the words are those of just the names that are then live
  pub alive : Alive (words_last w calls) (live_last w names calls)
  -- the postings are those of before, and the sizes of the names accepted since less the sizes of the names withdrawn since
  pub held : posting_count (words_last w calls) + sizes_taken w names calls ≡ posting_count w + sizes_added w calls

-- so of any calls, accepted or refused, on words that came from a build and such calls: proved by `any_run`
abbrev pub AnyRun : Type 0
AnyRun = (w : List ℕ) (names : List IdName) → Live w names → (calls : List Call) → Each Callable calls → Ran w names calls

-- and from the empty index that a build left, where no name is live and no posting held: proved by `from_empty`
pub record FromEmpty (words : List ℕ) (calls : List Call) : Type 0 where
  pub alive : Alive (words_last (words_after [] words) calls) (live_last (words_after [] words) [] calls)
  pub held : posting_count (words_last (words_after [] words) calls) + sizes_taken (words_after [] words) [] calls ≡ sizes_added (words_after [] words) calls

abbrev pub AnyRunFromEmpty : Type 0
AnyRunFromEmpty = (words : List ℕ) (calls : List Call) → Accepted [] words → Each Callable calls → FromEmpty words calls
