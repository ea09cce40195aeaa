-- The tables that the code keeps by a name's place among the names: counts, and the candidates met. Cited by the contracts of the code's parts.
-- Assumes nothing.
use Rattle.std.specs.Prelude.{◌≡◌, Bool, true, false, cond, ◌&&◌, List, ℕ, ◌+◌, ◌/◌, ◌%◌, ◌≤◌, ◌<◌, length, get_or, take, drop, leb, ltb, eqb}
use Rattle.laws.specs.Lists.{member, Distinct, Ascending, tabulate}
use Rattle.laws.specs.Below.{sum_below, count_below}
use Rattle.index.specs.Good.{most_names}
use Rattle.candidates.specs.Spending.{Spending}
use Rattle.candidates.specs.Method.{held_by, signatures, postings_of, remains, later_count}

-- ---- the names, by their ids in order

-- whether the list holds the name at place i; never past the last name
unfoldable pub holds_at : List ℕ → List ℕ → ℕ → Bool
holds_at ids l i = ltb i (length ids) && member (get_or ids i 0) l

-- each id of the list is one of the names'
abbrev pub Known : List ℕ → List ℕ → Type 0
Known ids l = (id : ℕ) → member id l ≡ true → (i : ℕ) × (i < length ids) × (get_or ids i 0 ≡ id)

-- ---- the candidates met

-- the first m of `met` are the places whose count is at least 1, each once
pub record MetBy (counts met : List ℕ) (m : ℕ) : Type 0 where
  pub within : m ≤ length met
  pub distinct : Distinct (take m met)
  pub those : (i : ℕ) → member i (take m met) ≡ leb 1 (get_or counts i 0)

-- ---- the counts

-- before a size: 0 at every place
abbrev pub no_counts : List ℕ
no_counts = tabulate (λ (i : ℕ). 0) most_names

-- one more at each name that the list holds
unfoldable pub tallied : List ℕ → List ℕ → List ℕ → List ℕ
tallied ids l counts = tabulate (λ (i : ℕ). get_or counts i 0 + cond (holds_at ids l i) 1 0) most_names

-- the count after a test: one more where the list holds the name; 0, dropped, where that is below what is needed, or was 0
unfoldable pub tested_at : List ℕ → List ℕ → ℕ → List ℕ → ℕ → ℕ
tested_at ids l needed counts i =
    cond (eqb (get_or counts i 0) 0) 0
    (cond (ltb (get_or counts i 0 + cond (holds_at ids l i) 1 0) needed) 0 (get_or counts i 0 + cond (holds_at ids l i) 1 0))

unfoldable pub tested : List ℕ → List ℕ → ℕ → List ℕ → List ℕ
tested ids l needed counts = tabulate (tested_at ids l needed counts) most_names

-- the answers with each count that is at least 1 put at its place
unfoldable pub kept : List ℕ → List ℕ → List ℕ
kept counts answers = tabulate (λ (i : ℕ). cond (leb 1 (get_or counts i 0)) (get_or counts i 0) (get_or answers i 0)) most_names

-- ---- the lists of a size

-- the k-th list in the keys' order, as the code cuts it out of the words: the key's length, from where its feature's list starts
unfoldable pub cut_at : List ℕ → List ℕ → List ℕ → ℕ → List ℕ
cut_at w keys starts k = take (get_or keys k 0 / 256) (drop (get_or starts (get_or keys k 0 % 256) 0) w)

-- all of them
unfoldable pub cut_lists : List ℕ → List ℕ → List ℕ → List (List ℕ)
cut_lists w keys starts = tabulate (cut_at w keys starts) (length keys)

-- each can be cut, ascends, and holds only ids of names
pub record Readable (w ids keys starts : List ℕ) : Type 0 where
  pub place : (k : ℕ) → k < length keys → get_or keys k 0 % 256 < length starts
  pub short : (k : ℕ) → k < length keys → get_or keys k 0 / 256 ≤ most_names
  pub within : (k : ℕ) → k < length keys → get_or starts (get_or keys k 0 % 256) 0 + get_or keys k 0 / 256 ≤ length w
  pub ascending : (k : ℕ) → k < length keys → Ascending (cut_at w keys starts k)
  pub known : (k : ℕ) → k < length keys → Known ids (cut_at w keys starts k)

-- ---- the counts of all names

-- how many of the lists hold each name; 0 past the last name
unfoldable pub held_table : List ℕ → List (List ℕ) → List ℕ
held_table ids ls = tabulate (λ (i : ℕ). cond (ltb i (length ids)) (held_by ls (get_or ids i 0)) 0) most_names

-- whether the name at place i remains after d later features; never past the last name
unfoldable pub remains_at : List ℕ → List (List ℕ) → ℕ → ℕ → ℕ → Bool
remains_at ids ls t d i = ltb i (length ids) && remains ls t d (get_or ids i 0)

-- the counts of those that remain after d later features; 0 of all others
unfoldable pub remain_table : List ℕ → List (List ℕ) → ℕ → ℕ → List ℕ
remain_table ids ls t d =
    tabulate (λ (i : ℕ). cond (remains_at ids ls t d i) (held_by (take (signatures (length ls) t + d) ls) (get_or ids i 0)) 0) most_names

-- the touches of d later features: one for each that remains before each
unfoldable pub later_touches : List ℕ → List (List ℕ) → ℕ → ℕ → ℕ
later_touches ids ls t d = sum_below d (λ (e : ℕ). count_below most_names (remains_at ids ls t e))

-- ---- what the phases come to

-- after the signature lists: their postings are the touches, and the tables hold the counts
pub record Gathered (ids : List ℕ) (ls : List (List ℕ)) (n budget : ℕ) (counts met : List ℕ) (past : Bool) (touches m : ℕ) : Type 0 where
  pub spent : Spending (postings_of ls n) budget past touches
  pub table : past ≡ false → counts ≡ held_table ids (take n ls)
  pub candidates : past ≡ false → MetBy counts met m

-- after the later lists: the tables hold the counts of those left
pub record Narrowed (ids : List ℕ) (ls : List (List ℕ)) (t budget : ℕ) (counts met : List ℕ) (past : Bool) (touches m : ℕ) : Type 0 where
  pub spent : Spending (later_touches ids ls t (later_count ls t)) budget past touches
  pub table : past ≡ false → counts ≡ remain_table ids ls t (later_count ls t)
  pub candidates : past ≡ false → MetBy counts met m

-- after both: the answers hold the counts of those left at their places, and the counts are 0 again; past the budget no touch is reported
-- and no answer is changed
pub record Walked (ids : List ℕ) (ls : List (List ℕ)) (t budget : ℕ) (before after counts : List ℕ) (past : Bool) (touches : ℕ) : Type 0 where
  pub spent : Spending (postings_of ls (signatures (length ls) t) + later_touches ids ls t (later_count ls t)) budget past touches
  pub answers : past ≡ false → after ≡ kept (remain_table ids ls t (later_count ls t)) before
  pub cleared : past ≡ false → counts ≡ no_counts
  pub none : past ≡ true → (touches ≡ 0) × (after ≡ before)
