-- The demands on an import, in full: what a reader has to believe, and nothing of how it is shown. What each assumes stands here too.
-- The function `import` answers `imported_of` and leaves `outcomes_after` and `pairs_after` (specs/Import.antt), for every input, by its contract.
-- `Wholes`, `Lines`, `EndToEnd`, `Pairs`, `Orders`, `Adds` and `Missing` are types with nothing left open, each proved as it stands by a theorem of proofs/.
-- Assumes nothing.
use Rattle.std.specs.Prelude.{◌≡◌, ◌↔◌, Bool, true, false, cond, not, ◌&&◌, List, [], ◌∷◌, ◌++◌, ℕ, ◌+◌, ◌≤◌, ◌<◌, length, get_or, replicate, eqb}
use Rattle.laws.specs.Lists.{member, Ascending, sum_of}
use Rattle.names.specs.Features.{features_of}
use Rattle.lines.specs.Lines.{lines_of, nth_line}
use Rattle.fields.specs.Layouts.{is_frame}
use Rattle.log_frames.specs.Frames.{log_frame}
use Rattle.words.specs.Words.{name_count, name_id, name_size}
use Rattle.register.specs.Build.{words_after}
use Rattle.search.specs.Answers.{Columns as Rows, as_columns as asRows}
use Rattle.statements.specs.Demands.{Question, columns, number, Answered, shared_by, Reaches, Accepted, of_register, of_built, shared_with_name}
use Rattle.weeks.specs.Pairs.{week_of, span, missing, pair_of, id_in as id_of, week_in as weekOfPair, pairs_of, sum_for, count_for, Columns, room_of, columns_of}
use Rattle.importer.specs.declared.Settings.{Settings}
use Rattle.importer.specs.declared.Outcome.{Outcome}
use Rattle.importer.specs.declared.Outcome.TheVariants.{Belongs, Unresolved, Ambiguous, Refused}
use Rattle.importer.specs.Import.{day_in, reading_in, typed_in, row_room, outcome_of, entries_of, judge_line, Outcomes, outcome_room, entries_in, imported_of, outcomes_after, pairs_after}

-- ---- the whole

-- the first line that is refused decides; then the room; and a refusal writes nothing
pub record Whole (log words : List ℕ) (s : Settings) (o : Outcomes) (c : Columns) : Type 0 where
  pub bad_line : (i : ℕ) → i < length (lines_of log) → ((j : ℕ) → j < i → judge_line j (nth_line log j) ≡ 0) → (judge_line i (nth_line log i) ≡ 0 → ⊥)
      → imported_of log words s (outcome_room o) (room_of c) ≡ record { number = judge_line i (nth_line log i); line = i + 1; lines = 0; pairs = 0 }
  pub no_room_for_lines : ((j : ℕ) → j < length (lines_of log) → judge_line j (nth_line log j) ≡ 0) → outcome_room o < length (lines_of log)
      → imported_of log words s (outcome_room o) (room_of c) ≡ record { number = 8; line = 0; lines = 0; pairs = 0 }
  pub no_room_for_pairs : ((j : ℕ) → j < length (lines_of log) → judge_line j (nth_line log j) ≡ 0) → room_of c < length (pairs_of (entries_in log words s))
      → imported_of log words s (outcome_room o) (room_of c) ≡ record { number = 8; line = 0; lines = 0; pairs = 0 }
  pub room : ((j : ℕ) → j < length (lines_of log) → judge_line j (nth_line log j) ≡ 0) → length (lines_of log) ≤ outcome_room o → length (pairs_of (entries_in log words s)) ≤ room_of c
      → imported_of log words s (outcome_room o) (room_of c) ≡ record { number = 0; line = 0; lines = length (lines_of log); pairs = length (pairs_of (entries_in log words s)) }
  pub kept : ((imported_of log words s (outcome_room o) (room_of c)).number ≡ 0 → ⊥) → (outcomes_after log words s o c ≡ o) × (pairs_after log words s o c ≡ c)

-- proved by `wholes`
abbrev pub Wholes : Type 0
Wholes = (log words : List ℕ) (s : Settings) (o : Outcomes) (c : Columns) → Whole log words s o c

-- ---- a line, over any names: how many there are, the id of each, and which are similar

-- one name is similar and has this id, and any that is similar has it
pub record OneAlone (n : ℕ) (id_at : ℕ → ℕ) (Similar : ℕ → Type 0) (id : ℕ) : Type 0 where
  pub place : ℕ
  pub within : place < n
  pub named : id_at place ≡ id
  pub similar : Similar place
  pub alone : (j : ℕ) → j < n → Similar j → id_at j ≡ id

-- no name is similar
abbrev pub NoneAt : ℕ → (ℕ → Type 0) → Type 0
NoneAt n Similar = (i : ℕ) → i < n → Similar i → ⊥

-- two names with different ids are similar
pub record Several (n : ℕ) (id_at : ℕ → ℕ) (Similar : ℕ → Type 0) : Type 0 where
  pub first : ℕ
  pub second : ℕ
  pub within : (first < n) × (second < n)
  pub apart : id_at first < id_at second
  pub similar : Similar first × Similar second

-- which outcome a line has
pub record Tells (answered : Type 0) (no n : ℕ) (id_at : ℕ → ℕ) (Similar : ℕ → Type 0) (o : Outcome) : Type 0 where
  -- it belongs to an id exactly if its search is answered and that is the one name that is similar
  pub belongs : (id : ℕ) → (o ≡ Belongs id) ↔ (answered × OneAlone n id_at Similar id)
  -- it is unresolved exactly if none is
  pub unresolved : (o ≡ Unresolved) ↔ (answered × NoneAt n Similar)
  -- ambiguous exactly if two are
  pub ambiguous : (o ≡ Ambiguous) ↔ (answered × Several n id_at Similar)
  -- refused exactly if its search is, with that number
  pub refused : (m : ℕ) → (o ≡ Refused m) ↔ ((no ≡ m) × (m ≡ 0 → ⊥))

-- the search of a line: its typed name, the settings, the whole allowance, and room for 256 rows
abbrev pub lent : Rows
lent = asRows (replicate row_room 0) (replicate row_room 0) (replicate row_room 0) (replicate row_room 0)

abbrev pub question_of : List ℕ → Settings → List ℕ → Question Rows
question_of words s line =
    record {
      query = typed_in line;
      measure = s.measure;
      p = s.p;
      q = s.q;
      allowance = s.allowance;
      words = words;
      lent = lent;
    }

-- over the names of any words: proved by `lines`
abbrev pub Lines : Type 0
Lines = (words : List ℕ) (s : Settings) (line : List ℕ) → is_frame log_frame line ≡ true
    → let a = question_of words s line in
    Tells (Answered columns a) (number columns a) (name_count words) (name_id words)
    (λ (i : ℕ). Reaches a (length (features_of (typed_in line))) (name_size words i) (shared_by a i)) (outcome_of words s line)

-- and over the names of an accepted register, by their own features: proved by `end_to_end`
abbrev pub EndToEnd : Type 0
EndToEnd = (register words : List ℕ) (s : Settings) (line : List ℕ) → is_frame log_frame line ≡ true → Accepted register words
    → let a = question_of words s line in
    let names = of_register register in
    Tells (Answered columns (of_built register words a)) (number columns (of_built register words a)) names.count names.id
    (λ (i : ℕ). Reaches a (length (features_of (typed_in line))) (length (names.features i)) (shared_with_name names a i))
    (outcome_of (words_after register words) s line)

-- ---- the order of lines, and lines that do not belong

-- the same lines in any order
pub data Reordered {A : Type 0} : List A → List A → Type 0 where
  none : Reordered [] []
  keep : {x : A} {k l : List A} → Reordered k l → Reordered (x ∷ k) (x ∷ l)
  swap : {x y : A} {l : List A} → Reordered (x ∷ y ∷ l) (y ∷ x ∷ l)
  then : {j k l : List A} → Reordered j k → Reordered k l → Reordered j l

-- give the same pairs, sums and counts: proved by `orders`
abbrev pub Orders : Type 0
Orders = (words : List ℕ) (s : Settings) (k l : List (List ℕ)) → Reordered k l → columns_of (entries_of words s k) ≡ columns_of (entries_of words s l)

-- a line that does not belong adds nothing: proved by `adds`
abbrev pub Adds : Type 0
Adds = (words : List ℕ) (s : Settings) (k l : List (List ℕ)) (line : List ℕ) → ((id : ℕ) → outcome_of words s line ≡ Belongs id → ⊥)
    → columns_of (entries_of words s (k ++ (line ∷ l))) ≡ columns_of (entries_of words s (k ++ l))

-- a missing reading is no 0. Where a line belongs whose reading is missing, the same line with a reading of 0 gives its pair one reading more, and the
-- same sum. Proved by `missing_is_not_0`
abbrev pub Missing : Type 0
Missing = (words : List ℕ) (s : Settings) (k l : List (List ℕ)) (line other : List ℕ) (id : ℕ) → outcome_of words s line ≡ Belongs id
    → typed_in other ≡ typed_in line → day_in other ≡ day_in line → reading_in line ≡ missing → reading_in other ≡ 0
    → let pair = pair_of id (week_of (day_in line)) in
    (count_for (entries_of words s (k ++ (other ∷ l))) pair ≡ count_for (entries_of words s (k ++ (line ∷ l))) pair + 1)
    × (sum_for (entries_of words s (k ++ (other ∷ l))) pair ≡ sum_for (entries_of words s (k ++ (line ∷ l))) pair)

-- ---- the pairs

-- whether a line with this outcome belongs to the id; no other case does
abbrev pub belongs_to : ℕ → Outcome → Bool
belongs_to id (Belongs other) = eqb other id
belongs_to id Unresolved = false
belongs_to id Ambiguous = false
belongs_to id (Refused number) = false

-- whether a line belongs to the id and is of the week
abbrev pub is_there : List ℕ → Settings → ℕ → ℕ → List ℕ → Bool
is_there words s id week line = belongs_to id (outcome_of words s line) && eqb (week_of (day_in line)) week

-- the readings present of the lines that belong there, in their order
unfoldable pub readings_of : List ℕ → Settings → ℕ → ℕ → List (List ℕ) → List ℕ
readings_of words s id week [] = []
readings_of words s id week (l ∷ ls) =
    let r = readings_of words s id week ls in
    cond (is_there words s id week l && not (eqb (reading_in l) missing)) (reading_in l ∷ r) r

pub record PairDemand (lines : List (List ℕ)) (words : List ℕ) (s : Settings) : Type 0 where
  -- a pair stands there exactly if at least one line belongs to its id in its week
  pub stands : (id week : ℕ) → week < span → (member (pair_of id week) (pairs_of (entries_of words s lines)) ≡ true)
      ↔ ((i : ℕ) × (i < length lines) × (is_there words s id week (get_or lines i []) ≡ true))
  -- by id, then by week, once each
  pub ascending : Ascending (pairs_of (entries_of words s lines))
  pub apart : (id week : ℕ) → week < span → (id_of (pair_of id week) ≡ id) × (weekOfPair (pair_of id week) ≡ week)
  -- its sum and count are those of the readings present
  pub sum : (id week : ℕ) → week < span → sum_for (entries_of words s lines) (pair_of id week) ≡ sum_of (readings_of words s id week lines)
  pub count : (id week : ℕ) → week < span → count_for (entries_of words s lines) (pair_of id week) ≡ length (readings_of words s id week lines)

-- over lines that are frames: proved by `pairs`
abbrev pub Pairs : Type 0
Pairs = (lines : List (List ℕ)) (words : List ℕ) (s : Settings) → ((i : ℕ) → i < length lines → is_frame log_frame (get_or lines i []) ≡ true)
    → PairDemand lines words s
