-- What the parts of an import hand to one another.
-- Assumes nothing.
use Rattle.std.specs.Prelude.{◌≡◌, List, ◌++◌, ℕ, ◌+◌, length, take}
use Rattle.lines.specs.Lines.{lines_of}
use Rattle.weeks.specs.Pairs.{Columns, room_of}
use Rattle.importer.specs.declared.Settings.{Settings}
use Rattle.importer.specs.declared.Outcome.{Outcome}
use Rattle.importer.specs.Import.{entry_from, verdict_on, Outcomes, outcomes_over, outcome_room, Imported, outcomes_in, entries_in, imported_of, outcomes_after, pairs_after}

-- the lines, judged, where none is refused: how many there are
pub record AllGood (log : List ℕ) (n : ℕ) : Type 0 where
  pub number : (verdict_on log).number ≡ 0
  pub lines : n ≡ length (lines_of log)

-- the first that is refused
pub record FirstBad (log : List ℕ) (no at : ℕ) : Type 0 where
  pub number : no ≡ (verdict_on log).number
  pub line : at ≡ (verdict_on log).line
  pub refused : no ≡ 0 → ⊥

-- the entry of a line, put after k others; what stands beyond it is scratch
pub record Entered (outcome : Outcome) (day reading k : ℕ) (before after : List ℕ) (r : ℕ) : Type 0 where
  pub entries : take r after ≡ take k before ++ entry_from outcome day reading
  pub count : r ≡ k + length (entry_from outcome day reading)
  pub room : length after ≡ length before

-- the lines, taken: their outcomes and entries at the start of the tables; what stands beyond the entries is scratch
pub record Taken (log words : List ℕ) (s : Settings) (before after : Outcomes) (e : List ℕ) (k : ℕ) : Type 0 where
  pub outcomes : after ≡ outcomes_over (outcomes_in log words s) before
  pub entries : take k e ≡ entries_in log words s
  pub count : k ≡ length (entries_in log words s)

-- the whole: what it answers, and what it leaves in what is lent
pub record Imports (log words : List ℕ) (s : Settings) (o : Outcomes) (c : Columns) (o' : Outcomes) (c' : Columns) (r : Imported) : Type 0 where
  pub answer : r ≡ imported_of log words s (outcome_room o) (room_of c)
  pub outcomes : o' ≡ outcomes_after log words s o c
  pub pairs : c' ≡ pairs_after log words s o c
