-- What the steps of a build hand on: the parts of the contracts that are not a single equation.
-- Assumes nothing.
use Rattle.std.specs.Prelude.{Result, Ok, Err, ◌≡◌, List, map, ℕ, ◌*◌, ◌≤◌, length, take}
use Rattle.index.specs.Good.{most_postings}
use Rattle.index_writer.specs.Built.{Entry, Fit, word_of}
use Rattle.index_writer.specs.Keys.{all_keys}
use Rattle.refusals.specs.declared.Refusal.{Refusal}
use Rattle.refusals.specs.declared.LineRefusal.{LineRefusal}
use Rattle.refusals.specs.Refusals.{refusal_number}
use Rattle.frames.specs.declared.Name.{Name}
use Rattle.register.specs.declared.Taken.{Taken}
use Rattle.register.specs.Build.{judge_line, id_in, name_of, taken_of, entries_of}

-- ---- the room for keys

-- the keys of a register of n bytes fit k places, however many they are: at most those of any names, and one for two bytes
abbrev pub KeysFit : ℕ → ℕ → Type 0
KeysFit n k = (p : ℕ) → p ≤ most_postings → 2 * p ≤ n → p ≤ k

-- ---- one line

-- a line that was judged: its number, and where that is 0 its id and its name at the start of the buffer
pub record Heard (count next : ℕ) (line buffer : List ℕ) (r i k : ℕ) : Type 0 where
  pub number : r ≡ judge_line count next line
  pub id : r ≡ 0 → i ≡ id_in line
  pub name : r ≡ 0 → take k buffer ≡ name_of line
  pub short : r ≡ 0 → k ≤ length buffer

-- the same of what judging a line answers
abbrev pub HeardIn : ℕ → ℕ → List ℕ → List ℕ → Result Name Refusal → Type 0
HeardIn count next line buffer (Ok x) = Heard count next line buffer 0 x.id x.len
HeardIn count next line buffer (Err r) = Heard count next line buffer (refusal_number r) 0 0

-- ---- all lines

-- the tables hold the names: their words and their keys
pub record Tables (es : List Entry) (names keys : List ℕ) (n p : ℕ) : Type 0 where
  pub fit : Fit es
  pub count : n ≡ length es
  pub words : take n names ≡ map word_of es
  pub sum : p ≡ length (all_keys es)
  pub postings : take p keys ≡ all_keys es

-- all lines read: what they come to, and the tables where all are good
pub record Read (register names keys : List ℕ) (r l n p : ℕ) : Type 0 where
  pub number : r ≡ (taken_of register).number
  pub line : l ≡ (taken_of register).line
  pub tables : r ≡ 0 → Tables (entries_of register) names keys n p

-- the same of what reading the lines answers
abbrev pub ReadIn : List ℕ → List ℕ → List ℕ → Result Taken LineRefusal → Type 0
ReadIn register names keys (Ok t) = Read register names keys 0 0 t.names t.postings
ReadIn register names keys (Err r) = Read register names keys (refusal_number r.refusal) r.line 0 0
