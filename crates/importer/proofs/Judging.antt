-- Judging a line and all lines: the tests in the order of the definition, and what no refusal says of each line.
-- Assumes nothing.
use mathlib.Core.Path.{◌≡◌, refl, sym, ap, ◌∙◌}
use mathlib.Core.Bool.{Bool, true, false, cond, not}
use mathlib.Core.List.{List, [], ◌∷◌, ◌++◌}
use Prim.Native.Nat.{ℕ, zero, suc, ◌+◌, ◌≤◌, ◌<◌}
use native.Mathlib.Numerals.{add-one}
use native.Mathlib.Omega.{arith}
use lib.ListN.{length, get_or, take, drop, drop_of_length-le}
use lib.Seq.{drop-cons, take_at}
use lib.Dec.{eqb, leb}
use borrow.Author.Tests.{le-leb, lt-leb, leb-false, eq-eqb, ne_eqb, eqb-true, eqb-false}
use Rattle.std.specs.Prelude.{Result, Ok, Err, IsOk}
use Rattle.refusals.specs.declared.Refusal.{Refusal}
use Rattle.refusals.specs.Refusals.{refusal_number, outcome_number}
use Rattle.refusals.proofs.Refusals.{refused}
use Rattle.laws.specs.Cases.{first_case}
use Rattle.lines.specs.Lines.{lines_of}
use Rattle.fields.specs.Layouts.{Reading}
use Rattle.fields.specs.Layouts.{is_frame, accepted_as, refused_with, read_of, buffer_of}
use Rattle.log_frames.specs.declared.Log.{Log}
use Rattle.log_frames.specs.Frames.{log_frame, log_out}
use Rattle.statements.proofs.LogFrames.{log_frames}
use Rattle.importer.specs.Import.{day_in, reading_in, typed_in, most_lines, judge_line, Verdict, judged_from, verdict_on}
use Rattle.importer.specs.Steps.{AllGood, FirstBad}
use Rattle.importer.proofs.Reached.{Turn}

-- ---- one line

pub judge_many : (count : ℕ) (line : List ℕ) → most_lines ≤ count → 10 ≡ judge_line count line
unfolding judge_line first_case
judge_many count line h = rw (le-leb most_lines count h)

-- by a reading with room for every name
read_so : (line : List ℕ) (room : ℕ) → 255 ≤ room → (r : Result Log Refusal) → log_out r ≡ read_of log_frame line room
    → log_out r ≡ cond (is_frame log_frame line) (accepted_as log_frame line) (refused_with log_frame 11)
read_so line room h r e = e ∙ log_frames.log_room line room h

number_out : (r : Result Log Refusal) → (log_out r).number ≡ outcome_number r
number_out (Ok x) = refl
number_out (Err r) = refl

pub judge_read : (line : List ℕ) (room : ℕ) → 255 ≤ room → (r : Result Log Refusal) → log_out r ≡ read_of log_frame line room
    → (count : ℕ) → count < most_lines → outcome_number r ≡ judge_line count line
unfolding judge_line first_case
judge_read line room h r e count l =
    sym (number_out r) ∙ ap (λ (x : Reading). x.number) (read_so line room h r e) ∙ (rw (lt-leb most_lines count l) (by_test (is_frame log_frame line)))
  where
    by_test : (b : Bool) → (cond {A = Reading} b (accepted_as log_frame line) (refused_with log_frame 11)).number ≡ cond (not b) 11 0
    by_test true = refl
    by_test false = refl

-- a frame is read
pub read_frame : (line : List ℕ) (room : ℕ) → 255 ≤ room → (r : Result Log Refusal) → log_out r ≡ read_of log_frame line room
    → is_frame log_frame line ≡ true → log_out r ≡ accepted_as log_frame line
read_frame line room h r e f = read_so line room h r e ∙ (rw f)

pub read_ok : (line : List ℕ) (room : ℕ) → 255 ≤ room → (r : Result Log Refusal) → log_out r ≡ read_of log_frame line room
    → is_frame log_frame line ≡ true → IsOk r
read_ok line room h (Ok x) e f = refl
read_ok line room h (Err r) e f = absurd (refused r (ap (λ (x : Reading). x.number) (read_frame line room h (Err r) e f)))

-- its fields, and its name at the start of the buffer
module _ (line : List ℕ) (x : Log) (e : log_out (Ok x) ≡ accepted_as log_frame line) where
  pub read_day : x.day ≡ day_in line
  read_day = ap (λ (y : Reading). get_or y.fields 0 0) e

  pub read_reading : x.reading ≡ reading_in line
  read_reading = ap (λ (y : Reading). get_or y.fields 1 0) e

  read_length : x.len ≡ length (typed_in line)
  read_length = ap (λ (y : Reading). y.len) e

  pub read_within : is_frame log_frame line ≡ true → x.len ≤ 255
  read_within f = let a = read_length in let b = (log_frames.log_bytes line f).1 in omega arith

  pub read_typed : (before after : List ℕ) → after ≡ buffer_of log_frame line before → length before ≡ 255 → is_frame log_frame line ≡ true
      → take x.len after ≡ typed_in line
  read_typed before after b l f =
      let h : 255 ≤ length before = omega arith in
      let k : after ≡ typed_in line ++ drop (length (typed_in line)) before = b ∙ log_frames.log_typed line before f h in
      rw k (take_at (typed_in line) (drop (length (typed_in line)) before) x.len (sym read_length))

-- ---- all lines

pub judged_bad : (count : ℕ) (l : List ℕ) (ls : List (List ℕ)) → (judge_line count l ≡ 0 → ⊥)
    → judged_from count (l ∷ ls) ≡ record { number = judge_line count l; line = count + 1 }
unfolding judged_from
judged_bad count l ls n = rw (ne_eqb (judge_line count l) 0 n)

pub judged_good : (count : ℕ) (l : List ℕ) (ls : List (List ℕ)) → judge_line count l ≡ 0 → judged_from count (l ∷ ls) ≡ judged_from (count + 1) ls
unfolding judged_from
judged_good count l ls z = rw (eq-eqb (judge_line count l) 0 z)

pub judged_none : (count : ℕ) → judged_from count [] ≡ record { number = 0; line = 0 }
unfolding judged_from
judged_none count = refl

-- a line that is not refused is a frame, and not one too many
pub line_good : (count : ℕ) (l : List ℕ) → judge_line count l ≡ 0 → (count < most_lines) × (is_frame log_frame l ≡ true)
unfolding judge_line first_case
line_good count l z = by_tests (leb most_lines count) refl (is_frame log_frame l) refl z
  where
    by_tests : (a : Bool) → leb most_lines count ≡ a → (b : Bool) → is_frame log_frame l ≡ b → ◌≡◌ {A = ℕ} (cond a 10 (cond (not b) 11 0)) 0
        → (count < most_lines) × (is_frame log_frame l ≡ true)
    by_tests true e b f q = absurd (omega arith)
    by_tests false e true f q = (leb-false most_lines count e, f)
    by_tests false e false f q = absurd (omega arith)

-- where none is refused, that is so of each
pub all_good : (count : ℕ) (ls : List (List ℕ)) → (judged_from count ls).number ≡ 0 → (i : ℕ) → i < length ls
    → (count + i < most_lines) × (is_frame log_frame (get_or ls i []) ≡ true)
unfolding judged_from
all_good count [] z i h = absurd (omega arith)
all_good count (l ∷ ls) z i h = by_test (eqb (judge_line count l) 0) refl (all_good (count + 1) ls) i z h
  where
    by_test : (b : Bool) → eqb (judge_line count l) 0 ≡ b → ((judged_from (count + 1) ls).number ≡ 0 → (i : ℕ) → i < length ls → (count + 1 + i < most_lines) × (is_frame log_frame (get_or ls i []) ≡ true))
        → (i : ℕ) → (cond {A = Verdict} b (judged_from (count + 1) ls) (record { number = judge_line count l; line = count + 1 })).number ≡ 0 → i < suc (length ls)
        → (count + i < most_lines) × (is_frame log_frame (get_or (l ∷ ls) i []) ≡ true)
    by_test true e r zero q k = let g = line_good count l (eqb-true _ _ e) in (let a = g.0 in omega arith, g.1)
    by_test true e r (suc i) q k = let g = r q i (omega arith) in (let a = g.0 in omega arith, g.1)
    by_test false e r i q k = absurd (eqb-false _ _ e q)

-- and there are no more than may be
pub lines_few : (ls : List (List ℕ)) → (judged_from 0 ls).number ≡ 0 → length ls ≤ most_lines
lines_few [] z = omega arith
lines_few (l ∷ ls) z = let g = (all_good 0 (l ∷ ls) z (length ls) (omega arith)).0 in omega arith

-- ---- the loop

-- what the lines from the place on come to is what all come to
abbrev pub Same : List ℕ → ℕ → Type 0
Same log n = judged_from n (drop n (lines_of log)) ≡ verdict_on log

module _ {log line more : List ℕ} {n : ℕ} (t : Turn log line more n) (s : Same log n) where
  split : drop n (lines_of log) ≡ line ∷ drop (suc n) (lines_of log)
  split = drop-cons (lines_of log) n [] t.some ∙ ap (λ (l : List ℕ). l ∷ drop (suc n) (lines_of log)) (sym t.nth)

  pub turn_few : judge_line n line ≡ 0 → n < most_lines
  turn_few z = (line_good n line z).0

  pub turn_good : judge_line n line ≡ 0 → Same log (n + 1)
  turn_good z = rw add-one (sym (judged_good_suc z) ∙ sym (ap (judged_from n) split) ∙ s)
    where
      judged_good_suc : judge_line n line ≡ 0 → judged_from n (line ∷ drop (suc n) (lines_of log)) ≡ judged_from (suc n) (drop (suc n) (lines_of log))
      judged_good_suc q = judged_good n line (drop (suc n) (lines_of log)) q ∙ ap (λ (k : ℕ). judged_from k (drop (suc n) (lines_of log))) (add-one n)

  pub turn_bad : (r : Refusal) → refusal_number r ≡ judge_line n line → FirstBad log (refusal_number r) (n + 1)
  turn_bad r j =
      let v : record { number = judge_line n line; line = n + 1 } ≡ verdict_on log = sym (judged_bad n line (drop (suc n) (lines_of log)) (λ q. refused r (j ∙ q))) ∙ sym (ap (judged_from n) split) ∙ s in
      record {
        number = j ∙ ap (λ (x : Verdict). x.number) v;
        line = ap (λ (x : Verdict). x.line) v;
        refused = refused r;
      }

pub same_nil : (log : List ℕ) → Same log 0
same_nil log = refl

pub same_all : (log : List ℕ) (n : ℕ) → n ≡ length (lines_of log) → Same log n → AllGood log n
same_all log n e s =
    let l : length (lines_of log) ≤ n = omega arith in
    let d : drop n (lines_of log) ≡ [] = drop_of_length-le (lines_of log) l in
    let v : record { number = 0; line = 0 } ≡ verdict_on log = sym (judged_none n) ∙ sym (ap (judged_from n) d) ∙ s in
    record { number = sym (ap (λ (x : Verdict). x.number) v); lines = e }
