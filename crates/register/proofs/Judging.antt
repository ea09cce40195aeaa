-- A line judged: each number from the tests that lead to it, and what a good line is.
-- Assumes nothing.
use mathlib.Core.Path.{◌≡◌, refl, sym, ap, ◌∙◌}
use mathlib.Core.Bool.{Bool, true, false, cond, not}
use mathlib.Core.List.{List, [], ◌∷◌, ◌++◌}
use Prim.Native.Nat.{ℕ, ◌≤◌, ◌<◌}
use native.Mathlib.Omega.{arith}
use borrow.Author.Tests.{eq-eqb, lt-ltb, le-ltb, le-leb, lt-leb, ltb-false, leb-false}
use lib.ListN.{length, get_or, take, drop, length-append}
use lib.Seq.{take-append_seam}
use lib.Dec.{ltb, leb}
use Rattle.laws.specs.Cases.{Case, case, first_case}
use Rattle.laws.proofs.Cases.{not_false, first_here, first_next, first_passed, first_front, first_behind, first_split}
use Rattle.names.specs.Names.{name_cases, judge_of}
use Rattle.names.proofs.Laws.{names_numbered}
use Rattle.fields.specs.Layouts.{Reading, is_frame, read_of, buffer_of, accepted_as, refused_with}
use Rattle.fields.proofs.Laws.{read_roomy}
use Rattle.frames.specs.Frames.{name_frame}
use Rattle.index.specs.Good.{most_names}
use Rattle.register.specs.Build.{id_in, name_of, judge_line}
use Rattle.register.specs.Steps.{Heard}

-- ---- the number of a line

-- the cases of a line after those of its name
behind : ℕ → ℕ → List ℕ → List Case
behind count next line = case 9 (ltb (id_in line) next) ∷ case 10 (leb most_names count) ∷ []

pub judged_malformed : (count next : ℕ) (line : List ℕ) → is_frame name_frame line ≡ false → judge_line count next line ≡ 11
unfolding judge_line
judged_malformed count next line e = first_here 11 (not (is_frame name_frame line)) _ (ap not e)

module _ (count next : ℕ) (line : List ℕ) (frame : is_frame name_frame line ≡ true) where
  -- the name decides, and the cases after it
  framed : judge_line count next line ≡ first_case (name_cases (name_of line) ++ behind count next line)
  unfolding judge_line behind
  framed = first_next 11 (not (is_frame name_frame line)) (name_cases (name_of line) ++ behind count next line) (ap not frame)

  pub judged_name : (judge_of (name_of line) ≡ 0 → ⊥) → judge_line count next line ≡ judge_of (name_of line)
  unfolding judge_of
  judged_name n = framed ∙ first_front (name_cases (name_of line)) (behind count next line) n

  named : judge_of (name_of line) ≡ 0 → judge_line count next line ≡ first_case (behind count next line)
  unfolding judge_of
  named g = framed ∙ first_behind (name_cases (name_of line)) (behind count next line) (names_numbered (name_of line)) g

  pub judged_id : judge_of (name_of line) ≡ 0 → id_in line < next → judge_line count next line ≡ 9
  unfolding behind
  judged_id g h = named g ∙ first_here 9 (ltb (id_in line) next) (case 10 (leb most_names count) ∷ []) (lt-ltb (id_in line) next h)

  pub judged_count : judge_of (name_of line) ≡ 0 → next ≤ id_in line → most_names ≤ count → judge_line count next line ≡ 10
  unfolding behind
  judged_count g h m =
      named g
      ∙ first_next 9 (ltb (id_in line) next) (case 10 (leb most_names count) ∷ []) (le-ltb (id_in line) next h)
      ∙ first_here 10 (leb most_names count) [] (le-leb most_names count m)

  pub judged_good : judge_of (name_of line) ≡ 0 → next ≤ id_in line → count < most_names → judge_line count next line ≡ 0
  unfolding behind
  judged_good g h m =
      named g
      ∙ first_next 9 (ltb (id_in line) next) (case 10 (leb most_names count) ∷ []) (le-ltb (id_in line) next h)
      ∙ first_next 10 (leb most_names count) [] (lt-leb most_names count m)
      ∙ none
    where
      none : first_case [] ≡ 0
      none = unfold first_case in refl

-- what a line that is judged 0 is
pub good_line : (count next : ℕ) (line : List ℕ) → judge_line count next line ≡ 0
    → (is_frame name_frame line ≡ true) × (judge_of (name_of line) ≡ 0) × (next ≤ id_in line) × (count < most_names)
unfolding judge_line judge_of behind
good_line count next line z =
    let f = first_passed 11 (not (is_frame name_frame line)) (name_cases (name_of line) ++ behind count next line) (λ e. omega arith) z in
    let n = first_split (name_cases (name_of line)) (behind count next line) (names_numbered (name_of line)) f.1 in
    let i = first_passed 9 (ltb (id_in line) next) (case 10 (leb most_names count) ∷ []) (λ e. omega arith) n.1 in
    let c = first_passed 10 (leb most_names count) [] (λ e. omega arith) i.1 in
    (not_false (is_frame name_frame line) f.0, n.0, ltb-false (id_in line) next i.0, leb-false most_names count c.0)

-- ---- a line that was read into a buffer of 255 bytes

-- a good line that was read: its id, and its name at the start of the buffer
pub record LineRead (r : Reading) (line after : List ℕ) : Type 0 where
  pub frame : is_frame name_frame line ≡ true
  pub id : get_or r.fields 0 0 ≡ id_in line
  pub within : r.len ≤ length after
  pub name : take r.len after ≡ name_of line

module _ (r : Reading) (line buffer after : List ℕ) (size : length buffer ≡ 255) (e : r ≡ read_of name_frame line (length buffer)) (a : after ≡ buffer_of name_frame line buffer) where
  read_as : (t : Bool) → is_frame name_frame line ≡ t → r ≡ cond t (accepted_as name_frame line) (refused_with name_frame 11)
  read_as t f = e ∙ read_roomy name_frame line (length buffer) (omega arith) ∙ ap (λ (x : Bool). cond x (accepted_as name_frame line) (refused_with name_frame 11)) f

  read_frame : r.number ≡ 0 → is_frame name_frame line ≡ true
  read_frame z = by_test (is_frame name_frame line) refl
    where
      by_test : (t : Bool) → is_frame name_frame line ≡ t → t ≡ true
      by_test true f = refl
      by_test false f = let n : r.number ≡ 11 = ap (λ (x : Reading). x.number) (read_as false f) in absurd (omega arith)

  -- a line that was not read is bad
  pub read_bad : (count next : ℕ) → (r.number ≡ 0 → ⊥) → r.number ≡ judge_line count next line
  read_bad count next n = by_test (is_frame name_frame line) refl
    where
      by_test : (t : Bool) → is_frame name_frame line ≡ t → r.number ≡ judge_line count next line
      by_test true f = absurd (n (ap (λ (x : Reading). x.number) (read_as true f)))
      by_test false f = ap (λ (x : Reading). x.number) (read_as false f) ∙ sym (judged_malformed count next line f)

  read_id : r.number ≡ 0 → get_or r.fields 0 0 ≡ id_in line
  read_id z = ap (λ (x : Reading). get_or x.fields 0 0) (read_as true (read_frame z))

  read_len : r.number ≡ 0 → r.len ≡ length (name_of line)
  read_len z = ap (λ (x : Reading). x.len) (read_as true (read_frame z))

  left : r.number ≡ 0 → after ≡ name_of line ++ drop (length (name_of line)) buffer
  unfolding buffer_of
  left z =
      a ∙ (let n : (read_of name_frame line (length buffer)).number ≡ 0 = sym (ap (λ (x : Reading). x.number) e) ∙ z in rw (eq-eqb (read_of name_frame line (length buffer)).number 0 n))

  read_within : r.number ≡ 0 → r.len ≤ length after
  read_within z =
      let n = ap length (left z) in
      let m = length-append (name_of line) (drop (length (name_of line)) buffer) in
      let k = read_len z in
      omega arith

  read_name : r.number ≡ 0 → take r.len after ≡ name_of line
  read_name z =
      ap (λ (n : ℕ). take n after) (read_len z)
      ∙ ap (take (length (name_of line))) (left z)
      ∙ take-append_seam (name_of line) (drop (length (name_of line)) buffer)

  pub line_read : r.number ≡ 0 → LineRead r line after
  line_read z = record { frame = read_frame z; id = read_id z; within = read_within z; name = read_name z }

-- ---- what judging answers

pub heard_bad : (count next : ℕ) (line buffer : List ℕ) (r i k : ℕ) → r ≡ judge_line count next line → (r ≡ 0 → ⊥) → Heard count next line buffer r i k
heard_bad count next line buffer r i k e n =
    record { number = e; id = λ z. absurd (n z); name = λ z. absurd (n z); short = λ z. absurd (n z) }
