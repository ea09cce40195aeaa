-- The whole of an import: specs/Demands.antt says what. The first line that is refused decides, then the room.
-- Assumes nothing.
use mathlib.Core.Path.{◌≡◌, refl, sym, ap, ◌∙◌}
use mathlib.Core.Bool.{Bool, true, false, ◌&&◌}
use mathlib.Core.List.{List, [], ◌∷◌}
use Prim.Native.Nat.{ℕ, zero, suc, ◌+◌, ◌<◌}
use native.Mathlib.Omega.{arith}
use lib.ListN.{length, get_or}
use lib.Dec.{eqb, leb}
use borrow.Author.Tests.{le-leb, lt-leb, ne_eqb}
use Rattle.lines.specs.Lines.{lines_of, nth_line}
use Rattle.weeks.specs.Pairs.{pairs_of, Columns, room_of}
use Rattle.importer.specs.declared.Settings.{Settings}
use Rattle.importer.specs.Import.{judge_line, Verdict, judged_from, verdict_on, Outcomes, outcome_room, entries_in, imported_of, outcomes_after, pairs_after}
use Rattle.importer.specs.Demands.{Whole, Wholes}
use Rattle.importer.proofs.Judging.{judged_bad, judged_good, judged_none}
use Rattle.importer.proofs.Whole.{import_bad, import_full, import_good}

-- the first that is refused decides
first_bad : (count : ℕ) (ls : List (List ℕ)) (i : ℕ) → i < length ls → ((j : ℕ) → j < i → judge_line (count + j) (get_or ls j []) ≡ 0)
    → (judge_line (count + i) (get_or ls i []) ≡ 0 → ⊥) → judged_from count ls ≡ record { number = judge_line (count + i) (get_or ls i []); line = count + i + 1 }
first_bad count [] i h g b = absurd (omega arith)
first_bad count (l ∷ ls) zero h g b = let e : count + 0 ≡ count = omega arith in rw e (judged_bad count l ls (rw e at b))
first_bad count (l ∷ ls) (suc i) h g b =
    let e : count + 0 ≡ count = omega arith in
    let f : count + suc i ≡ count + 1 + i = omega arith in
    let z : judge_line count l ≡ 0 = rw e at (g 0 (omega arith)) in
    rw f (judged_good count l ls z
    ∙ first_bad (count + 1) ls i (omega arith) (λ j k. let q : count + suc j ≡ count + 1 + j = omega arith in rw q at (g (suc j) (omega arith))) (rw f at b))

-- without one it is none
all_well : (count : ℕ) (ls : List (List ℕ)) → ((j : ℕ) → j < length ls → judge_line (count + j) (get_or ls j []) ≡ 0) → (judged_from count ls).number ≡ 0
all_well count [] g = ap (λ (v : Verdict). v.number) (judged_none count)
all_well count (l ∷ ls) g =
    let e : count + 0 ≡ count = omega arith in
    let z : judge_line count l ≡ 0 = rw e at (g 0 (omega arith)) in
    ap (λ (v : Verdict). v.number) (judged_good count l ls z)
    ∙ all_well (count + 1) ls (λ j k. let q : count + suc j ≡ count + 1 + j = omega arith in rw q at (g (suc j) (omega arith)))

zero_add : (n : ℕ) → 0 + n ≡ n
zero_add n = omega arith

module _ (log words : List ℕ) (s : Settings) (o : Outcomes) (c : Columns) where
  well : ((j : ℕ) → j < length (lines_of log) → judge_line j (nth_line log j) ≡ 0) → (verdict_on log).number ≡ 0
  well g = all_well 0 (lines_of log) (λ j k. rw (zero_add j) (g j k))

  decided : (i : ℕ) → i < length (lines_of log) → ((j : ℕ) → j < i → judge_line j (nth_line log j) ≡ 0) → (judge_line i (nth_line log i) ≡ 0 → ⊥)
      → verdict_on log ≡ record { number = judge_line i (nth_line log i); line = i + 1 }
  decided i h g b =
      let v = first_bad 0 (lines_of log) i h (λ j k. rw (zero_add j) (g j k)) (rw (zero_add i) b) in
      rw (zero_add i) at v

  kept_by : (b : Bool) → eqb (imported_of log words s (outcome_room o) (room_of c)).number 0 ≡ b → ((imported_of log words s (outcome_room o) (room_of c)).number ≡ 0 → ⊥)
      → (outcomes_after log words s o c ≡ o) × (pairs_after log words s o c ≡ c)
  unfolding outcomes_after pairs_after
  kept_by b e n = let f = ne_eqb (imported_of log words s (outcome_room o) (room_of c)).number 0 n in (rw f, rw f)

  and_false : (b : Bool) → b && false ≡ false
  and_false true = refl
  and_false false = refl

  pub whole : Whole log words s o c
  whole =
      record {
        bad_line = λ i h g b.
            let v = decided i h g b in
            let n : (verdict_on log).number ≡ 0 → ⊥ = λ q. b (sym (ap (λ (x : Verdict). x.number) v) ∙ q) in
            sym (import_bad log words s o c n).answer
            ∙ ap (λ (x : Verdict). record { number = x.number; line = x.line; lines = 0; pairs = 0 }) v;
        no_room_for_lines = λ g h.
            let f : leb (length (lines_of log)) (outcome_room o) ≡ false = lt-leb (length (lines_of log)) (outcome_room o) h in
            sym (import_full log words s o c (well g) (rw f)).answer;
        no_room_for_pairs = λ g h.
            let f : leb (length (pairs_of (entries_in log words s))) (room_of c) ≡ false = lt-leb (length (pairs_of (entries_in log words s))) (room_of c) h in
            sym (import_full log words s o c (well g) (rw f (and_false (leb (length (lines_of log)) (outcome_room o))))).answer;
        room = λ g h k. sym (import_good log words s o c (well g) h (le-leb (length (pairs_of (entries_in log words s))) (room_of c) k)).answer;
        kept = λ n. kept_by (eqb (imported_of log words s (outcome_room o) (room_of c)).number 0) refl n;
      }

pub wholes : Wholes
wholes = whole
