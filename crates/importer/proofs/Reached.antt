-- The lines of a log one after the other: what has been reached, and one line more.
-- Assumes nothing.
use mathlib.Core.Path.{◌≡◌, refl, sym, ap, ◌∙◌}
use mathlib.Core.List.{List, [], ◌∷◌, ◌++◌}
use Prim.Native.Nat.{ℕ, suc, ◌+◌, ◌≤◌, ◌<◌, min}
use native.Mathlib.Numerals.{add-one}
use native.Mathlib.Omega.{arith}
use lib.ListN.{length, get_or, drop, length-drop}
use lib.Seq.{drop-cons}
use Rattle.std.specs.List.{IsFirstMatchOrLen}
use Rattle.laws.proofs.Lists.{length_nil}
use Rattle.lines.specs.Lines.{lines_of}
use Rattle.lines.proofs.Lines.{lines_nil, is_feed, line_cut, lines_cut_at}

-- n lines stand before the rest
pub record Reached (log rest : List ℕ) (n : ℕ) : Type 0 where
  pub lines : lines_of rest ≡ drop n (lines_of log)
  pub few : n ≤ length (lines_of log)

pub reached_nil : (log : List ℕ) → Reached log log 0
reached_nil log = record { lines = refl; few = omega arith }

-- one turn: the first line of the rest, and what is more
pub record Turn (log line more : List ℕ) (n : ℕ) : Type 0 where
  pub some : n < length (lines_of log)
  pub nth : line ≡ get_or (lines_of log) n []
  pub next : Reached log more (n + 1)

turned : (log line more : List ℕ) (n : ℕ) → drop n (lines_of log) ≡ line ∷ lines_of more → Turn log line more n
turned log line more n e =
    let l = ap length e in
    let d = length-drop n (lines_of log) in
    let m : n < length (lines_of log) = omega arith in
    let s : line ∷ lines_of more ≡ get_or (lines_of log) n [] ∷ drop (suc n) (lines_of log) = sym e ∙ drop-cons (lines_of log) n [] m in
    record {
      some = m;
      nth = ap (λ (x : List (List ℕ)). get_or x 0 []) s;
      next = record { lines = rw add-one (ap (λ (x : List (List ℕ)). drop 1 x) s); few = omega arith };
    }

-- it is the first line where the library cut it
pub turn : {log rest line more : List ℕ} {n i : ℕ} → Reached log rest n → rest ≡ line ++ more → length line ≡ min (i + 1) (length rest)
    → IsFirstMatchOrLen is_feed rest i → 0 < length rest → Turn log line more n
turn {log} {rest} {line} {more} {n} {i} r e l f h =
    turned log line more n (sym r.lines ∙ lines_cut_at rest line more e (l ∙ line_cut rest i f) h)

-- at the end there are no more
pub reached_all : {log rest : List ℕ} {n : ℕ} → Reached log rest n → length rest ≡ 0 → n ≡ length (lines_of log)
reached_all {log} {rest} {n} r h =
    let e : drop n (lines_of log) ≡ [] = sym r.lines ∙ ap lines_of (length_nil rest h) ∙ lines_nil in
    let l = ap length e in
    let d = length-drop n (lines_of log) in
    let f = r.few in
    omega arith
