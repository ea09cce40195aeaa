-- Lines, one after the other: the first is as long as `line_length` says, and the others are those of what follows it.
-- Assumes nothing.
use mathlib.Core.Path.{◌≡◌, refl, sym, ap, ap₂, ◌∙◌}
use mathlib.Core.Bool.{Bool, true, false, cond, not}
use mathlib.Core.List.{List, [], ◌∷◌, ◌++◌}
use Prim.Native.Nat.{ℕ, zero, suc, ◌+◌, ◌-◌, ◌≤◌, ◌<◌, min}
use native.Mathlib.Omega.{arith}
use borrow.Author.Tests.{lt-ltb}
use lib.ListN.{length, take, drop, length-drop, drop_of_length-le}
use lib.Seq.{drop-drop, take_at, drop_at}
use lib.Dec.{eqb, ltb}
use mathlib.Core.Logic.{◌⊎◌, ⊎_elim}
use Rattle.std.proofs.Common.{Option, Some, None, Bor, unwrap_or, MatchOption}
use Rattle.std.specs.Option.{option_map_or}
use Rattle.std.specs.List.{slice_range, position, position_or_len, IsFirstMatchOrLen}
use Rattle.std.proofs.lemmas.List.{take_rest}
use Rattle.std.proofs.lemmas.Bool.Decides.{nat_tests}
use Rattle.lines.specs.Lines.{line_feed, join_line, lines_of, line_length, joined}

-- ---- the length of the first line

-- what is left from a place on, none beyond the end
pub rest_is : (s : List ℕ) (from : ℕ) (o : Option (Bor (List ℕ))) (d : Bor (List ℕ)) → d.now ≡ []
    → MatchOption o ((length s < from) ⊎ (length s < length s))
    (λ x. (from ≤ length s) × (length s ≤ length s) × (x.now ≡ slice_range s from (length s)) × (length x.now + from ≡ length s))
    → (unwrap_or o d).now ≡ drop from s
rest_is s from None d e h =
    let b : length s ≤ from = ⊎_elim (λ (a : length s < from). omega arith) (λ (a : length s < length s). absurd (omega arith)) h in
    e ∙ sym (drop_of_length-le s {i = from} b)
rest_is s from (Some x) d e h = h.2 ∙ take_rest s from

-- the first line feed ends the line, and the end where there is none
line_at : (s : List ℕ) → let p = position_or_len (λ b. eqb b line_feed) s in line_length s ≡ cond (ltb p (length s)) (p + 1) (length s)
unfolding line_length
line_at [] = refl
line_at (b ∷ s) = by_test (eqb b line_feed) (line_at s)
  where
    further : (p n l : ℕ) → l ≡ cond (ltb p n) (p + 1) n → 1 + l ≡ cond (ltb (1 + p) (suc n)) (1 + p + 1) (suc n)
    further p n l e = grind (arith, nat_tests)

    by_test : (t : Bool) → let q = position_or_len (λ x. eqb x line_feed) s in let p = cond (not t) (1 + q) 0 in
        line_length s ≡ cond (ltb q (length s)) (q + 1) (length s)
        → 1 + cond t 0 (line_length s) ≡ cond (ltb p (suc (length s))) (p + 1) (suc (length s))
    by_test true h = let e : ltb 0 (suc (length s)) ≡ true = lt-ltb _ _ (omega arith) in rw e
    by_test false h = further (position_or_len (λ x. eqb x line_feed) s) (length s) (line_length s) h

pub line_by : (s : List ℕ) (r : Option ℕ) → r ≡ position (λ b. eqb b line_feed) s
    → option_map_or (λ (i : ℕ). i + 1) r (length s) ≡ line_length s
line_by s r e =
    let p = position_or_len (λ b. eqb b line_feed) s in
    ap (λ (o : Option ℕ). option_map_or (λ (i : ℕ). i + 1) o (length s)) e ∙ by_test p (ltb p (length s)) ∙ sym (line_at s)
  where
    by_test : (p : ℕ) (t : Bool) → option_map_or (λ (i : ℕ). i + 1) (cond t (Some p) None) (length s) ≡ cond t (p + 1) (length s)
    by_test p true = refl
    by_test p false = refl

pub length_line_end : (s : List ℕ) (i : ℕ) → length s ≤ i → line_length (drop i s) ≡ 0
unfolding line_length
length_line_end s i h = rw (drop_of_length-le s {i = i} h)

-- a line has a byte
pub line_some : (s : List ℕ) → 0 < length s → 1 ≤ line_length s
unfolding line_length
line_some [] h = absurd (omega arith)
line_some (b ∷ s) h = omega arith

-- and ends within the bytes
length_most : (s : List ℕ) → line_length s ≤ length s
unfolding line_length
length_most [] = omega arith
length_most (b ∷ s) = by_feed (eqb b line_feed) (length_most s)
  where
    by_feed : (t : Bool) → line_length s ≤ length s → 1 + cond t 0 (line_length s) ≤ suc (length s)
    by_feed true h = omega arith
    by_feed false h = omega arith

pub line_within : (s : List ℕ) (i : ℕ) → i ≤ length s → i + line_length (drop i s) ≤ length s
line_within s i h = let a = length_most (drop i s) in let b = length-drop i s in omega arith

pub line_ends : (s : List ℕ) (at end : ℕ) → end ≡ at + line_length (drop at s) → at ≤ length s
    → (end ≡ at + line_length (drop at s)) × (end ≤ length s)
line_ends s at end e h = (e, (let w = line_within s at h in omega arith))

-- ---- the first line and the others

pub lines_nil : lines_of [] ≡ []
unfolding lines_of
lines_nil = refl

line_front : (b : ℕ) (s : List ℕ) → (0 < length s → lines_of s ≡ take (line_length s) s ∷ lines_of (drop (line_length s) s))
    → lines_of (b ∷ s) ≡ take (line_length (b ∷ s)) (b ∷ s) ∷ lines_of (drop (line_length (b ∷ s)) (b ∷ s))
unfolding join_line lines_of line_length
line_front b s ih = by_feed (eqb b line_feed) (longer s ih)
  where
    longer : (s : List ℕ) → (0 < length s → lines_of s ≡ take (line_length s) s ∷ lines_of (drop (line_length s) s))
        → join_line b (lines_of s) ≡ (b ∷ take (line_length s) s) ∷ lines_of (drop (line_length s) s)
    longer [] ih = refl
    longer (c ∷ s) ih = ap (join_line b) (ih (omega arith))

    by_feed : (t : Bool) → join_line b (lines_of s) ≡ (b ∷ take (line_length s) s) ∷ lines_of (drop (line_length s) s)
        → cond t ((b ∷ []) ∷ lines_of s) (join_line b (lines_of s))
        ≡ take (1 + cond t 0 (line_length s)) (b ∷ s) ∷ lines_of (drop (1 + cond t 0 (line_length s)) (b ∷ s))
    by_feed true e = refl
    by_feed false e = let q : 1 + line_length s ≡ suc (line_length s) = omega arith in rw q e

pub lines_step : (s : List ℕ) → 0 < length s → lines_of s ≡ take (line_length s) s ∷ lines_of (drop (line_length s) s)
lines_step [] h = absurd (omega arith)
lines_step (b ∷ s) h = line_front b s (lines_step s)

-- the line at a place, and those after it
pub lines_at : (s : List ℕ) (at end : ℕ) → at < length s → end ≡ at + line_length (drop at s)
    → lines_of (drop at s) ≡ take (end - at) (drop at s) ∷ lines_of (drop end s)
lines_at s at end h e =
    let n = length-drop at s in
    let k : line_length (drop at s) ≡ end - at = omega arith in
    lines_step (drop at s) (omega arith)
    ∙ ap₂ (λ (x : ℕ) (l : List ℕ). take x (drop at s) ∷ lines_of l) k (drop-drop (line_length (drop at s)) at s ∙ ap (λ (x : ℕ). drop x s) (sym e))

-- ---- the bytes cut at their line feeds

abbrev pub is_feed : ℕ → Bool
is_feed b = eqb b line_feed

-- where the first line feed tells how long a stretch is, the stretch is the first line
pub line_cut : (s : List ℕ) (i : ℕ) → IsFirstMatchOrLen is_feed s i → min (i + 1) (length s) ≡ line_length s
unfolding line_length
line_cut [] i h = omega arith
line_cut (b ∷ s) zero h = rw (h.1 (omega arith) 0) (omega arith)
line_cut (b ∷ s) (suc i) h =
    let e = line_cut s i (λ k d l m. h.0 (suc k) d (omega arith) (omega arith), λ l d. h.1 (omega arith) d) in
    rw (h.0 0 0 (omega arith) (omega arith)) (omega arith)

-- and the other lines are those of what follows it
pub lines_cut_at : (s line more : List ℕ) → s ≡ line ++ more → length line ≡ line_length s → 0 < length s → lines_of s ≡ line ∷ lines_of more
lines_cut_at s line more e l h =
    lines_step s h
    ∙ ap₂ (λ (x y : List ℕ). x ∷ lines_of y)
    (ap (take (line_length s)) e ∙ take_at line more (line_length s) l)
    (ap (drop (line_length s)) e ∙ drop_at line more (line_length s) l)

-- ---- the lines together

pub joined_lines : (s : List ℕ) → joined (lines_of s) ≡ s
unfolding lines_of joined
joined_lines [] = refl
joined_lines (b ∷ s) = by_feed (eqb b line_feed) (joined_lines s)
  where
    front : (ls : List (List ℕ)) → joined (join_line b ls) ≡ b ∷ joined ls
    front [] = unfold join_line joined in refl
    front (l ∷ ls) = unfold join_line joined in refl

    by_feed : (t : Bool) → joined (lines_of s) ≡ s → joined (cond t ((b ∷ []) ∷ lines_of s) (join_line b (lines_of s))) ≡ b ∷ s
    by_feed true e = ap (λ (x : List ℕ). b ∷ x) e
    by_feed false e = front (lines_of s) ∙ ap (λ (x : List ℕ). b ∷ x) e
