-- Text cut at its line feeds: lines that were put one after the other come apart again, and a text that breaks off has fewer of them that end.
-- Assumes nothing.
use mathlib.Core.Path.{◌≡◌, refl, sym, ap, subst, ◌∙◌}
use mathlib.Core.Logic.{⊎_elim}
use mathlib.Core.Bool.{Bool, true, false, cond}
use mathlib.Core.List.{List, [], ◌∷◌, ◌++◌, append-nil, append_assoc}
use Prim.Native.Nat.{ℕ, zero, suc, ◌+◌, ◌-◌, ◌≤◌, ◌<◌}
use native.Mathlib.Omega.{arith}
use lib.ListN.{length, get_or, take, length-append}
use lib.Seq.{take-append-le, take-append-add}
use borrow.Author.Tests.{ne_eqb}
use Rattle.laws.specs.Lists.{count_of}
use Rattle.laws.specs.Each.{Each}
use Rattle.laws.proofs.Members.{each_nil, each_cons, each_append}
use Rattle.laws.proofs.Order.{le_or_lt}
use Rattle.lines.specs.Lines.{lines_of, join_line, line_feed, joined}
use Rattle.lines.proofs.Lines.{lines_nil}

-- no element is a line feed; so of no elements
abbrev pub NoFeed : List ℕ → Type 0
NoFeed [] = Unit {0}
NoFeed (b ∷ l) = (b ≡ line_feed → ⊥) × NoFeed l

-- a line: no line feed, and then one
pub record Line (l : List ℕ) : Type 0 where
  pub text : List ℕ
  pub plain : NoFeed text
  pub ended : l ≡ text ++ (10 ∷ [])

-- the first line of a line and more
pub feed_cut : (l rest : List ℕ) → NoFeed l → lines_of ((l ++ (10 ∷ [])) ++ rest) ≡ (l ++ (10 ∷ [])) ∷ lines_of rest
unfolding lines_of join_line
feed_cut [] rest n = refl
feed_cut (b ∷ l) rest n = rw (ne_eqb b line_feed n.0) (ap (join_line b) (feed_cut l rest n.1))

pub first_cut : (l rest : List ℕ) → Line l → lines_of (l ++ rest) ≡ l ∷ lines_of rest
first_cut l rest h =
    ap (λ (x : List ℕ). lines_of (x ++ rest)) h.ended ∙ feed_cut h.text rest h.plain ∙ ap (λ (x : List ℕ). x ∷ lines_of rest) (sym h.ended)

-- lines, one after the other, and more
pub lines_cut : (ls : List (List ℕ)) (rest : List ℕ) → Each Line ls → lines_of (joined ls ++ rest) ≡ ls ++ lines_of rest
unfolding joined Each
lines_cut [] rest h = refl
lines_cut (l ∷ ls) rest h =
    ap lines_of (append_assoc l (joined ls) rest) ∙ first_cut l (joined ls ++ rest) h.0 ∙ ap (λ (x : List (List ℕ)). l ∷ x) (lines_cut ls rest h.1)

pub lines_joined : (ls : List (List ℕ)) → Each Line ls → lines_of (joined ls) ≡ ls
lines_joined ls h = ap lines_of (sym (append-nil (joined ls))) ∙ lines_cut ls [] h ∙ ap (λ (x : List (List ℕ)). ls ++ x) lines_nil ∙ append-nil ls

pub joined_append : (ks ls : List (List ℕ)) → joined (ks ++ ls) ≡ joined ks ++ joined ls
unfolding joined
joined_append [] ls = refl
joined_append (k ∷ ks) ls = ap (λ (x : List ℕ). k ++ x) (joined_append ks ls) ∙ sym (append_assoc k (joined ks) (joined ls))

-- ---- a text that breaks off

-- the last of these lines passes the test
pub record Ended (t : List ℕ → Bool) (ls : List (List ℕ)) : Type 0 where
  pub before : List (List ℕ)
  pub last : List ℕ
  pub split : ls ≡ before ++ (last ∷ [])
  pub each : Each Line before
  pub line : Line last
  pub passes : t last ≡ true

pub ended_behind : (t : List ℕ → Bool) (ks ls : List (List ℕ)) → Each Line ks → Ended t ls → Ended t (ks ++ ls)
ended_behind t ks ls h e =
    record {
      before = ks ++ e.before;
      last = e.last;
      split = ap (λ (x : List (List ℕ)). ks ++ x) e.split ∙ sym (append_assoc ks e.before (e.last ∷ []));
      each = each_append Line ks e.before h e.each;
      line = e.line;
      passes = e.passes;
    }

pub ended_each : (t : List ℕ → Bool) (ls : List (List ℕ)) → Ended t ls → Each Line ls
ended_each t ls e =
    subst (Each Line) (sym e.split) (each_append Line e.before (e.last ∷ []) e.each (each_cons Line e.last [] e.line (each_nil Line)))

module _ (t : List ℕ → Bool) (feeds : (l : List ℕ) → t l ≡ true → get_or l (length l - 1) 0 ≡ 10) where
  last_plain : (b : ℕ) (l : List ℕ) → NoFeed (b ∷ l) → get_or (b ∷ l) (length l) 0 ≡ 10 → ⊥
  last_plain b [] n e = n.0 e
  last_plain b (c ∷ l) n e = last_plain c l n.1 e

  -- text without a line feed has no line that passes
  count_plain : (s : List ℕ) → NoFeed s → count_of t (lines_of s) ≡ 0
  unfolding lines_of join_line count_of
  count_plain [] n = refl
  count_plain (b ∷ s) n = ap (count_of t) (alone b s n) ∙ by_test (t (b ∷ s)) refl
    where
      alone : (b : ℕ) (s : List ℕ) → NoFeed (b ∷ s) → lines_of (b ∷ s) ≡ (b ∷ s) ∷ []
      alone b [] n = rw (ne_eqb b line_feed n.0) refl
      alone b (c ∷ s) n = rw (ne_eqb b line_feed n.0) (ap (join_line b) (alone c s n.1))

      by_test : (p : Bool) → t (b ∷ s) ≡ p → cond p 1 0 + 0 ≡ 0
      by_test true e =
          let m : length (b ∷ s) - 1 ≡ length s = omega arith in
          absurd (last_plain b s n (ap (λ (k : ℕ). get_or (b ∷ s) k 0) (sym m) ∙ feeds (b ∷ s) e))
      by_test false e = refl

  plain_part : (s : List ℕ) (n : ℕ) → NoFeed s → NoFeed (take n s)
  plain_part [] zero h = tt
  plain_part [] (suc n) h = tt
  plain_part (b ∷ s) zero h = tt
  plain_part (b ∷ s) (suc n) h = (h.0, plain_part s n h.1)

  -- the start of a line has none that passes
  count_start : (l rest : List ℕ) (n : ℕ) → Line l → n < length l → count_of t (lines_of (take n (l ++ rest))) ≡ 0
  count_start l rest n h b =
      let m = ap length h.ended ∙ length-append h.text (10 ∷ []) in
      let e : take n (l ++ rest) ≡ take n h.text =
      take-append-le n l rest (omega arith) ∙ ap (take n) h.ended ∙ take-append-le n h.text (10 ∷ []) (omega arith) in
      ap (λ (s : List ℕ). count_of t (lines_of s)) e ∙ count_plain (take n h.text) (plain_part h.text n h.plain)

  -- lines whose last one passes, broken off before their end, have fewer that pass
  broken_before : (before : List (List ℕ)) (last : List ℕ) (n : ℕ) → Each Line before → Line last → t last ≡ true
      → n < length (joined (before ++ (last ∷ [])))
      → count_of t (lines_of (take n (joined (before ++ (last ∷ []))))) < count_of t (before ++ (last ∷ []))
  unfolding joined Each count_of
  broken_before [] last n hs h p b =
      let m = length-append last [] in
      let z = count_start last [] n h (omega arith) in
      rw (z, p) (omega arith)
  broken_before (l ∷ before) last n hs h p b =
      ⊎_elim
      (λ (k : length l ≤ n).
      let j : length l + (n - length l) ≡ n = omega arith in
      let m = length-append l (joined (before ++ (last ∷ []))) in
      let i = broken_before before last (n - length l) hs.1 h p (omega arith) in
      let e : take n (l ++ joined (before ++ (last ∷ []))) ≡ l ++ take (n - length l) (joined (before ++ (last ∷ []))) =
      ap (λ (x : ℕ). take x (l ++ joined (before ++ (last ∷ [])))) (sym j) ∙ take-append-add l (joined (before ++ (last ∷ []))) (n - length l) in
      let c = ap (λ (s : List ℕ). count_of t (lines_of s)) e
      ∙ ap (count_of t) (first_cut l (take (n - length l) (joined (before ++ (last ∷ [])))) hs.0) in
      rw c (omega arith))
      (λ (k : n < length l).
      let z = count_start l (joined (before ++ (last ∷ []))) n hs.0 k in
      let o = passing before in
      rw z (omega arith))
      (le_or_lt (length l) n)
    where
      passing : (ks : List (List ℕ)) → 1 ≤ count_of t (ks ++ (last ∷ []))
      passing [] = rw p (omega arith)
      passing (k ∷ ks) = let i = passing ks in omega arith

  pub broken_fewer : (ls : List (List ℕ)) (n : ℕ) → Ended t ls → n < length (joined ls)
      → count_of t (lines_of (take n (joined ls))) < count_of t (lines_of (joined ls))
  broken_fewer ls n e h =
      let k = ap (λ (x : List (List ℕ)). length (joined x)) e.split in
      let b = broken_before e.before e.last n e.each e.line e.passes (omega arith) in
      let c = ap (λ (x : List (List ℕ)). count_of t (lines_of (take n (joined x)))) e.split in
      let d = ap (count_of t) (lines_joined ls (ended_each t ls e) ∙ e.split) in
      omega arith
