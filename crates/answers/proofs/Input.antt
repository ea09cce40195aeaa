-- The register and the queries of an input: where the first line that begins with 51 starts.
-- Assumes nothing.
use mathlib.Core.Path.{◌≡◌, refl, sym, ap, ap₂, ◌∙◌}
use mathlib.Core.Bool.{Bool, true, false, cond, ◌&&◌, and-true}
use mathlib.Core.List.{List, [], ◌∷◌, ◌++◌}
use Prim.Native.Nat.{ℕ, suc, ◌+◌, ◌≤◌, ◌<◌, min}
use native.Mathlib.Nat.{zero-add}
use native.Mathlib.Omega.{arith}
use lib.ListN.{length, get_or, take, drop, replicate, length-append, length-drop}
use lib.Seq.{length-take-le, drop-drop, take_at, drop_at}
use lib.Dec.{eqb, ltb}
use lib.Pointwise.{pointwise}
use borrow.Author.Tests.{eq-eqb, ne_eqb, eqb-true, eqb-false, lt-ltb, le-ltb}
use Rattle.index.specs.Good.{Good, good_of}
use Rattle.index.proofs.Laws.{refused_not_good}
use Rattle.lines.specs.Lines.{lines_of, line_length, line_feed, joined}
use Rattle.lines.proofs.Lines.{lines_nil, lines_step, line_within, joined_lines, is_feed, line_cut}
use Rattle.std.specs.List.{IsFirstMatchOrLen}
use Rattle.laws.proofs.Lists.{length_nil}
use Rattle.register.proofs.Laws.{accepted_good, refused_bad}
use Rattle.index_writer.specs.Written.{blank}
use Rattle.register.specs.Build.{built_of, words_after}
use Rattle.register.specs.Build.{Built}
use Rattle.answers.specs.Output.{Opened}
use Rattle.answers.specs.Output.{begins, bytes_before, register_end, most_input, opened_of, open_words}

-- as the code tests it
same_test : (a b : ℕ) → eqb a b ≡ eqb b a
same_test a b = by_test (eqb a b) refl
  where
    by_test : (t : Bool) → eqb a b ≡ t → t ≡ eqb b a
    by_test true e = sym (eq-eqb b a (sym (eqb-true a b e)))
    by_test false e = sym (ne_eqb b a (λ h. eqb-false a b e (sym h)))

pub begins_tested : (s : List ℕ) → pointwise eqb (53 ∷ 49 ∷ []) (take 2 s) ≡ begins s
unfolding begins
begins_tested [] = refl
begins_tested (a ∷ []) = ap (λ (t : Bool). t && false) (same_test 53 a)
begins_tested (a ∷ b ∷ s) = ap₂ (λ (t u : Bool). t && u) (same_test 53 a) (and-true (eqb 49 b) ∙ same_test 49 b)

-- bytes begin with 51 exactly if their first line does
pub begins_line : (s : List ℕ) → begins (take (line_length s) s) ≡ begins s
unfolding begins line_length
begins_line [] = refl
begins_line (a ∷ []) = by_feed (eqb a line_feed)
  where
    by_feed : (t : Bool) → eqb (get_or (take (1 + cond t 0 0) (a ∷ [])) 0 0) 53 && eqb (get_or (take (1 + cond t 0 0) (a ∷ [])) 1 0) 49 ≡ eqb a 53 && eqb 0 49
    by_feed true = refl
    by_feed false = refl
begins_line (a ∷ b ∷ s) = by_feed (eqb a line_feed) refl
  where
    fives : eqb a line_feed ≡ true → eqb a 53 ≡ false
    fives e = ne_eqb a 53 (λ h. let g = eqb-true a line_feed e in omega arith)

    by_second : (t : Bool) → eqb (get_or (take (1 + (1 + cond t 0 (line_length s))) (a ∷ b ∷ s)) 0 0) 53 && eqb (get_or (take (1 + (1 + cond t 0 (line_length s))) (a ∷ b ∷ s)) 1 0) 49 ≡ eqb a 53 && eqb b 49
    by_second true = refl
    by_second false =
        let q : 1 + (1 + line_length s) ≡ suc (suc (line_length s)) = omega arith in
        rw q refl

    by_feed : (t : Bool) → eqb a line_feed ≡ t
        → eqb (get_or (take (1 + cond t 0 (1 + cond (eqb b line_feed) 0 (line_length s))) (a ∷ b ∷ s)) 0 0) 53
        && eqb (get_or (take (1 + cond t 0 (1 + cond (eqb b line_feed) 0 (line_length s))) (a ∷ b ∷ s)) 1 0) 49
        ≡ eqb a 53 && eqb b 49
    by_feed true e = rw (fives e) refl
    by_feed false e = by_second (eqb b line_feed)

-- ---- the end of the register

pub end_first : (s : List ℕ) → 0 + bytes_before (lines_of s) ≡ register_end s
unfolding register_end
end_first s = omega arith

-- at the end of the input nothing is left
pub end_nil : (s : List ℕ) → length s ≡ 0 → bytes_before (lines_of s) ≡ 0
unfolding bytes_before
end_nil s h = ap (λ (l : List ℕ). bytes_before (lines_of l)) (length_nil s h) ∙ ap bytes_before lines_nil

-- a line that begins with 51 ends the register
pub end_met : (s : List ℕ) (at : ℕ) → at < length s → begins (drop at s) ≡ true → bytes_before (lines_of (drop at s)) ≡ 0
unfolding bytes_before
end_met s at h b =
    let n = length-drop at s in
    ap bytes_before (lines_step (drop at s) (omega arith)) ∙ rw (begins_line (drop at s), b) refl

-- any other belongs to it
pub end_passed : (s : List ℕ) (at : ℕ) → at < length s → begins (drop at s) ≡ false
    → bytes_before (lines_of (drop at s)) ≡ line_length (drop at s) + bytes_before (lines_of (drop (at + line_length (drop at s)) s))
unfolding bytes_before
end_passed s at h b =
    let n = length-drop at s in
    let w = line_within s at (omega arith) in
    let l : length (take (line_length (drop at s)) (drop at s)) ≡ line_length (drop at s) = length-take-le (line_length (drop at s)) (drop at s) (omega arith) in
    ap bytes_before (lines_step (drop at s) (omega arith))
    ∙ rw (begins_line (drop at s), b) (ap₂ ◌+◌ l (ap (λ (r : List ℕ). bytes_before (lines_of r)) (drop-drop (line_length (drop at s)) at s)))

-- the same of a stretch that is the first line of what is left, and of what comes after it
first_line : (rest line more : List ℕ) (i : ℕ) → rest ≡ line ++ more → length line ≡ min (i + 1) (length rest) → IsFirstMatchOrLen is_feed rest i
    → (length line ≡ line_length rest) × (begins rest ≡ begins line) × (drop (line_length rest) rest ≡ more)
first_line rest line more i e l f =
    let n : length line ≡ line_length rest = l ∙ line_cut rest i f in (
      n,
      sym (begins_line rest) ∙ ap begins (ap (take (line_length rest)) e ∙ take_at line more (line_length rest) n),
      ap (drop (line_length rest)) e ∙ drop_at line more (line_length rest) n,
    )

pub line_met : (rest line more : List ℕ) (i : ℕ) → rest ≡ line ++ more → length line ≡ min (i + 1) (length rest) → IsFirstMatchOrLen is_feed rest i → 0 < length rest
    → begins line ≡ true → bytes_before (lines_of rest) ≡ 0
line_met rest line more i e l f h b = end_met rest 0 h ((first_line rest line more i e l f).1 ∙ b)

pub line_passed : (rest line more : List ℕ) (i : ℕ) → rest ≡ line ++ more → length line ≡ min (i + 1) (length rest) → IsFirstMatchOrLen is_feed rest i → 0 < length rest
    → begins line ≡ false → bytes_before (lines_of rest) ≡ length line + bytes_before (lines_of more)
line_passed rest line more i e l f h b =
    let p = first_line rest line more i e l f in
    end_passed rest 0 h (p.1 ∙ b) ∙ ap₂ (λ (k : ℕ) (s : List ℕ). k + bytes_before (lines_of s)) (sym p.0) (ap (λ (k : ℕ). drop k rest) (zero-add (line_length rest)) ∙ p.2)

-- ---- opening

module _ (input words : List ℕ) where
  pub opened_much : most_input < length input → record { number = 8; line = 0; at = 0 } ≡ opened_of input (length words)
  unfolding opened_of
  opened_much h = rw (lt-ltb most_input (length input) h)

  pub words_much : most_input < length input → replicate (length words) blank ≡ open_words input words
  unfolding open_words
  words_much h = rw (lt-ltb most_input (length input) h)

  pub opened_built : (at : ℕ) (b : Built) → length input ≤ most_input → at ≡ register_end input → b ≡ built_of (take at input) (length words)
      → record { number = b.number; line = b.line; at = at } ≡ opened_of input (length words)
  unfolding opened_of
  opened_built at b h e f =
      rw (le-ltb most_input (length input) h)
      (ap₂ (λ (k : ℕ) (c : Built). record { number = c.number; line = c.line; at = k }) e (f ∙ ap (λ (k : ℕ). built_of (take k input) (length words)) e))

  pub words_built : (at : ℕ) (after : List ℕ) → length input ≤ most_input → at ≡ register_end input → after ≡ words_after (take at input) words
      → after ≡ open_words input words
  unfolding open_words
  words_built at after h e f = rw (le-ltb most_input (length input) h) (f ∙ ap (λ (k : ℕ). words_after (take k input) words) e)

-- ---- an input that was opened

before_most : (ls : List (List ℕ)) → bytes_before ls ≤ length (joined ls)
unfolding bytes_before joined
before_most [] = omega arith
before_most (l ∷ ls) = let n = length-append l (joined ls) in by_test (begins l) (before_most ls) n
  where
    by_test : (b : Bool) → bytes_before ls ≤ length (joined ls) → length (l ++ joined ls) ≡ length l + length (joined ls)
        → cond b 0 (length l + bytes_before ls) ≤ length (l ++ joined ls)
    by_test true h n = omega arith
    by_test false h n = omega arith

-- the register ends within the input
pub end_within : (s : List ℕ) → register_end s ≤ length s
unfolding register_end
end_within s = let a = before_most (lines_of s) in let b = ap length (joined_lines s) in omega arith

pub opened_within : (input : List ℕ) (room : ℕ) → (opened_of input room).at ≤ length input
unfolding opened_of
opened_within input room = by_size (ltb most_input (length input))
  where
    opened : Bool → Opened
    opened b =
        cond b
        (record { number = 8; line = 0; at = 0 })
        (record { number = (built_of (take (register_end input) input) room).number; line = (built_of (take (register_end input) input) room).line; at = register_end input })

    by_size : (b : Bool) → (opened b).at ≤ length input
    by_size true = omega arith
    by_size false = end_within input

-- an input that is opened has a good index
pub opened_good : (input words : List ℕ) → (opened_of input (length words)).number ≡ 0 → Good (open_words input words)
unfolding opened_of open_words
opened_good input words z = by_size (ltb most_input (length input)) z
  where
    opened : Bool → Opened
    opened b =
        cond b
        (record { number = 8; line = 0; at = 0 })
        (record { number = (built_of (take (register_end input) input) (length words)).number; line = (built_of (take (register_end input) input) (length words)).line; at = register_end input })

    by_size : (b : Bool) → (opened b).number ≡ 0 → Good (cond b (replicate (length words) blank) (words_after (take (register_end input) input) words))
    by_size true e = absurd (omega arith)
    by_size false e = accepted_good (take (register_end input) input) words e

-- and one that is refused has words that every search refuses
pub opened_bad : (input words : List ℕ) → ((opened_of input (length words)).number ≡ 0 → ⊥) → good_of (open_words input words) ≡ false
unfolding opened_of open_words
opened_bad input words n = by_size (ltb most_input (length input)) n
  where
    opened : Bool → Opened
    opened b =
        cond b
        (record { number = 8; line = 0; at = 0 })
        (record { number = (built_of (take (register_end input) input) (length words)).number; line = (built_of (take (register_end input) input) (length words)).line; at = register_end input })

    by_size : (b : Bool) → ((opened b).number ≡ 0 → ⊥) → good_of (cond b (replicate (length words) blank) (words_after (take (register_end input) input) words)) ≡ false
    by_size true n = refused_not_good (length words)
    by_size false n = refused_bad (take (register_end input) input) words n
