-- The least count is the first c from 1 upward that passes the measure's line: specs/Leaflet.antt says what, this file cites why.
-- Assumes nothing.
use mathlib.Core.Path.{◌≡◌, refl, sym, ◌∙◌}
use mathlib.Core.Bool.{true}
use Prim.Native.Nat.{ℕ, ◌≤◌}
use native.Mathlib.Nat.{le_antisymm, lt_of_not-le}
use native.Mathlib.Decide.{dec_le}
use borrow.Author.Tests.{le-leb, leb-true}
use Rattle.laws.proofs.Tests.{test_failed}
use Rattle.likeness.specs.Measures.{Measure, dice, jaccard, cosine, overlap, other, measure_of, good_measure, reaches}
use Rattle.likeness.proofs.Measures.{similar_reaches}
use Rattle.likeness.proofs.Least.{least_pos, least_similar, least_below}
use Rattle.statements.specs.Leaflet.{Line, First, CosineLeast, EveryLeast, OnlyLeast}

-- ---- the line, and the test of it

line_reached : (m : Measure) (p q x y c : ℕ) → reaches m p q x y c ≡ true → Line m p q x y c
unfolding reaches Line
line_reached dice p q x y c e = leb-true _ _ e
line_reached jaccard p q x y c e = leb-true _ _ e
line_reached cosine p q x y c e = leb-true _ _ e
line_reached overlap p q x y c e = leb-true _ _ e
line_reached other p q x y c e = test_failed _ refl e

reached_line : (m : Measure) (p q x y c : ℕ) → Line m p q x y c → reaches m p q x y c ≡ true
unfolding reaches Line
reached_line dice p q x y c l = le-leb _ _ l
reached_line jaccard p q x y c l = le-leb _ _ l
reached_line cosine p q x y c l = le-leb _ _ l
reached_line overlap p q x y c l = le-leb _ _ l
reached_line other p q x y c l = absurd l

-- ---- the least count

pub every_least : EveryLeast
every_least m p q x y k g =
    record {
      from_one = least_pos m p q x y k g;
      passes = line_reached (measure_of m) p q x y _ (sym (similar_reaches m p q x y _ g) ∙ least_similar m p q x y k g);
      no_smaller = λ c l s n.
          test_failed _ (least_below m p q x y k g c l s) (similar_reaches m p q x y c g ∙ reached_line (measure_of m) p q x y c n);
    }

pub cosine_least : CosineLeast
unfolding Line good_measure measure_of
cosine_least p q x y g =
    let f = every_least 3 p q x y refl g in
    record { from_one = f.from_one; passes = f.passes; no_smaller = f.no_smaller }

-- two firsts are one
first_once : (P : ℕ → Type 0) (s t : ℕ) → First P s → First P t → s ≡ t
first_once P s t f g = by_order (dec_le s t) (dec_le t s)
  where
    by_order : Dec (s ≤ t) → Dec (t ≤ s) → s ≡ t
    by_order (yes a) (yes b) = le_antisymm a b
    by_order (no a) b = absurd (f.no_smaller t g.from_one (lt_of_not-le a) g.passes)
    by_order (yes a) (no b) = absurd (g.no_smaller s f.from_one (lt_of_not-le b) f.passes)

pub only_least : OnlyLeast
only_least m p q x y t k g f = first_once _ t _ f (every_least m p q x y k g)
