-- Laws of the rows: the places of the answers, one name at a time, and a column written over. Cited by the proofs that write them.
-- Assumes nothing.
use mathlib.Core.Path.{◌≡◌, refl, sym, ap, ap₂, ◌∙◌}
use mathlib.Core.Bool.{Bool}
use mathlib.Core.Logic.{⊎_elim}
use mathlib.Core.List.{List, [], ◌∷◌, ◌++◌, map, map-append}
use Prim.Native.Nat.{ℕ, suc, ◌+◌, ◌-◌, ◌≤◌, ◌<◌}
use native.Mathlib.Nat.{eq-or-lt_of_le}
use native.Mathlib.Numerals.{add-one}
use native.Mathlib.Omega.{arith}
use lib.ListN.{length, get_or, drop, set, length-append, length-map, length-set}
use lib.Seq.{drop-cons, set_at, append_snoc}
use lib.Dec.{leb}
use borrow.Author.Tests.{le-leb, lt-leb}
use Rattle.laws.proofs.Passing.{passing_nil, passing_met, passing_passed, passing_all, passing_most}
use Rattle.search.specs.Places.{places_in}
use Rattle.search.specs.Answers.{over}

-- ---- the places

-- whether the count at a place is at least 1
abbrev counts : List ℕ → ℕ → Bool
counts a i = leb 1 (get_or a i 0)

pub places_nil : (a : List ℕ) → places_in a 0 ≡ []
unfolding places_in
places_nil a = passing_nil (counts a)

pub places_met : (a : List ℕ) (k : ℕ) → 0 < get_or a k 0 → places_in a (k + 1) ≡ places_in a k ++ (k ∷ [])
unfolding places_in
places_met a k h = passing_met (counts a) k (le-leb 1 (get_or a k 0) h)

pub places_passed : (a : List ℕ) (k : ℕ) → get_or a k 0 ≤ 0 → places_in a (k + 1) ≡ places_in a k
unfolding places_in
places_passed a k h = passing_passed (counts a) k (lt-leb 1 (get_or a k 0) (omega arith))

-- where they are no more, they are the same
pub places_all : (a : List ℕ) (k d : ℕ) → length (places_in a (k + d)) ≤ length (places_in a k) → places_in a (k + d) ≡ places_in a k
unfolding places_in
places_all a = passing_all (counts a)

-- where there are fewer, there are names yet to come
pub places_before : (a : List ℕ) (i n : ℕ) → i ≤ n → length (places_in a i) < length (places_in a n) → i < n
places_before a i n h m =
    ⊎_elim
    (λ (q : i ≡ n). let e = ap (λ (j : ℕ). length (places_in a j)) q in absurd (omega arith))
    (λ (k : i < n). k)
    (eq-or-lt_of_le h)

-- at most as many as there are names
pub places_most : (a : List ℕ) (k : ℕ) → length (places_in a k) ≤ k
unfolding places_in
places_most a = passing_most (counts a)

-- ---- a column

-- one row more
pub over_more : (f : ℕ → ℕ) (l : List ℕ) (x k : ℕ) (s : List ℕ) → length l ≡ k → k < length s
    → set (over (map f l) s) k (f x) ≡ over (map f (l ++ (x ∷ []))) s
over_more f l x k s e h =
    let n : length (map f l) ≡ k = length-map l f ∙ e in
    let m : length (map f l ++ (f x ∷ [])) ≡ k + 1 = length-append (map f l) (f x ∷ []) ∙ ap (λ (z : ℕ). z + 1) n in
    ap (λ (z : ℕ). set (map f l ++ drop z s) k (f x)) n
    ∙ ap (λ (r : List ℕ). set (map f l ++ r) k (f x)) (drop-cons s k 0 h)
    ∙ set_at (map f l) (get_or s k 0) (drop (suc k) s) (f x) k n
    ∙ sym (append_snoc (map f l) (f x) (drop (suc k) s))
    ∙ ap₂ (λ (r : List ℕ) (z : ℕ). r ++ drop z s) (sym (map-append f l (x ∷ []))) (sym (ap length (map-append f l (x ∷ [])) ∙ m ∙ add-one k))

-- ---- a column, name by name

-- after the first i names: as long as it was, and in front what the answers among them have there
pub record Written (a : List ℕ) (f : ℕ → ℕ) (before after : List ℕ) (i : ℕ) : Type 0 where
  pub long : length after ≡ length before
  pub front : after ≡ over (map f (places_in a i)) before

pub written_nil : (a : List ℕ) (f : ℕ → ℕ) (s : List ℕ) → Written a f s s 0
written_nil a f s = record { long = refl; front = ap (λ (l : List ℕ). over (map f l) s) (sym (places_nil a)) }

pub written_met : (a : List ℕ) (f : ℕ → ℕ) (s t u : List ℕ) (i k v : ℕ) → u ≡ set t k v → 0 < get_or a i 0 → k ≡ length (places_in a i) → k < length s
    → v ≡ f i → Written a f s t i → Written a f s u (i + 1)
written_met a f s t u i k v w h n m e r =
    record {
      long = ap length w ∙ length-set t k v ∙ r.long;
      front =
          w
          ∙ ap₂ (λ (l : List ℕ) (x : ℕ). set l k x) r.front e
          ∙ over_more f (places_in a i) i k s (sym n) m
          ∙ ap (λ (l : List ℕ). over (map f l) s) (sym (places_met a i h));
    }

pub written_passed : (a : List ℕ) (f : ℕ → ℕ) (s t u : List ℕ) (i : ℕ) → u ≡ t → get_or a i 0 ≤ 0 → Written a f s t i → Written a f s u (i + 1)
written_passed a f s t u i w h r =
    record { long = ap length w ∙ r.long; front = w ∙ r.front ∙ ap (λ (l : List ℕ). over (map f l) s) (sym (places_passed a i h)) }

-- where the answers among the first i names are as many as all, the column is written
pub written_all : (a : List ℕ) (f : ℕ → ℕ) (s t : List ℕ) (i n : ℕ) → i ≤ n → length (places_in a n) ≤ length (places_in a i) → Written a f s t i
    → t ≡ over (map f (places_in a n)) s
written_all a f s t i n h m r =
    let q : i + (n - i) ≡ n = omega arith in
    let z = ap (λ (j : ℕ). length (places_in a j)) q in
    r.front ∙ ap (λ (p : List ℕ). over (map f p) s) (sym (places_all a i (n - i) (omega arith)) ∙ ap (places_in a) q)
