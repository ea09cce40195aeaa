-- A binary search: of a test that passes up to a place and fails from there on, the place. The code keeps a stretch in which the place lies, and
-- asks the test in its middle. Cited by the searches of `binary_search`, `index` and `lists`, and by `sizes`.
-- Assumes nothing.
use mathlib.Core.Path.{◌≡◌, refl, sym, ap, subst, subst₂, ◌∙◌}
use mathlib.Core.Logic.{◌⊎◌, inl, inr, ⊎_elim}
use mathlib.Core.Bool.{Bool, true, false, cond, true≢false}
use mathlib.Core.List.{List, [], ◌∷◌}
use Prim.Native.Nat.{ℕ, zero, suc, ◌+◌, ◌-◌, ◌*◌, ◌^◌, ◌≤◌, ◌<◌}
use native.Mathlib.Nat.{eq-or-lt_of_le, pow-suc, zero-add}
use native.Mathlib.Omega.{arith}
use lib.ListN.{length, get_or}
use lib.Pow.{pow_pos}
use Rattle.laws.specs.Lists.{count_of}
use Rattle.laws.specs.Below.{sum_below, count_below}

-- what passes of n numbers comes first
abbrev pub Falling : (ℕ → Bool) → ℕ → Type 0
Falling t n = (i j : ℕ) → i ≤ j → j < n → t j ≡ true → t i ≡ true

-- of n numbers, those below `base` pass, those from `base + left` on fail, and the `left` between are not yet known
pub record Stretch (t : ℕ → Bool) (n base left : ℕ) : Type 0 where
  pub within : base + left ≤ n
  pub below : (i : ℕ) → i < base → t i ≡ true
  pub above : (i : ℕ) → base + left ≤ i → i < n → t i ≡ false

pub stretch_all : (t : ℕ → Bool) (n : ℕ) → Stretch t n 0 n
stretch_all t n = record { within = omega arith; below = λ i l. absurd (omega arith); above = λ i l m. absurd (omega arith) }

-- where the first b of n numbers pass and the others fail, b of them pass
pub count_below_place : (t : ℕ → Bool) (n b : ℕ) → b ≤ n → ((i : ℕ) → i < b → t i ≡ true) → ((i : ℕ) → b ≤ i → i < n → t i ≡ false)
    → count_below n t ≡ b
unfolding sum_below
count_below_place t zero b l p f = omega arith
count_below_place t (suc n) b l p f =
    ⊎_elim
    (λ (e : b ≡ suc n).
    let h = count_below_place t n n (omega arith) (λ i m. p i (omega arith)) (λ i m k. absurd (omega arith)) in
    let g : ◌≡◌ {A = ℕ} (cond (t n) 1 0) 1 = rw (p n (omega arith)) in
    omega arith)
    (λ (e : b < suc n).
    let h = count_below_place t n b (omega arith) p (λ i m k. f i m (omega arith)) in
    let g : ◌≡◌ {A = ℕ} (cond (t n) 1 0) 0 = rw (f n (omega arith) (omega arith)) in
    omega arith)
    (eq-or-lt_of_le l)

module _ (t : ℕ → Bool) (n : ℕ) (falling : Falling t n) (base left : ℕ) (known : Stretch t n base left) where
  -- the h-th of those not yet known is asked, and left − h stay unknown: h is half of them, rounded either way
  pub stretch_half : (h : ℕ) → 0 < h → h ≤ left → h ≤ left - h + 1 → Stretch t n (base + cond (t (base + h - 1)) h 0) (left - h)
  stretch_half h p q r = by_test (t (base + h - 1)) refl
    where
      fails : t (base + h - 1) ≡ false → (i : ℕ) → base + h - 1 ≤ i → i < n → t i ≡ false
      fails e i l m = by_answer (t i) refl
        where
          by_answer : (b : Bool) → t i ≡ b → t i ≡ false
          by_answer true a = absurd (true≢false (sym (falling (base + h - 1) i l m a) ∙ e))
          by_answer false a = a

      by_test : (b : Bool) → t (base + h - 1) ≡ b → Stretch t n (base + cond b h 0) (left - h)
      by_test true e =
          let w = known.within in
          record {
            within = omega arith;
            below = λ i l. falling i (base + h - 1) (omega arith) (omega arith) e;
            above = λ i l m. known.above i (omega arith) m;
          }
      by_test false e =
          let w = known.within in
          record {
            within = omega arith;
            below = λ i l. known.below i (omega arith);
            above = λ i l m. fails e i (omega arith) m;
          }

  -- where nothing is left unknown, the base is how many pass
  pub stretch_none : left ≡ 0 → base ≡ count_below n t
  stretch_none e =
      let w = known.within in
      sym (count_below_place t n base (omega arith) known.below (λ i l m. known.above i (omega arith) m))

-- ---- halves that are powers of two

-- the first half may be any: it leaves 2 ^ k − 1 unknown, where 2 ^ k, here p, is the highest power of two within n + 1
module _ (t : ℕ → Bool) (n : ℕ) (falling : Falling t n) (k p : ℕ) (power : p ≡ 2 ^ k) (least : 2 ^ k ≤ n + 1) (most : n + 1 < 2 * 2 ^ k) where
  left_over : n - (n + 1 - p) ≡ 2 ^ k - 1
  left_over = let pos = pow_pos k in omega arith

  asked : 0 < n + 1 - p → Stretch t n (0 + cond (t (0 + (n + 1 - p) - 1)) (n + 1 - p) 0) (2 ^ k - 1)
  asked h =
      let pos = pow_pos k in
      subst (λ (m : ℕ). Stretch t n (0 + cond (t (0 + (n + 1 - p) - 1)) (n + 1 - p) 0) m) left_over
      (stretch_half t n falling 0 n (stretch_all t n) (n + 1 - p) h (omega arith) (omega arith))

  at_first : (b : Bool) → 0 < n + 1 - p → t (n + 1 - p - 1) ≡ b → Stretch t n (cond b (n + 1 - p) 0) (2 ^ k - 1)
  at_first b h e =
      let i : 0 + (n + 1 - p) - 1 ≡ n + 1 - p - 1 = omega arith in
      let c : 0 + cond (t (0 + (n + 1 - p) - 1)) (n + 1 - p) 0 ≡ cond b (n + 1 - p) 0 =
      zero-add _ ∙ ap (λ (a : Bool). cond a (n + 1 - p) 0) (ap t i ∙ e) in
      subst (λ (m : ℕ). Stretch t n m (2 ^ k - 1)) c (asked h)

  pub stretch_first : (base : ℕ)
      → ((0 < n + 1 - p) × (t (n + 1 - p - 1) ≡ true) × (base ≡ n + 1 - p))
      ⊎ ((0 < n + 1 - p) × (t (n + 1 - p - 1) ≡ false) × (base ≡ 0)) ⊎ ((n + 1 - p ≤ 0) × (base ≡ 0))
      → Stretch t n base (2 ^ k - 1)
  stretch_first base (inl w) = subst (λ (m : ℕ). Stretch t n m (2 ^ k - 1)) (sym w.2) (at_first true w.0 w.1)
  stretch_first base (inr (inl w)) = subst (λ (m : ℕ). Stretch t n m (2 ^ k - 1)) (sym w.2) (at_first false w.0 w.1)
  stretch_first base (inr (inr w)) =
      let h = w.0 in
      let z = w.1 in
      let pos = pow_pos k in
      let e : n ≡ 2 ^ k - 1 = omega arith in
      subst₂ (λ (a b : ℕ). Stretch t n a b) (sym z) e (stretch_all t n)

module _ (t : ℕ → Bool) (n : ℕ) (base k : ℕ) (positive : 0 < k) (known : Stretch t n base (2 ^ k - 1)) where
  half_double : 2 ^ k ≡ 2 * 2 ^ (k - 1)
  half_double =
      let e : k ≡ suc (k - 1) = omega arith in
      let d = pow-suc 2 (k - 1) in
      ap (λ (j : ℕ). 2 ^ j) e ∙ (let f : 2 ^ suc (k - 1) ≡ 2 * 2 ^ (k - 1) = omega arith in f)

  -- the number asked is one of the n
  pub digit_within : base + 2 ^ (k - 1) - 1 < n
  digit_within =
      let w = known.within in
      let d = half_double in
      let pos = pow_pos (k - 1) in
      omega arith

  -- one digit of the place, p being its power of two
  pub stretch_digit : Falling t n → (p b : ℕ) → p ≡ 2 ^ (k - 1) → b ≡ cond (t (base + p - 1)) (2 ^ (k - 1)) 0 → Stretch t n (base + b) (2 ^ (k - 1) - 1)
  stretch_digit falling p b e q =
      let d = half_double in
      let pos = pow_pos (k - 1) in
      let s = stretch_half t n falling base (2 ^ k - 1) known (2 ^ (k - 1)) pos (omega arith) (omega arith) in
      let u : 2 ^ k - 1 - 2 ^ (k - 1) ≡ 2 ^ (k - 1) - 1 = omega arith in
      let v : cond (t (base + 2 ^ (k - 1) - 1)) (2 ^ (k - 1)) 0 ≡ b = ap (λ (m : ℕ). cond (t (base + m - 1)) (2 ^ (k - 1)) 0) (sym e) ∙ sym q in
      subst₂ (λ (x y : ℕ). Stretch t n (base + x) y) v u s

-- ---- how many pass is the place

pub falling_count : (t : ℕ → Bool) (n : ℕ) → Falling t n → Stretch t n (count_below n t) 0
unfolding sum_below
falling_count t zero falling = record { within = omega arith; below = λ i l. absurd (omega arith); above = λ i l m. absurd (omega arith) }
falling_count t (suc n) falling =
    by_test (t n) refl (falling_count t n (λ i j l m e. falling i j l (omega arith) e))
  where
    by_test : (b : Bool) → t n ≡ b → Stretch t n (count_below n t) 0 → Stretch t (suc n) (count_below n t + cond b 1 0) 0
    by_test true e s =
        let all : (i : ℕ) → i < suc n → t i ≡ true = λ i l. falling i n (omega arith) (omega arith) e in
        let c = count_below_place t n n (omega arith) (λ i l. all i (omega arith)) (λ i l m. absurd (omega arith)) in
        let k : count_below n t + 1 ≡ suc n = omega arith in
        rw k (record { within = omega arith; below = all; above = λ i l m. absurd (omega arith) })
    by_test false e s =
        let w = s.within in
        record {
          within = omega arith;
          below = λ i l. s.below i (omega arith);
          above = λ i l m.
              let f : i ≤ n = omega arith in
              ⊎_elim (λ (p : i ≡ n). ap t p ∙ e) (λ (p : i < n). s.above i (omega arith) p) (eq-or-lt_of_le f);
        }

-- ---- how many of a list pass, by index

sum_below_front : (n : ℕ) (f : ℕ → ℕ) → sum_below (suc n) f ≡ f 0 + sum_below n (λ (i : ℕ). f (suc i))
unfolding sum_below
sum_below_front zero f = omega arith
sum_below_front (suc n) f = let h = sum_below_front n f in omega arith

pub count_index : (t : ℕ → Bool) (l : List ℕ) → count_of t l ≡ count_below (length l) (λ (i : ℕ). t (get_or l i 0))
unfolding count_of sum_below
count_index t [] = refl
count_index t (x ∷ l) =
    ap (λ (k : ℕ). cond (t x) 1 0 + k) (count_index t l)
    ∙ sym (sum_below_front (length l) (λ (i : ℕ). cond (t (get_or (x ∷ l) i 0)) 1 0))
