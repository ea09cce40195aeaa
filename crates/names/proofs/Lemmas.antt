-- Facts on plain lists and numbers that only this crate needs: the padded name, the packed characters, the count of equal grams, the marks of grams met.
-- Assumes nothing.
use mathlib.Core.Path.{◌≡◌, refl, sym, ap, ap₂, ◌∙◌}
use mathlib.Core.Logic.{⊎_elim}
use mathlib.Core.Bool.{Bool, true, false, cond}
use mathlib.Core.List.{List, ◌++◌}
use Prim.Native.Nat.{ℕ, zero, suc, ◌+◌, ◌-◌, ◌*◌, ◌/◌, ◌%◌, ◌≤◌, ◌<◌}
use native.Mathlib.Nat.{add-zero}
use native.Mathlib.Numerals.{add-one}
use native.Mathlib.Omega.{arith}
use lib.ListN.{length, get_or, set, replicate, length-replicate, get_or-replicate, get_or-append, get_or-eq_default}
use lib.Seq.{get_or-append-add, get_or-set_same, get_or-set_other}
use lib.Dec.{eqb}
use borrow.Author.Tests.{eq-eqb, ne_eqb}
use Rattle.laws.proofs.Order.{le_or_lt, eq_or_ne}
use Rattle.laws.specs.Lists.{tabulate}
use Rattle.laws.proofs.Lists.{length_tabulate, get_d_tabulate, set_tabulate}
use Rattle.names.specs.Features.{padded, packed, gram_at, times_in, number_at, numbers, numbered, gram_length, characters, most_features, features_by}
use Rattle.names.specs.Set.{filled, marks, Ends}
use Rattle.names.specs.declared.FeatureSet.{FeatureSet}

-- ---- the padded name

-- zeros are zeros, within the run and past it
get_d_zeros : (m j : ℕ) → ◌≡◌ {A = ℕ} (get_or (replicate m 0) j 0) 0
get_d_zeros zero j = refl
get_d_zeros (suc m) zero = refl
get_d_zeros (suc m) (suc j) = get_d_zeros m j

-- zeros after a list change no character, since past the end a character is 0
get_d_behind : (s : List ℕ) (m j : ℕ) → get_or (s ++ replicate m 0) j 0 ≡ get_or s j 0
get_d_behind s m j =
    ⊎_elim
    (λ (h : length s ≤ j).
    let e : length s + (j - length s) ≡ j = omega arith in
    ap (λ (n : ℕ). get_or (s ++ replicate m 0) n 0) (sym e)
    ∙ get_or-append-add s (replicate m 0) (j - length s) 0
    ∙ get_d_zeros m (j - length s)
    ∙ sym (get_or-eq_default s 0 h))
    (λ (h : j < length s). get_or-append s (replicate m 0) 0 j h)
    (le_or_lt (length s) j)

pub pad_low : (g : ℕ) (s : List ℕ) (k : ℕ) → k < g - 1 → get_or (padded g s) k 0 ≡ 0
unfolding padded
pad_low g s k h =
    let n : length {A = ℕ} (replicate (g - 1) 0) ≡ g - 1 = length-replicate (g - 1) 0 in
    get_or-append (replicate (g - 1) 0) (s ++ replicate (g - 1) 0) 0 k (rw n h) ∙ get_or-replicate (g - 1) k 0 0 h

pub pad_at : (g : ℕ) (s : List ℕ) (k : ℕ) → g - 1 ≤ k → get_or (padded g s) k 0 ≡ get_or s (k - (g - 1)) 0
unfolding padded
pad_at g s k h =
    let n : length {A = ℕ} (replicate (g - 1) 0) ≡ g - 1 = length-replicate (g - 1) 0 in
    let e : k ≡ length {A = ℕ} (replicate (g - 1) 0) + (k - (g - 1)) = omega arith in
    ap (λ (j : ℕ). get_or (replicate (g - 1) 0 ++ (s ++ replicate (g - 1) 0)) j 0) e
    ∙ get_or-append-add (replicate (g - 1) 0) (s ++ replicate (g - 1) 0) (k - (g - 1)) 0
    ∙ get_d_behind s (g - 1) (k - (g - 1))

-- ---- a gram of three characters, written out

pub gram_three : (s : List ℕ) (i a b c : ℕ)
    → a ≡ get_or (padded gram_length s) i 0 → b ≡ get_or (padded gram_length s) (i + 1) 0 → c ≡ get_or (padded gram_length s) (i + 2) 0
    → a * 65536 + b * 256 + c ≡ gram_at gram_length characters s i
unfolding gram_at packed
gram_three s i a b c p q r =
    let z : get_or (padded gram_length s) (i + 0) 0 ≡ a = rw add-zero (sym p) in
    omega arith

-- before the first gram there are zeros
pub ends_nil : (s : List ℕ) → Ends s 0 0
ends_nil s =
    let a = pad_low gram_length s 0 (omega arith) in
    let b = pad_low gram_length s 1 (omega arith) in
    (omega arith, omega arith)

-- ---- how often a value stands among the first

pub times_nil : (f : ℕ → ℕ) (v : ℕ) → times_in f v 0 ≡ 0
unfolding times_in
times_nil f v = refl

pub times_met : (f : ℕ → ℕ) (v k : ℕ) → f k ≡ v → times_in f v (k + 1) ≡ times_in f v k + 1
unfolding times_in
times_met f v k e = rw (add-one, eq-eqb (f k) v e)

pub times_passed : (f : ℕ → ℕ) (v k : ℕ) → (f k ≡ v → ⊥) → times_in f v (k + 1) ≡ times_in f v k
unfolding times_in
times_passed f v k n = rw (add-one, ne_eqb (f k) v n, add-zero)

-- sequences that agree below k count alike
pub times_ext : (f h : ℕ → ℕ) (v k : ℕ) → ((j : ℕ) → j < k → f j ≡ h j) → times_in f v k ≡ times_in h v k
unfolding times_in
times_ext f h v zero e = refl
times_ext f h v (suc k) e =
    ap₂ (λ (n x : ℕ). n + cond (eqb x v) 1 0) (times_ext f h v k (λ j l. e j (omega arith))) (e k (omega arith))

times_le : (f : ℕ → ℕ) (v k : ℕ) → times_in f v k ≤ k
unfolding times_in
times_le f v zero = omega arith
times_le f v (suc k) = by_test (eqb (f k) v) (times_le f v k)
  where
    by_test : (b : Bool) → times_in f v k ≤ k → times_in f v k + cond b 1 0 ≤ suc k
    by_test true h = omega arith
    by_test false h = omega arith

-- a value's number is at least 1, and at most its place counted from 1
pub number_within : (f : ℕ → ℕ) (i : ℕ) → (1 ≤ number_at f i) × (number_at f i ≤ i + 1)
unfolding number_at
number_within f i = let h = times_le f (f i) i in (omega arith, omega arith)

-- the gram of a feature, told from the feature, where the number is small enough
pub gram_of : (f : ℕ → ℕ) (i : ℕ) → i + 1 < numbers → numbered f i / numbers ≡ f i
unfolding numbered
gram_of f i h = let n = number_within f i in omega arith

-- ---- one feature more

-- where the places hold the first i features, their grams are the first i
pub grams_held : (f : ℕ → ℕ) (m i : ℕ) (items : List ℕ) → i < numbers → items ≡ tabulate (numbered f) i ++ replicate (m - i) 0
    → (j : ℕ) → j < i → get_or items j 0 / numbers ≡ f j
grams_held f m i items k e j l =
    ap (λ (r : List ℕ). get_or r j 0 / numbers) e
    ∙ ap (λ (x : ℕ). x / numbers) (get_or-append (tabulate (numbered f) i) (replicate (m - i) 0) 0 j (rw length_tabulate l) ∙ get_d_tabulate (numbered f) i j 0 l)
    ∙ gram_of f j (omega arith)

-- where the places hold the first i features and z after them, the count among their grams and one more is the number of the next
pub next_feature : (f : ℕ → ℕ) (m i : ℕ) (items : List ℕ) (gram n : ℕ) → i < m → m < numbers
    → items ≡ tabulate (numbered f) i ++ replicate (m - i) 0
    → gram ≡ f i
    → n ≡ times_in (λ (j : ℕ). get_or items j 0 / numbers) gram i
    → set items i (gram * numbers + (n + 1)) ≡ tabulate (numbered f) (i + 1) ++ replicate (m - (i + 1)) 0
unfolding numbered number_at
next_feature f m i items gram n h k e g t =
    let at = grams_held f m i items (omega arith) e in
    let c : n ≡ times_in f (f i) i = t ∙ times_ext (λ (j : ℕ). get_or items j 0 / numbers) f gram i at ∙ ap (λ (v : ℕ). times_in f v i) g in
    ap₂ (λ (r : List ℕ) (x : ℕ). set r i x) e (ap₂ (λ (a b : ℕ). a * numbers + (b + 1)) g c) ∙ set_tabulate (numbered f) m i 0 h

-- ---- marks of the values met

-- a value without its mark is not among the first i of f
abbrev pub Marked : (ℕ → ℕ) → ℕ → List ℕ → Type 0
Marked f i l = (v : ℕ) → get_or l (v % marks) 0 ≡ 0 → times_in f v i ≡ 0

pub marked_nil : (f : ℕ → ℕ) (l : List ℕ) → Marked f 0 l
marked_nil f l v h = times_nil f v

-- the next value has its mark then, and no other loses its own
pub marked_step : (f : ℕ → ℕ) (i : ℕ) (l : List ℕ) (x : ℕ) → length l ≡ marks → x ≡ f i % marks → Marked f i l → Marked f (i + 1) (set l x 1)
marked_step f i l x n e m v h =
    ⊎_elim
    (λ (q : v % marks ≡ x).
    let b : x < length l = rw n (omega arith) in
    let o : ◌≡◌ {A = ℕ} 1 0 = sym (ap (λ (j : ℕ). get_or (set l x 1) j 0) q ∙ get_or-set_same l x 1 0 b) ∙ h in
    absurd (omega arith))
    (λ (q : v % marks ≡ x → ⊥).
    times_passed f v i (λ (p : f i ≡ v). q (ap (λ (y : ℕ). y % marks) (sym p) ∙ sym e))
    ∙ m v (sym (get_or-set_other l x (v % marks) 1 0 q) ∙ h))
    (eq_or_ne (v % marks) x)

-- a gram without its mark is not among the features held
pub marked_none : (f : ℕ → ℕ) (m i : ℕ) (items l : List ℕ) (gram : ℕ) → i < numbers → items ≡ tabulate (numbered f) i ++ replicate (m - i) 0
    → Marked f i l → get_or l (gram % marks) 0 ≡ 0 → times_in (λ (j : ℕ). get_or items j 0 / numbers) gram i ≡ 0
marked_none f m i items l gram k e t h = times_ext (λ (j : ℕ). get_or items j 0 / numbers) f gram i (grams_held f m i items k e) ∙ t gram h

-- the set is whole when its places hold all features
pub filled_whole : (s : List ℕ) (a : FeatureSet) (n : ℕ) → n ≡ length s + 2
    → a.items ≡ tabulate (numbered (gram_at gram_length characters s)) n ++ replicate (most_features - n) 0
    → ◌≡◌ {A = FeatureSet} (record { items = a.items; len = n }) (filled (features_by gram_length characters s))
unfolding features_by
filled_whole s a n l e =
    let f : ℕ → ℕ = numbered (gram_at gram_length characters s) in
    let k : length (tabulate f (length s + 2)) ≡ length s + 2 = length_tabulate f (length s + 2) in
    ap₂ (λ (r : List ℕ) (m : ℕ). (let v : FeatureSet = record { items = r; len = m } in v))
    (e ∙ ap₂ (λ (m j : ℕ). tabulate f m ++ replicate (most_features - j) 0) l (l ∙ sym k))
    (l ∙ sym k)
