-- Laws of names and their features that the layers above cite: how many features a name has, that they are all different,
-- that each fits 32 bits, how equal grams are numbered. Laws of shared features are in Shared.antt.
-- Assumes nothing.
use mathlib.Core.Path.{◌≡◌, refl, sym, ap, ◌∙◌}
use mathlib.Core.Logic.{⊎_elim}
use mathlib.Core.Bool.{true, false}
use mathlib.Core.List.{List, []}
use Prim.Native.Nat.{ℕ, zero, suc, ◌+◌, ◌-◌, ◌*◌, ◌/◌, ◌%◌, ◌^◌, ◌≤◌, ◌<◌}
use native.Mathlib.Nat.{mul-le-mul_right, suc-mul, pow-zero, pow-suc}
use native.Mathlib.Omega.{arith}
use lib.ListN.{length, get_or, get_or-eq_default}
use lib.Dec.{eqb, ltb, lit<}
use borrow.Author.Tests.{eq-eqb, ne_eqb, eqb-false, lt-ltb, le-ltb, ltb-false}
use Rattle.laws.specs.Lists.{member, Distinct}
use Rattle.laws.specs.Cases.{first_case, all_numbers, all_numbered}
use Rattle.laws.proofs.Lists.{distinct_nil, length_tabulate, get_d_tabulate, distinct_tabulate}
use Rattle.laws.proofs.Members.{member_place}
use Rattle.laws.proofs.Below.{any_of}
use Rattle.laws.proofs.Tests.{test_fails, test_failed}
use Rattle.laws.proofs.Cases.{first_passed}
use Rattle.laws.proofs.Order.{le_or_lt, eq_or_ne}
use Rattle.names.specs.Names.{longest, is_control, has_control, name_cases, judge_of}
use Rattle.names.specs.Features.{padded, packed, gram_at, size_of, times_in, number_at, numbers, numbered, features_by, gram_length, characters, most_features, features_of}
use Rattle.names.proofs.Lemmas.{times_met, times_passed, number_within, gram_of, pad_low, pad_at}

-- ---- the judgement of a name, case by case

-- a name without a control character has no 0 byte
no_zero : (s : List ℕ) → has_control s ≡ false → member 0 s ≡ false
unfolding has_control
no_zero s k =
    test_fails (member 0 s)
    (λ m.
    let p = member_place 0 s m in
    test_failed (has_control s) k (any_of (length s) (λ (i : ℕ). is_control (get_or s i 0)) p.0 p.1 (ap is_control p.2)))

pub judge_empty : (s : List ℕ) → length s ≡ 0 → judge_of s ≡ 1
unfolding judge_of first_case
judge_empty s e = rw (eq-eqb (length s) 0 e)

pub judge_long : (s : List ℕ) → longest < length s → judge_of s ≡ 2
unfolding judge_of first_case
judge_long s h = rw (ne_eqb (length s) 0 (λ e. omega arith), lt-ltb longest (length s) h)

module _ (s : List ℕ) (some : length s ≡ 0 → ⊥) (short : length s ≤ longest) where
  pub judge_zero : member 0 s ≡ true → judge_of s ≡ 3
  unfolding judge_of first_case
  judge_zero z = rw (ne_eqb (length s) 0 some, le-ltb longest (length s) short, z)

  pub judge_control : member 0 s ≡ false → has_control s ≡ true → judge_of s ≡ 12
  unfolding judge_of first_case
  judge_control z k = rw (ne_eqb (length s) 0 some, le-ltb longest (length s) short, z, k)

  pub judge_good : has_control s ≡ false → judge_of s ≡ 0
  unfolding judge_of first_case
  judge_good k = rw (ne_eqb (length s) 0 some, le-ltb longest (length s) short, no_zero s k, k)

-- what a name that is judged 0 is: no case applies
pub good_name : (s : List ℕ) → judge_of s ≡ 0 → (1 ≤ length s) × (length s ≤ longest) × (member 0 s ≡ false) × (has_control s ≡ false)
unfolding judge_of
good_name s g =
    let empty = first_passed 1 (eqb (length s) 0) _ (λ e. omega arith) g in
    let long = first_passed 2 (ltb longest (length s)) _ (λ e. omega arith) empty.1 in
    let zeros = first_passed 3 (member 0 s) _ (λ e. omega arith) long.1 in
    let controls = first_passed 12 (has_control s) _ (λ e. omega arith) zeros.1 in
    let some = eqb-false (length s) 0 empty.0 in
    (omega arith, ltb-false longest (length s) long.0, zeros.0, controls.0)

-- no refusal of a name has the number 0: a list of cases may put its own after them
pub names_numbered : (s : List ℕ) → all_numbered (name_cases s) ≡ true
unfolding all_numbers
names_numbered s = refl

-- ---- how equal values are numbered

-- the first of its kind has number 1
pub number_first : (f : ℕ → ℕ) (i : ℕ) → ((j : ℕ) → j < i → f j ≡ f i → ⊥) → number_at f i ≡ 1
unfolding number_at times_in
number_first f i n = let h = none i (omega arith) in omega arith
  where
    none : (k : ℕ) → k ≤ i → times_in f (f i) k ≡ 0
    none zero l = refl
    none (suc k) l = rw (ne_eqb (f k) (f i) (n k (omega arith)), none k (omega arith))

-- the next of its kind has the next number
pub number_next : (f : ℕ → ℕ) (i j : ℕ) → i < j → f i ≡ f j → ((k : ℕ) → i < k → k < j → f k ≡ f j → ⊥) → number_at f j ≡ number_at f i + 1
unfolding number_at
number_next f i j l e n =
    let m : j ≡ (i + 1) + (j - (i + 1)) = omega arith in
    let t = between (j - (i + 1)) (omega arith) in
    let u = times_met f (f j) i e in
    let v = ap (λ (w : ℕ). times_in f w i) e in
    let w = ap (times_in f (f j)) m in
    omega arith
  where
    between : (d : ℕ) → (i + 1) + d ≤ j → times_in f (f j) ((i + 1) + d) ≡ times_in f (f j) (i + 1)
    between zero h = ap (times_in f (f j)) (let a : (i + 1) + 0 ≡ i + 1 = omega arith in a)
    between (suc d) h =
        let a : (i + 1) + suc d ≡ ((i + 1) + d) + 1 = omega arith in
        ap (times_in f (f j)) a ∙ times_passed f (f j) ((i + 1) + d) (n ((i + 1) + d) (omega arith) (omega arith)) ∙ between d (omega arith)

-- a later equal value has a larger number
pub number_rises : (f : ℕ → ℕ) (i j : ℕ) → i < j → f i ≡ f j → number_at f i < number_at f j
unfolding number_at times_in
number_rises f i j l e =
    let v = ap (λ (w : ℕ). times_in f w i) e in
    let u = times_met f (f j) i e in
    let m : j ≡ (i + 1) + (j - (i + 1)) = omega arith in
    let w = ap (times_in f (f j)) m in
    let t = times_up (f j) (i + 1) (j - (i + 1)) in
    omega arith
  where
    times_up : (v k d : ℕ) → times_in f v k ≤ times_in f v (k + d)
    times_up v k zero = let a = ap (times_in f v) (let b : k + 0 ≡ k = omega arith in b) in omega arith
    times_up v k (suc d) =
        let h = times_up v k d in
        let a = ap (times_in f v) (let b : k + suc d ≡ suc (k + d) = omega arith in b) in
        omega arith

-- ---- a feature is its gram and its number

-- two of fewer than `numbers` features are different
pub numbered_apart : (f : ℕ → ℕ) (i j : ℕ) → i < j → j + 1 < numbers → numbered f i ≡ numbered f j → ⊥
unfolding numbered
numbered_apart f i j l h e =
    let p = gram_of f i (omega arith) in
    let q = gram_of f j h in
    let g : f i ≡ f j = sym p ∙ ap (λ (x : ℕ). x / numbers) e ∙ q in
    let r = number_rises f i j l g in
    clash g r e
  where
    clash : f i ≡ f j → number_at f i < number_at f j → numbered f i ≡ numbered f j → ⊥
    clash g r e = omega arith

-- ---- the features of a name

module _ (g w : ℕ) (s : List ℕ) where
  pub length_features_by : length (features_by g w s) ≡ size_of g (length s)
  unfolding features_by
  length_features_by = length_tabulate (numbered (gram_at g w s)) (size_of g (length s))

  pub distinct_features_by : size_of g (length s) < numbers → Distinct (features_by g w s)
  unfolding features_by
  distinct_features_by h =
      distinct_tabulate (numbered (gram_at g w s)) (size_of g (length s)) (λ i j l m. numbered_apart (gram_at g w s) i j l (omega arith))

-- a good name has the features of its grams
pub features_good : (s : List ℕ) → judge_of s ≡ 0 → features_of s ≡ features_by gram_length characters s
unfolding features_of
features_good s e = rw (eq-eqb (judge_of s) 0 e)

-- a refused name has none
pub features_refused : (s : List ℕ) → (judge_of s ≡ 0 → ⊥) → features_of s ≡ []
unfolding features_of
features_refused s n = rw (ne_eqb (judge_of s) 0 n)

-- a good name of n bytes has n + 2 features
pub length_features : (s : List ℕ) → judge_of s ≡ 0 → length (features_of s) ≡ length s + 2
length_features s e = ap length (features_good s e) ∙ length_features_by gram_length characters s

-- and so from 3 to the most
pub size_within : (s : List ℕ) → judge_of s ≡ 0 → (3 ≤ length (features_of s)) × (length (features_of s) ≤ most_features)
size_within s e =
    let n = length_features s e in
    let g = good_name s e in
    (omega arith, omega arith)

-- of any string, never more than the most
pub size_most : (s : List ℕ) → length (features_of s) ≤ most_features
size_most s =
    ⊎_elim
    (λ (e : judge_of s ≡ 0). (size_within s e).1)
    (λ (n : judge_of s ≡ 0 → ⊥). let h = ap length (features_refused s n) in omega arith)
    (eq_or_ne (judge_of s) 0)

-- a name's features are all different, whatever the string
pub distinct_features : (s : List ℕ) → Distinct (features_of s)
distinct_features s =
    ⊎_elim
    (λ (e : judge_of s ≡ 0).
    let g = good_name s e in
    rw (features_good s e) (distinct_features_by gram_length characters s (omega arith)))
    (λ (n : judge_of s ≡ 0 → ⊥). rw (features_refused s n) distinct_nil)
    (eq_or_ne (judge_of s) 0)

-- ---- a feature fits 32 bits

-- k characters below w, packed, are below w to the k
packed_below : (w : ℕ) (l : List ℕ) → ((j : ℕ) → get_or l j 0 < w) → (i k : ℕ) → packed w l i k < w ^ k
unfolding packed
packed_below w l b i zero = rw (pow-zero w) (lit< tt)
packed_below w l b i (suc k) =
    let h : suc (packed w l i k) * w ≤ w ^ k * w = mul-le-mul_right w (packed_below w l b i k) in
    let e : suc (packed w l i k) * w ≡ packed w l i k * w + w = suc-mul (packed w l i k) w in
    let p : w ^ suc k ≡ w ^ k * w = pow-suc w k in
    let c : get_or l (i + k) 0 < w = b (i + k) in
    omega arith

padded_below : (g w : ℕ) (s : List ℕ) → ((j : ℕ) → get_or s j 0 < w) → (k : ℕ) → get_or (padded g s) k 0 < w
padded_below g w s b k =
    ⊎_elim
    (λ (h : g - 1 ≤ k). rw (pad_at g s k h) (b (k - (g - 1))))
    (λ (h : k < g - 1). rw (pad_low g s k h) (let z = b 0 in omega arith))
    (le_or_lt (g - 1) k)

-- the grams of characters below w are below w to the gram's length
pub gram_below : (g w : ℕ) (s : List ℕ) → ((j : ℕ) → get_or s j 0 < w) → (i : ℕ) → gram_at g w s i < w ^ g
unfolding gram_at
gram_below g w s b i = packed_below w (padded g s) (padded_below g w s b) i g

-- each feature of bytes fits 32 bits, as long as they are no more than a name has
pub feature_fits_by : (s : List ℕ) → ((j : ℕ) → get_or s j 0 < characters) → length s ≤ longest → (i : ℕ)
    → get_or (features_by gram_length characters s) i 0 < 2 ^ 32
unfolding features_by numbered
feature_fits_by s b short i =
    ⊎_elim
    (λ (h : size_of gram_length (length s) ≤ i).
    rw (get_or-eq_default (features_by gram_length characters s) 0 {n = i} (rw (length_features_by gram_length characters s) h)) (lit< tt))
    (λ (h : i < size_of gram_length (length s)).
    let n = number_within (gram_at gram_length characters s) i in
    let m : gram_at gram_length characters s i < 16777216 = gram_below gram_length characters s b i in
    rw (get_d_tabulate (numbered (gram_at gram_length characters s)) (size_of gram_length (length s)) i 0 h) (omega arith))
    (le_or_lt (size_of gram_length (length s)) i)

-- so does each feature of a name
pub feature_fits : (s : List ℕ) → ((j : ℕ) → get_or s j 0 < characters) → (i : ℕ) → get_or (features_of s) i 0 < 2 ^ 32
feature_fits s b i =
    ⊎_elim
    (λ (e : judge_of s ≡ 0). rw (features_good s e) (feature_fits_by s b (good_name s e).1 i))
    (λ (n : judge_of s ≡ 0 → ⊥). rw (features_refused s n) (lit< tt))
    (eq_or_ne (judge_of s) 0)

-- its number is at least 1 and at most most_features
pub number_most : (s : List ℕ) → judge_of s ≡ 0 → (i : ℕ) → i < length (features_of s)
    → (1 ≤ get_or (features_of s) i 0 % numbers) × (get_or (features_of s) i 0 % numbers ≤ most_features)
unfolding features_by numbered
number_most s e i l =
    let g = good_name s e in
    let k = length_features s e in
    let n = number_within (gram_at gram_length characters s) i in
    let h : i < size_of gram_length (length s) = omega arith in
    rw (features_good s e, get_d_tabulate (numbered (gram_at gram_length characters s)) (size_of gram_length (length s)) i 0 h) (omega arith, omega arith)
