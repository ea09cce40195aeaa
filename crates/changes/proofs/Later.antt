-- Postings put in from the last feature to the first: those of later features leave the rows before a feature's place as they were, and the row
-- there if it is the feature's. So places found in the rows as they were hold for the rows as they are by then: `step-met` and `step-new`.
-- Assumes nothing.
use mathlib.Core.Path.{◌≡◌, refl, sym, ap, ◌∙◌}
use mathlib.Core.Logic.{⊎_elim}
use mathlib.Core.Bool.{true, cond}
use mathlib.Core.List.{List, [], ◌∷◌}
use Prim.Native.Nat.{ℕ, suc, ◌+◌, ◌≤◌, ◌<◌}
use native.Mathlib.Numerals.{add-one}
use native.Mathlib.Omega.{arith}
use lib.ListN.{length, get_or, take, drop, length-map}
use lib.Seq.{get_or-take, drop-cons}
use lib.Dec.{ltb}
use Rattle.laws.specs.Lists.{member, AllAbove, Ascending, count_of}
use Rattle.laws.proofs.Images.{get_d_map_lt}
use Rattle.laws.proofs.Lists.{count_le}
use Rattle.laws.proofs.Members.{member_head, member_tail}
use Rattle.laws.proofs.Order.{le_or_lt}
use Rattle.laws.proofs.Sort.{above_member, ascending_rest}
use Rattle.words.specs.Words.{key_of}
use Rattle.index_writer.specs.Built.{Row, no_row}
use Rattle.binary_search.specs.Seats.{place_of}
use Rattle.changes.specs.Rows.{keys_in, put_posting, with_postings}
use Rattle.changes.proofs.Lists.{place_nil, place_passed, place_over, place_first, place_next, drop_above}
use Rattle.changes.proofs.Put.{put_nil, put_cases, put_keys}
use Rattle.changes.proofs.Added.{postings_cons}

-- ---- one posting: the rows of keys below x, where x is not above its key

module _ (x key id : ℕ) (low : x ≤ key) where
  place_put : (rows : List Row) → place_of x (keys_in (put_posting key id rows)) ≡ place_of x (keys_in rows)
  unfolding count_of
  place_put [] = ap (λ (l : List Row). place_of x (keys_in l)) (put_nil key id) ∙ place_over x key [] low
  place_put (r ∷ rs) =
      put_cases key id r rs (λ (l : List Row). place_of x (keys_in l) ≡ place_of x (keys_in (r ∷ rs)))
      (λ h. ap (λ (n : ℕ). cond (ltb r.key x) 1 0 + n) (place_put rs))
      (λ e. refl)
      (λ h. place_over x key (keys_in (r ∷ rs)) low)

  take_put : (rows : List Row) → Ascending (keys_in rows) → take (place_of x (keys_in rows)) (put_posting key id rows) ≡ take (place_of x (keys_in rows)) rows
  take_put [] a = rw (place_nil x)
  take_put (r ∷ rs) a =
      put_cases key id r rs (λ (l : List Row). take (place_of x (keys_in (r ∷ rs))) l ≡ take (place_of x (keys_in (r ∷ rs))) (r ∷ rs))
      (λ h.
      ⊎_elim
      (λ (b : x ≤ r.key). rw (place_first x r.key (keys_in rs) a b))
      (λ (b : r.key < x). rw (place_passed x r.key (keys_in rs) b) (ap (λ (l : List Row). r ∷ l) (take_put rs (ascending_rest r.key (keys_in rs) a))))
      (le_or_lt x r.key))
      (λ e. let b : x ≤ r.key = omega arith in rw (place_first x r.key (keys_in rs) a b))
      (λ h. let b : x ≤ r.key = omega arith in rw (place_first x r.key (keys_in rs) a b))

-- ---- the postings of features

pub postings_keys : (size id : ℕ) (fs : List ℕ) (rows : List Row) → Ascending (keys_in rows) → Ascending (keys_in (with_postings size fs id rows))
unfolding with_postings
postings_keys size id [] rows a = a
postings_keys size id (f ∷ fs) rows a = put_keys (key_of size f) id (with_postings size fs id rows) (postings_keys size id fs rows a)

pub place_postings : (x size id : ℕ) (fs : List ℕ) (rows : List Row) → ((f : ℕ) → member f fs ≡ true → x ≤ key_of size f)
    → place_of x (keys_in (with_postings size fs id rows)) ≡ place_of x (keys_in rows)
unfolding with_postings
place_postings x size id [] rows h = refl
place_postings x size id (f ∷ fs) rows h =
    place_put x (key_of size f) id (h f (member_head f fs)) (with_postings size fs id rows)
    ∙ place_postings x size id fs rows (λ g m. h g (member_tail f g fs m))

pub take_postings : (x size id : ℕ) (fs : List ℕ) (rows : List Row) → Ascending (keys_in rows) → ((f : ℕ) → member f fs ≡ true → x ≤ key_of size f)
    → take (place_of x (keys_in rows)) (with_postings size fs id rows) ≡ take (place_of x (keys_in rows)) rows
unfolding with_postings
take_postings x size id [] rows a h = refl
take_postings x size id (f ∷ fs) rows a h =
    ap (λ (n : ℕ). take n (put_posting (key_of size f) id (with_postings size fs id rows))) (sym place)
    ∙ take_put x (key_of size f) id (h f (member_head f fs)) (with_postings size fs id rows) (postings_keys size id fs rows a)
    ∙ ap (λ (n : ℕ). take n (with_postings size fs id rows)) place
    ∙ take_postings x size id fs rows a (λ g m. h g (member_tail f g fs m))
  where
    place : place_of x (keys_in (with_postings size fs id rows)) ≡ place_of x (keys_in rows)
    place = place_postings x size id fs rows (λ g m. h g (member_tail f g fs m))

-- a row of the key k, where the rows up to that key are the same
same_row : (a b : List Row) (k i : ℕ) → Ascending (keys_in a) → i < length a → (get_or a i no_row).key ≡ k
    → place_of (suc k) (keys_in b) ≡ place_of (suc k) (keys_in a) → take (place_of (suc k) (keys_in a)) b ≡ take (place_of (suc k) (keys_in a)) a
    → (i < length b) × (get_or b i no_row ≡ get_or a i no_row)
same_row a b k i up h q p t = (
  (let c = count_le (λ (y : ℕ). ltb y (suc k)) (keys_in b) in let l = length-map b (λ (r : Row). r.key) in let n = next in omega arith),
  sym (get_or-take (suc i) b i no_row (omega arith))
      ∙ ap (λ (l : List Row). get_or l i no_row) (rw next at t)
      ∙ get_or-take (suc i) a i no_row (omega arith),
)
  where
    next : place_of (suc k) (keys_in a) ≡ suc i
    next =
        let l = length-map a (λ (r : Row). r.key) in
        ap (λ (y : ℕ). place_of (suc y) (keys_in a)) (sym (get_d_map_lt (λ (r : Row). r.key) a i no_row 0 h ∙ q))
        ∙ place_next (keys_in a) up i (omega arith)

-- ---- features above f, put in already

module _ (size f id : ℕ) (fs : List ℕ) (rows : List Row) (up : Ascending (keys_in rows)) (above : AllAbove f fs) where
  abbrev key : ℕ
  key = key_of size f

  abbrev now : List Row
  now = with_postings size fs id rows

  at_least : (g : ℕ) → member g fs ≡ true → key ≤ key_of size g
  at_least g m = let b = above_member f fs above g m in omega arith

  higher : (g : ℕ) → member g fs ≡ true → suc key ≤ key_of size g
  higher g m = let b = above_member f fs above g m in omega arith

  -- the place of f is the same
  pub later_place : place_of key (keys_in now) ≡ place_of key (keys_in rows)
  later_place = place_postings key size id fs rows at_least

  -- the rows before it are the same
  pub later_take : take (place_of key (keys_in rows)) now ≡ take (place_of key (keys_in rows)) rows
  later_take = take_postings key size id fs rows up at_least

-- ---- the features of a name from the last to the first, by place in the rows as they were

module _ (size id : ℕ) (fs : List ℕ) (rows : List Row) (up : Ascending (keys_in rows)) (rise : Ascending fs) (j : ℕ) (h : j < length fs) where
  abbrev key_at : ℕ
  key_at = key_of size (get_or fs j 0)

  abbrev before : List Row
  before = with_postings size (drop (j + 1) fs) id rows

  pub step : with_postings size (drop j fs) id rows ≡ put_posting key_at id before
  step =
      ap (λ (l : List ℕ). with_postings size l id rows) (drop-cons fs j 0 h)
      ∙ postings_cons size (get_or fs j 0) (drop (suc j) fs) id rows
      ∙ ap (λ (n : ℕ). put_posting key_at id (with_postings size (drop n fs) id rows)) (sym (add-one j))

  above_rest : AllAbove (get_or fs j 0) (drop (j + 1) fs)
  above_rest = rw (add-one j) (drop_above fs rise j h)

  place_before : (i : ℕ) → i ≡ place_of key_at (keys_in rows) → i ≡ place_of key_at (keys_in before)
  place_before i e = e ∙ sym (later_place size (get_or fs j 0) id (drop (j + 1) fs) rows up above_rest)

  take_before : (i : ℕ) → i ≡ place_of key_at (keys_in rows) → take i before ≡ take i rows
  take_before i e = rw e (later_take size (get_or fs j 0) id (drop (j + 1) fs) rows up above_rest)
