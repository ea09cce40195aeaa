-- Laws of one posting put into rows: the rows stay runs of ascending postings, and have that posting more; the rows by place.
-- Assumes nothing.
use mathlib.Core.Path.{◌≡◌, refl, sym, ap, ap₂, ◌∙◌}
use mathlib.Core.Logic.{⊎_elim}
use mathlib.Core.Bool.{Bool, true, false, ◌||◌, true≢false, or_assoc, or_self_left}
use mathlib.Core.List.{List, [], ◌∷◌, ◌++◌, map}
use Prim.Native.Nat.{ℕ, zero, suc, ◌+◌, ◌*◌, ◌≤◌, ◌<◌}
use native.Mathlib.Omega.{arith}
use lib.ListN.{length, get_or, take, drop}
use lib.Dec.{eqb}
use borrow.Author.Tests.{lt-ltb, le-ltb, eq-eqb, ne_eqb}
use Rattle.laws.specs.Lists.{member, Ascending}
use Rattle.laws.specs.Each.{Each}
use Rattle.laws.specs.Sort.{insert}
use Rattle.laws.proofs.Lists.{member_append}
use Rattle.laws.proofs.Members.{member_cases, member_one, member_right, each_cons, each_first, each_rest}
use Rattle.laws.proofs.Order.{le_or_lt, eq_or_ne}
use Rattle.laws.proofs.Sort.{above_member, above_members, ascending_one, ascending_cons, ascending_above, ascending_rest, ascending_unique, insert_nil, insert_met, insert_passed, length_insert, member_insert}
use Rattle.laws.proofs.Tests.{test_fails}
use Rattle.index_writer.specs.Built.{Row, no_row, id_span, row_triples, triples_from, RowFit, RowsFit}
use Rattle.index_writer.proofs.Runs.{triples_member, triples_ascending}
use Rattle.binary_search.specs.Seats.{place_of}
use Rattle.changes.specs.Rows.{keys_in, lone_row, row_with, put_posting}
use Rattle.changes.proofs.Lists.{place_nil, place_passed, place_below, ascending_insert}

-- ---- the steps

pub put_nil : (key id : ℕ) → put_posting key id [] ≡ lone_row key id ∷ []
unfolding put_posting
put_nil key id = refl

module _ (key id : ℕ) (r : Row) (rs : List Row) where
  pub put_passed : r.key < key → put_posting key id (r ∷ rs) ≡ r ∷ put_posting key id rs
  unfolding put_posting
  put_passed h = rw (lt-ltb r.key key h)

  pub put_same : r.key ≡ key → put_posting key id (r ∷ rs) ≡ row_with id r ∷ rs
  unfolding put_posting
  put_same e = let h : key ≤ r.key = omega arith in rw (le-ltb r.key key h, eq-eqb r.key key e)

  pub put_before : key < r.key → put_posting key id (r ∷ rs) ≡ lone_row key id ∷ r ∷ rs
  unfolding put_posting
  put_before h =
      let g : key ≤ r.key = omega arith in
      let n : r.key ≡ key → ⊥ = λ e. omega arith in
      rw (le-ltb r.key key g, ne_eqb r.key key n)

  -- what holds in each of the three cases holds
  pub put_cases : (P : List Row → Type 0)
      → (r.key < key → P (r ∷ put_posting key id rs))
      → (r.key ≡ key → P (row_with id r ∷ rs))
      → (key < r.key → P (lone_row key id ∷ r ∷ rs))
      → P (put_posting key id (r ∷ rs))
  put_cases P passed same before =
      ⊎_elim
      (λ (h : key ≤ r.key).
      ⊎_elim
      (λ (e : r.key ≡ key). rw (put_same e) (same e))
      (λ (n : r.key ≡ key → ⊥). let g : key < r.key = omega arith in rw (put_before g) (before g))
      (eq_or_ne r.key key))
      (λ (h : r.key < key). rw (put_passed h) (passed h))
      (le_or_lt key r.key)

-- ---- tests

or_swap : (a b c : Bool) → a || (b || c) ≡ b || (a || c)
or_swap true true c = refl
or_swap true false c = refl
or_swap false b c = refl

-- ---- the keys

-- that key more, unless it was there
pub key_put : (key id k : ℕ) (rows : List Row) → member k (keys_in (put_posting key id rows)) ≡ member k (key ∷ keys_in rows)
unfolding member
key_put key id k [] = ap (λ (l : List Row). member k (keys_in l)) (put_nil key id)
key_put key id k (r ∷ rs) =
    put_cases key id r rs (λ (l : List Row). member k (keys_in l) ≡ member k (key ∷ keys_in (r ∷ rs)))
    (λ h. ap (λ (b : Bool). eqb k r.key || b) (key_put key id k rs) ∙ or_swap (eqb k r.key) (eqb k key) (member k (keys_in rs)))
    (λ e. sym (or_self_left (eqb k r.key) (member k (keys_in rs))) ∙ ap (λ (y : ℕ). eqb k y || member k (keys_in (r ∷ rs))) e)
    (λ h. refl)

pub put_keys : (key id : ℕ) (rows : List Row) → Ascending (keys_in rows) → Ascending (keys_in (put_posting key id rows))
put_keys key id [] a = rw (put_nil key id) (ascending_one key)
put_keys key id (r ∷ rs) a =
    put_cases key id r rs (λ (l : List Row). Ascending (keys_in l))
    (λ h. ascending_cons r.key (keys_in (put_posting key id rs)) (above_members r.key (keys_in (put_posting key id rs)) (later h)) (put_keys key id rs (ascending_rest r.key (keys_in rs) a)))
    (λ e. a)
    (λ h. ascending_cons key (keys_in (r ∷ rs)) (above_members key (keys_in (r ∷ rs)) (first h)) a)
  where
    above : (k : ℕ) → member k (keys_in rs) ≡ true → r.key < k
    above k m = above_member r.key (keys_in rs) (ascending_above r.key (keys_in rs) a) k m

    later : r.key < key → (k : ℕ) → member k (keys_in (put_posting key id rs)) ≡ true → r.key < k
    later h k m = ⊎_elim (λ (e : k ≡ key). omega arith) (λ (n : member k (keys_in rs) ≡ true). above k n) (member_cases key k (keys_in rs) (sym (key_put key id k rs) ∙ m))

    first : key < r.key → (k : ℕ) → member k (keys_in (r ∷ rs)) ≡ true → key < k
    first h k m = ⊎_elim (λ (e : k ≡ r.key). omega arith) (λ (n : member k (keys_in rs) ≡ true). let b = above k n in omega arith) (member_cases r.key k (keys_in rs) m)

-- ---- the postings

member_map_insert : (f : ℕ → ℕ) (z x : ℕ) (l : List ℕ) → member z (map f (insert x l)) ≡ member z (f x ∷ map f l)
unfolding member
member_map_insert f z x [] = ap (λ (k : List ℕ). member z (map f k)) (insert_nil x)
member_map_insert f z x (y ∷ l) =
    ⊎_elim
    (λ (h : x ≤ y). ap (λ (k : List ℕ). member z (map f k)) (insert_met x y l h))
    (λ (h : y < x).
    ap (λ (k : List ℕ). member z (map f k)) (insert_passed x y l h)
    ∙ ap (λ (b : Bool). eqb z (f y) || b) (member_map_insert f z x l)
    ∙ or_swap (eqb z (f y)) (eqb z (f x)) (member z (map f l)))
    (le_or_lt x y)

-- one posting more
pub member_put : (key id z : ℕ) (rows : List Row) → member z (triples_from (put_posting key id rows)) ≡ member z ((key * id_span + id) ∷ triples_from rows)
unfolding triples_from row_triples member
member_put key id z [] = ap (λ (l : List Row). member z (triples_from l)) (put_nil key id)
member_put key id z (r ∷ rs) =
    put_cases key id r rs (λ (l : List Row). member z (triples_from l) ≡ member z ((key * id_span + id) ∷ triples_from (r ∷ rs)))
    (λ h.
    member_append z (row_triples r) (triples_from (put_posting key id rs))
    ∙ ap (λ (b : Bool). member z (row_triples r) || b) (member_put key id z rs)
    ∙ or_swap (member z (row_triples r)) (eqb z (key * id_span + id)) (member z (triples_from rs))
    ∙ ap (λ (b : Bool). eqb z (key * id_span + id) || b) (sym (member_append z (row_triples r) (triples_from rs))))
    (λ e.
    member_append z (row_triples (row_with id r)) (triples_from rs)
    ∙ ap (λ (b : Bool). b || member z (triples_from rs)) (member_map_insert (λ (y : ℕ). r.key * id_span + y) z id r.list)
    ∙ or_assoc (eqb z (r.key * id_span + id)) (member z (row_triples r)) (member z (triples_from rs))
    ∙ ap₂ (λ (k : ℕ) (b : Bool). eqb z (k * id_span + id) || b) e (sym (member_append z (row_triples r) (triples_from rs))))
    (λ h. refl)

-- ---- fit rows stay fit

module _ (key id : ℕ) (low : id < id_span) where
  lone_fit : RowFit (lone_row key id)
  lone_fit = record { some = omega arith; up = ascending_one id; ids = λ x m. let e = member_one id x m in omega arith }

  grown_fit : (r : Row) → RowFit r → member id r.list ≡ false → RowFit (row_with id r)
  grown_fit r f n =
      record {
        some = (let e = length_insert id r.list in omega arith);
        up = ascending_insert id r.list f.up n;
        ids = λ x m.
            ⊎_elim
            (λ (e : x ≡ id). omega arith)
            (λ (o : member x r.list ≡ true). f.ids x o)
            (member_cases id x r.list (sym (member_insert x id r.list) ∙ m));
      }

  each_put : (rows : List Row) → Each RowFit rows → member (key * id_span + id) (triples_from rows) ≡ false → Each RowFit (put_posting key id rows)
  unfolding triples_from
  each_put [] f n = rw (put_nil key id) (each_cons RowFit (lone_row key id) [] lone_fit f)
  each_put (r ∷ rs) f n =
      put_cases key id r rs (Each RowFit)
      (λ h. each_cons RowFit r (put_posting key id rs) (each_first RowFit r rs f) (each_put rs (each_rest RowFit r rs f) (test_fails (member (key * id_span + id) (triples_from rs)) later)))
      (λ e. each_cons RowFit (row_with id r) rs (grown_fit r (each_first RowFit r rs f) (test_fails (member id r.list) (first e))) (each_rest RowFit r rs f))
      (λ h. each_cons RowFit (lone_row key id) (r ∷ rs) lone_fit f)
    where
      first : r.key ≡ key → member id r.list ≡ true → ⊥
      first e m =
          true≢false
          (sym (triples_member (r ∷ rs) 0 id (omega arith) m)
          ∙ ap (λ (k : ℕ). member (k * id_span + id) (triples_from (r ∷ rs))) e
          ∙ n)

      later : member (key * id_span + id) (triples_from rs) ≡ true → ⊥
      later m = true≢false (sym (member_right (key * id_span + id) (row_triples r) (triples_from rs) m) ∙ n)

  module _ (rows : List Row) (fit : RowsFit rows) (new : member (key * id_span + id) (triples_from rows) ≡ false) where
    pub fit_put : RowsFit (put_posting key id rows)
    fit_put = record { keys = put_keys key id rows fit.keys; each = each_put rows fit.each new }

    -- the postings in order: one put in at its place
    pub triples_put : triples_from (put_posting key id rows) ≡ insert (key * id_span + id) (triples_from rows)
    triples_put =
        ascending_unique (triples_from (put_posting key id rows)) (insert (key * id_span + id) (triples_from rows))
        (triples_ascending (put_posting key id rows) fit_put)
        (ascending_insert (key * id_span + id) (triples_from rows) (triples_ascending rows fit) new)
        (λ z. member_put key id z rows ∙ sym (member_insert z (key * id_span + id) (triples_from rows)))

-- ---- by place

-- there is a row of that key: its list grows
pub put_met : (key id : ℕ) (rows : List Row) → Ascending (keys_in rows) → (i : ℕ) → i ≡ place_of key (keys_in rows)
    → i < length rows → (get_or rows i no_row).key ≡ key
    → put_posting key id rows ≡ take i rows ++ row_with id (get_or rows i no_row) ∷ drop (i + 1) rows
put_met key id [] a i e h q = absurd (omega arith)
put_met key id (r ∷ rs) a zero e h q = put_same key id r rs q
put_met key id (r ∷ rs) a (suc i) e h q =
    let n : suc (i + 1) ≡ suc i + 1 = omega arith in
    put_passed key id r rs below
    ∙ ap (λ (l : List Row). r ∷ l) (put_met key id rs (ascending_rest r.key (keys_in rs) a) i (let p = place_passed key r.key (keys_in rs) below in omega arith) (omega arith) q)
    ∙ ap (λ (m : ℕ). r ∷ (take i rs ++ row_with id (get_or rs i no_row) ∷ drop m (r ∷ rs))) n
  where
    below : r.key < key
    below = place_below key r.key (keys_in rs) a (omega arith)

-- there is none: a new row
pub put_new : (key id : ℕ) (rows : List Row) → Ascending (keys_in rows) → (i : ℕ) → i ≡ place_of key (keys_in rows)
    → (i < length rows → (get_or rows i no_row).key ≡ key → ⊥)
    → put_posting key id rows ≡ take i rows ++ lone_row key id ∷ drop i rows
put_new key id [] a zero e n = put_nil key id
put_new key id [] a (suc i) e n = let p = place_nil key in absurd (omega arith)
put_new key id (r ∷ rs) a zero e n = put_before key id r rs above
  where
    above : key < r.key
    above =
        ⊎_elim
        (λ (h : key ≤ r.key). let d : r.key ≡ key → ⊥ = n (omega arith) in omega arith)
        (λ (h : r.key < key). let p = place_passed key r.key (keys_in rs) h in omega arith)
        (le_or_lt key r.key)
put_new key id (r ∷ rs) a (suc i) e n =
    put_passed key id r rs below
    ∙ ap (λ (l : List Row). r ∷ l) (put_new key id rs (ascending_rest r.key (keys_in rs) a) i (let p = place_passed key r.key (keys_in rs) below in omega arith) (λ h. n (omega arith)))
  where
    below : r.key < key
    below = place_below key r.key (keys_in rs) a (omega arith)
