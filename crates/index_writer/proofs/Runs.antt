-- Laws of runs: `runs_of` takes an ascending list of postings apart into rows, `triples_from` puts them together again, and each undoes the other.
-- Assumes nothing.
use mathlib.Core.Path.{◌≡◌, refl, sym, ap, ap₂, ◌∙◌}
use mathlib.Core.Logic.{⊎_elim}
use mathlib.Core.Bool.{true, cond}
use mathlib.Core.List.{List, [], ◌∷◌, ◌++◌, map}
use Prim.Native.Nat.{ℕ, zero, suc, ◌+◌, ◌*◌, ◌/◌, ◌%◌, ◌<◌}
use native.Mathlib.Omega.{arith}
use lib.ListN.{length, get_or, length-map}
use lib.Dec.{eqb}
use borrow.Author.Tests.{eq-eqb, ne_eqb}
use Rattle.laws.specs.Lists.{member, AllAbove, Ascending, count_of}
use Rattle.laws.specs.Each.{Each}
use Rattle.laws.proofs.Lists.{count_append, count_one}
use Rattle.laws.proofs.Members.{member_head, member_tail, member_cases, member_nil, member_one, member_left, member_right, member_append_cases, member_at, member_map, member_map_place, each_nil, each_cons, each_first, each_rest}
use Rattle.laws.proofs.Order.{eq_or_ne}
use Rattle.laws.proofs.Sort.{above_member, above_members, ascending_nil, ascending_one, ascending_cons, ascending_above, ascending_rest, ascending_distinct, ascending_append}
use Rattle.laws.proofs.Images.{count_map, count_members, ascending_map}
use Rattle.index_writer.specs.Built.{Row, no_row, id_span, one_row, join_row, runs_of, lists_of, row_triples, triples_from, RowFit, RowsFit}

-- ---- one posting in front

abbrev key_in : Row → ℕ
key_in r = r.key

pub join_nil : (k : ℕ) → join_row k [] ≡ one_row k ∷ []
unfolding join_row
join_nil k = refl

pub join_same : (k : ℕ) (r : Row) (rs : List Row) → k / id_span ≡ r.key → join_row k (r ∷ rs) ≡ record { key = r.key; list = (k % id_span) ∷ r.list } ∷ rs
unfolding join_row
join_same k r rs e = rw (eq-eqb (k / id_span) r.key e)

pub join_other : (k : ℕ) (r : Row) (rs : List Row) → (k / id_span ≡ r.key → ⊥)
    → join_row k (r ∷ rs) ≡ one_row k ∷ r ∷ rs
unfolding join_row
join_other k r rs n = rw (ne_eqb (k / id_span) r.key n)

-- ---- what the runs hold

join_lists : (k : ℕ) (rs : List Row) → lists_of (join_row k rs) ≡ (k % id_span) ∷ lists_of rs
unfolding lists_of
join_lists k [] = ap lists_of (join_nil k)
join_lists k (r ∷ rs) =
    ⊎_elim
    (λ (e : k / id_span ≡ r.key). ap lists_of (join_same k r rs e))
    (λ (n : k / id_span ≡ r.key → ⊥). ap lists_of (join_other k r rs n))
    (eq_or_ne (k / id_span) r.key)

-- the lists end to end are the ids in order
pub lists_runs : (ks : List ℕ) → lists_of (runs_of ks) ≡ map (λ (k : ℕ). k % id_span) ks
unfolding runs_of
lists_runs [] = unfold lists_of in refl
lists_runs (k ∷ ks) = join_lists k (runs_of ks) ∙ ap (λ (l : List ℕ). (k % id_span) ∷ l) (lists_runs ks)

pub length_runs : (ks : List ℕ) → length (lists_of (runs_of ks)) ≡ length ks
length_runs ks = ap length (lists_runs ks) ∙ length-map ks (λ (k : ℕ). k % id_span)

join_triples : (k : ℕ) (rs : List Row) → triples_from (join_row k rs) ≡ k ∷ triples_from rs
unfolding triples_from row_triples
join_triples k [] =
    let e : k / id_span * id_span + k % id_span ≡ k = omega arith in
    ap triples_from (join_nil k) ∙ ap (λ (n : ℕ). n ∷ []) e
join_triples k (r ∷ rs) =
    ⊎_elim
    (λ (e : k / id_span ≡ r.key).
    let q : r.key * id_span + k % id_span ≡ k = omega arith in
    ap triples_from (join_same k r rs e) ∙ ap (λ (n : ℕ). n ∷ triples_from (r ∷ rs)) q)
    (λ (n : k / id_span ≡ r.key → ⊥).
    let q : k / id_span * id_span + k % id_span ≡ k = omega arith in
    ap triples_from (join_other k r rs n) ∙ ap (λ (m : ℕ). m ∷ triples_from (r ∷ rs)) q)
    (eq_or_ne (k / id_span) r.key)

-- the postings of the runs are those that were taken apart
pub triples_runs : (ks : List ℕ) → triples_from (runs_of ks) ≡ ks
unfolding runs_of
triples_runs [] = unfold triples_from in refl
triples_runs (k ∷ ks) = join_triples k (runs_of ks) ∙ ap (λ (l : List ℕ). k ∷ l) (triples_runs ks)

-- ---- a posting of rows, by row and id

pub key_member : (rows : List Row) (r : ℕ) → r < length rows → member (get_or rows r no_row).key (map key_in rows) ≡ true
key_member [] r h = absurd (omega arith)
key_member (x ∷ rows) zero h = member_head x.key (map key_in rows)
key_member (x ∷ rows) (suc r) h = member_tail x.key (get_or rows r no_row).key (map key_in rows) (key_member rows r (omega arith))

pub triples_place : (rows : List Row) (k : ℕ) → member k (triples_from rows) ≡ true
    → (r : ℕ) × (r < length rows) × (id : ℕ) × (member id (get_or rows r no_row).list ≡ true) × ((get_or rows r no_row).key * id_span + id ≡ k)
unfolding triples_from row_triples
triples_place [] k m = absurd (member_nil k m)
triples_place (x ∷ rows) k m =
    ⊎_elim
    {C = (r : ℕ) × (r < length (x ∷ rows)) × (id : ℕ) × (member id (get_or (x ∷ rows) r no_row).list ≡ true) × ((get_or (x ∷ rows) r no_row).key * id_span + id ≡ k)}
    (λ (n : member k (row_triples x) ≡ true).
    let h = member_map_place (λ (id : ℕ). x.key * id_span + id) k x.list n in
    (0, omega arith, h.0, h.1, h.2))
    (λ (n : member k (triples_from rows) ≡ true).
    let h = triples_place rows k n in
    (suc h.0, (let b = h.1 in omega arith), h.2, h.3, h.4))
    (member_append_cases k (row_triples x) (triples_from rows) m)

pub triples_member : (rows : List Row) (r id : ℕ) → r < length rows → member id (get_or rows r no_row).list ≡ true
    → member ((get_or rows r no_row).key * id_span + id) (triples_from rows) ≡ true
unfolding triples_from row_triples
triples_member [] r id h m = absurd (omega arith)
triples_member (x ∷ rows) zero id h m =
    member_left (x.key * id_span + id) (row_triples x) (triples_from rows) (member_map (λ (y : ℕ). x.key * id_span + y) id x.list m)
triples_member (x ∷ rows) (suc r) id h m =
    member_right ((get_or rows r no_row).key * id_span + id) (row_triples x) (triples_from rows) (triples_member rows r id (omega arith) m)

-- ---- ascending postings have fit runs

one_fit : (k : ℕ) → RowFit (one_row k)
one_fit k =
    record {
      some = omega arith;
      up = ascending_one (k % id_span);
      ids = λ id m. let e = member_one (k % id_span) id m in omega arith;
    }

join_fit : (k : ℕ) (rs : List Row) → RowsFit rs → AllAbove k (triples_from rs) → RowsFit (join_row k rs)
join_fit k [] f a = rw (join_nil k) (record { keys = ascending_one (k / id_span); each = each_cons RowFit _ [] (one_fit k) (each_nil RowFit) })
join_fit k (r ∷ rs) f a =
    ⊎_elim
    (λ (e : k / id_span ≡ r.key).
    rw (join_same k r rs e)
    (record {
      keys = f.keys;
      each = each_cons RowFit (record { key = r.key; list = (k % id_span) ∷ r.list }) rs (longer e) (each_rest RowFit r rs f.each);
    }))
    (λ (n : k / id_span ≡ r.key → ⊥).
    rw (join_other k r rs n)
    (record {
      keys = ascending_cons (k / id_span) (map key_in (r ∷ rs)) (above_members (k / id_span) (map key_in (r ∷ rs)) (lower n)) f.keys;
      each = each_cons RowFit (one_row k) (r ∷ rs) (one_fit k) f.each;
    }))
    (eq_or_ne (k / id_span) r.key)
  where
    fit : RowFit r
    fit = each_first RowFit r rs f.each

    -- k is below each posting of the first row
    below : (id : ℕ) → member id r.list ≡ true → k < r.key * id_span + id
    below id m = above_member k (triples_from (r ∷ rs)) a (r.key * id_span + id) (triples_member (r ∷ rs) 0 id (omega arith) m)

    longer : k / id_span ≡ r.key → RowFit (record { key = r.key; list = (k % id_span) ∷ r.list })
    longer e =
        record {
          some = omega arith;
          up = ascending_cons (k % id_span) r.list (above_members (k % id_span) r.list (λ id m. let h = below id m in omega arith)) fit.up;
          ids = λ id m.
              ⊎_elim
              (λ (q : id ≡ k % id_span). omega arith)
              (λ (n : member id r.list ≡ true). fit.ids id n)
              (member_cases (k % id_span) id r.list m);
        }

    first : (k / id_span ≡ r.key → ⊥) → k / id_span < r.key
    first n =
        let m = member_at r.list 0 fit.some in
        let h = below (get_or r.list 0 0) m in
        let b = fit.ids (get_or r.list 0 0) m in
        omega arith

    lower : (k / id_span ≡ r.key → ⊥) → (x : ℕ) → member x (map key_in (r ∷ rs)) ≡ true → k / id_span < x
    lower n x m =
        let h = first n in
        ⊎_elim
        (λ (e : x ≡ r.key). omega arith)
        (λ (o : member x (map key_in rs) ≡ true).
        let b = above_member r.key (map key_in rs) (ascending_above r.key (map key_in rs) f.keys) x o in
        omega arith)
        (member_cases r.key x (map key_in rs) m)

pub runs_fit : (ks : List ℕ) → Ascending ks → RowsFit (runs_of ks)
unfolding runs_of
runs_fit [] a = record { keys = ascending_nil; each = each_nil RowFit }
runs_fit (k ∷ ks) a =
    join_fit k (runs_of ks) (runs_fit ks (ascending_rest k ks a)) (rw (triples_runs ks) (ascending_above k ks a))

-- ---- fit rows are the runs of their own postings

rest_fit : (r : Row) (rs : List Row) → RowsFit (r ∷ rs) → RowsFit rs
rest_fit r rs f = record { keys = ascending_rest r.key (map key_in rs) f.keys; each = each_rest RowFit r rs f.each }

-- a posting is its key and its id
quotient : (key id : ℕ) → id < id_span → (key * id_span + id) / id_span ≡ key
quotient key id b = omega arith

remainder : (key id : ℕ) → id < id_span → (key * id_span + id) % id_span ≡ id
remainder key id b = omega arith

-- a posting of a key below those of the rows
join_lower : (key id : ℕ) (rs : List Row) → id < id_span → AllAbove key (map key_in rs)
    → join_row (key * id_span + id) rs ≡ record { key = key; list = id ∷ [] } ∷ rs
join_lower key id [] b a = join_nil (key * id_span + id) ∙ (λ i. record { key = quotient key id b i; list = remainder key id b i ∷ [] } ∷ [])
join_lower key id (r ∷ rs) b a =
    join_other (key * id_span + id) r rs apart ∙ (λ i. record { key = quotient key id b i; list = remainder key id b i ∷ [] } ∷ r ∷ rs)
  where
    apart : (key * id_span + id) / id_span ≡ r.key → ⊥
    apart e = let h = above_member key (map key_in (r ∷ rs)) a r.key (member_head r.key (map key_in rs)) in omega arith

-- a posting of the first row's key
join_first : (key id : ℕ) (l : List ℕ) (rs : List Row) → id < id_span
    → join_row (key * id_span + id) (record { key = key; list = l } ∷ rs) ≡ record { key = key; list = id ∷ l } ∷ rs
join_first key id l rs b =
    join_same (key * id_span + id) (record { key = key; list = l }) rs (quotient key id b) ∙ (λ i. record { key = key; list = remainder key id b i ∷ l } ∷ rs)

-- the postings of one row in front of those of the rows after it
runs_row : (key x : ℕ) (l : List ℕ) (rs : List Row) (ks : List ℕ) → ((id : ℕ) → member id (x ∷ l) ≡ true → id < id_span)
    → AllAbove key (map key_in rs) → runs_of ks ≡ rs
    → runs_of (map (λ (id : ℕ). key * id_span + id) (x ∷ l) ++ ks) ≡ record { key = key; list = x ∷ l } ∷ rs
unfolding runs_of
runs_row key x [] rs ks b a e =
    ap (join_row (key * id_span + x)) e ∙ join_lower key x rs (b x (member_head x [])) a
runs_row key x (y ∷ l) rs ks b a e =
    ap (join_row (key * id_span + x)) (runs_row key y l rs ks (λ id m. b id (member_tail x id (y ∷ l) m)) a e)
    ∙ join_first key x (y ∷ l) rs (b x (member_head x (y ∷ l)))

pub runs_unique : (rows : List Row) → RowsFit rows → runs_of (triples_from rows) ≡ rows
unfolding triples_from row_triples
runs_unique [] f = unfold runs_of in refl
runs_unique (r ∷ rs) f = by_list r.list refl (runs_unique rs (rest_fit r rs f))
  where
    fit : RowFit r
    fit = each_first RowFit r rs f.each

    by_list : (l : List ℕ) → r.list ≡ l → runs_of (triples_from rs) ≡ rs → runs_of (triples_from (r ∷ rs)) ≡ r ∷ rs
    by_list [] q e = absurd (let b = fit.some in let n = ap length q in omega arith)
    by_list (x ∷ l) q e =
        ap (λ (m : List ℕ). runs_of (map (λ (id : ℕ). r.key * id_span + id) m ++ triples_from rs)) q
        ∙ runs_row r.key x l rs (triples_from rs) (λ id m. fit.ids id (ap (member id) q ∙ m)) (ascending_above r.key (map key_in rs) f.keys) e
        ∙ (λ i. record { key = r.key; list = sym q i } ∷ rs)

-- ---- the postings of fit rows ascend

pub triples_ascending : (rows : List Row) → RowsFit rows → Ascending (triples_from rows)
unfolding triples_from row_triples
triples_ascending [] f = ascending_nil
triples_ascending (r ∷ rs) f =
    ascending_append (row_triples r) (triples_from rs)
    (ascending_map (λ (id : ℕ). r.key * id_span + id) (λ x y h. omega arith) r.list fit.up)
    (triples_ascending rs (rest_fit r rs f))
    across
  where
    fit : RowFit r
    fit = each_first RowFit r rs f.each

    across : (x y : ℕ) → member x (row_triples r) ≡ true → member y (triples_from rs) ≡ true → x < y
    across x y m n =
        let p = member_map_place (λ (id : ℕ). r.key * id_span + id) x r.list m in
        let q = triples_place rs y n in
        let b = fit.ids p.0 p.1 in
        let c =
        above_member r.key (map key_in rs) (ascending_above r.key (map key_in rs) f.keys) (get_or rs q.0 no_row).key
        (key_member rs q.0 q.1)
        in
        let d = p.2 in
        let e = q.4 in
        omega arith

-- ---- how many rows hold an id

pub count_triples : (id : ℕ) (rows : List Row) → Each RowFit rows
    → count_of (λ (r : Row). member id r.list) rows ≡ count_of (λ (k : ℕ). eqb (k % id_span) id) (triples_from rows)
unfolding triples_from row_triples count_of
count_triples id [] h = refl
count_triples id (r ∷ rs) h =
    ap₂ ◌+◌ one (count_triples id rs (each_rest RowFit r rs h))
    ∙ sym (count_append (λ (k : ℕ). eqb (k % id_span) id) (row_triples r) (triples_from rs))
  where
    fit : RowFit r
    fit = each_first RowFit r rs h

    one : cond (member id r.list) 1 0 ≡ count_of (λ (k : ℕ). eqb (k % id_span) id) (row_triples r)
    one =
        sym (count_one id r.list (ascending_distinct r.list fit.up))
        ∙ count_members (λ (x : ℕ). eqb x id) (λ (x : ℕ). eqb ((r.key * id_span + x) % id_span) id) r.list (λ x m.
        let b = fit.ids x m in
        let e : x ≡ (r.key * id_span + x) % id_span = omega arith in
        ap (λ (y : ℕ). eqb y id) e)
        ∙ sym (count_map (λ (k : ℕ). eqb (k % id_span) id) (λ (x : ℕ). r.key * id_span + x) r.list)
