-- The postings of names within the limits: all different, each with its name, and as many with an id as that name has features.
-- Assumes nothing.
use mathlib.Core.Path.{◌≡◌, refl, sym, ap, ap₂, ◌∙◌}
use mathlib.Core.Logic.{⊎_elim}
use mathlib.Core.Bool.{Bool, true, false}
use mathlib.Core.List.{List, [], ◌∷◌, map}
use Prim.Native.Nat.{ℕ, zero, suc, ◌+◌, ◌*◌, ◌%◌, ◌≤◌, ◌<◌}
use native.Mathlib.Nat.{add-zero, zero-add}
use native.Mathlib.Omega.{arith}
use lib.ListN.{length, get_or, length-append, length-map}
use lib.Dec.{eqb}
use borrow.Author.Tests.{eq-eqb, ne_eqb}
use Rattle.laws.specs.Lists.{member, Distinct, Ascending, count_of}
use Rattle.laws.specs.Each.{Each}
use Rattle.laws.proofs.Lists.{count_append, count_none}
use Rattle.laws.proofs.Members.{member_head, member_tail, member_nil, member_left, member_right, member_append_cases, member_map, member_map_place, distinct_append, distinct_map, each_first, each_rest, each_at}
use Rattle.laws.proofs.Sort.{above_member, ascending_above, ascending_rest}
use Rattle.laws.proofs.Images.{count_map, count_all}
use Rattle.names.specs.Features.{most_features}
use Rattle.index_writer.specs.Built.{Entry, no_entry, id_span, triple_of, triples_of, all_triples, EntryFit}

abbrev id_in : Entry → ℕ
id_in e = e.id

-- ---- a posting of names, by name and feature

pub entries_place : (es : List Entry) (k : ℕ) → member k (all_triples es) ≡ true
    → (i : ℕ)
    × (i < length es)
    × (f : ℕ)
    × (member f (get_or es i no_entry).features ≡ true)
    × (triple_of (length (get_or es i no_entry).features) f (get_or es i no_entry).id ≡ k)
unfolding all_triples triples_of
entries_place [] k m = absurd (member_nil k m)
entries_place (e ∷ es) k m =
    ⊎_elim
    {C =
    (i : ℕ)
    × (i < length (e ∷ es))
    × (f : ℕ)
    × (member f (get_or (e ∷ es) i no_entry).features ≡ true)
    × (triple_of (length (get_or (e ∷ es) i no_entry).features) f (get_or (e ∷ es) i no_entry).id ≡ k)}
    (λ (n : member k (triples_of e) ≡ true).
    let h = member_map_place (λ (f : ℕ). triple_of (length e.features) f e.id) k e.features n in
    (0, omega arith, h.0, h.1, h.2))
    (λ (n : member k (all_triples es) ≡ true).
    let h = entries_place es k n in
    (suc h.0, (let b = h.1 in omega arith), h.2, h.3, h.4))
    (member_append_cases k (triples_of e) (all_triples es) m)

pub entries_member : (es : List Entry) (i f : ℕ) → i < length es → member f (get_or es i no_entry).features ≡ true
    → member (triple_of (length (get_or es i no_entry).features) f (get_or es i no_entry).id) (all_triples es) ≡ true
unfolding all_triples triples_of
entries_member [] i f h m = absurd (omega arith)
entries_member (e ∷ es) zero f h m =
    member_left (triple_of (length e.features) f e.id) (triples_of e) (all_triples es)
    (member_map (λ (g : ℕ). triple_of (length e.features) g e.id) f e.features m)
entries_member (e ∷ es) (suc i) f h m =
    member_right (triple_of (length (get_or es i no_entry).features) f (get_or es i no_entry).id) (triples_of e) (all_triples es)
    (entries_member es i f (omega arith) m)

-- ---- ids

pub id_member : (es : List Entry) (i : ℕ) → i < length es → member (get_or es i no_entry).id (map id_in es) ≡ true
id_member [] i h = absurd (omega arith)
id_member (e ∷ es) zero h = member_head e.id (map id_in es)
id_member (e ∷ es) (suc i) h = member_tail e.id (get_or es i no_entry).id (map id_in es) (id_member es i (omega arith))

-- ---- how many postings

pub length_entries : (es : List Entry) → Each EntryFit es → length (all_triples es) ≤ length es * most_features
unfolding all_triples triples_of
length_entries [] h = omega arith
length_entries (e ∷ es) h =
    let a = length-append (triples_of e) (all_triples es) in
    let b = length-map e.features (λ (f : ℕ). triple_of (length e.features) f e.id) in
    let c = (each_first EntryFit e es h).most in
    let d = length_entries es (each_rest EntryFit e es h) in
    omega arith

-- ---- all different

pub distinct_entries : (es : List Entry) → Ascending (map id_in es) → Each EntryFit es → Distinct (all_triples es)
unfolding all_triples triples_of
distinct_entries [] a h = unfold Distinct in tt
distinct_entries (e ∷ es) a h =
    distinct_append (triples_of e) (all_triples es)
    (distinct_map (λ (f : ℕ). triple_of (length e.features) f e.id) e.features fit.distinct (λ x y m n q. omega arith))
    (distinct_entries es (ascending_rest e.id (map id_in es) a) (each_rest EntryFit e es h))
    apart
  where
    fit : EntryFit e
    fit = each_first EntryFit e es h

    apart : (x : ℕ) → member x (triples_of e) ≡ true → member x (all_triples es) ≡ true → ⊥
    apart x m n =
        let p = member_map_place (λ (f : ℕ). triple_of (length e.features) f e.id) x e.features m in
        let q = entries_place es x n in
        let b = fit.id in
        let c = (each_at EntryFit es q.0 no_entry (each_rest EntryFit e es h) q.1).id in
        let d =
        above_member e.id (map id_in es) (ascending_above e.id (map id_in es) a) (get_or es q.0 no_entry).id
        (id_member es q.0 q.1)
        in
        let u = p.2 in
        let v = q.4 in
        omega arith

-- ---- how many postings of an id

-- the test that a posting is of the id
abbrev of_id : ℕ → ℕ → Bool
of_id id k = eqb (k % id_span) id

count_own : (e : Entry) → EntryFit e → count_of (of_id e.id) (triples_of e) ≡ length e.features
unfolding triples_of
count_own e h =
    count_map (of_id e.id) (λ (f : ℕ). triple_of (length e.features) f e.id) e.features
    ∙ count_all (λ (f : ℕ). of_id e.id (triple_of (length e.features) f e.id)) own e.features
  where
    own : (f : ℕ) → of_id e.id (triple_of (length e.features) f e.id) ≡ true
    own f = eq-eqb (triple_of (length e.features) f e.id % id_span) e.id (let b = h.id in omega arith)

count_other : (id : ℕ) (e : Entry) → EntryFit e → (e.id ≡ id → ⊥) → count_of (of_id id) (triples_of e) ≡ 0
unfolding triples_of
count_other id e h n =
    count_map (of_id id) (λ (f : ℕ). triple_of (length e.features) f e.id) e.features
    ∙ count_none (λ (f : ℕ). of_id id (triple_of (length e.features) f e.id)) other e.features
  where
    other : (f : ℕ) → of_id id (triple_of (length e.features) f e.id) ≡ false
    other f = ne_eqb (triple_of (length e.features) f e.id % id_span) id (λ q. n (let b = h.id in omega arith))

-- none of an id that no name has
count_absent : (id : ℕ) (es : List Entry) → Each EntryFit es → (member id (map id_in es) ≡ true → ⊥) → count_of (of_id id) (all_triples es) ≡ 0
unfolding all_triples
count_absent id [] h n = unfold count_of in refl
count_absent id (e ∷ es) h n =
    count_append (of_id id) (triples_of e) (all_triples es)
    ∙ ap₂ ◌+◌
    (count_other id e (each_first EntryFit e es h) (λ q. n (ap (λ (x : ℕ). member x (map id_in (e ∷ es))) (sym q) ∙ member_head e.id (map id_in es))))
    (count_absent id es (each_rest EntryFit e es h) (λ m. n (member_tail e.id id (map id_in es) m)))

-- as many of a name's id as it has features
pub count_entries : (es : List Entry) → Ascending (map id_in es) → Each EntryFit es → (i : ℕ) → i < length es
    → count_of (of_id (get_or es i no_entry).id) (all_triples es) ≡ length (get_or es i no_entry).features
unfolding all_triples
count_entries [] a h i b = absurd (omega arith)
count_entries (e ∷ es) a h zero b =
    count_append (of_id e.id) (triples_of e) (all_triples es)
    ∙ ap₂ ◌+◌ (count_own e (each_first EntryFit e es h)) (count_absent e.id es (each_rest EntryFit e es h) absent)
    ∙ add-zero (length e.features)
  where
    absent : member e.id (map id_in es) ≡ true → ⊥
    absent m = let c = above_member e.id (map id_in es) (ascending_above e.id (map id_in es) a) e.id m in omega arith
count_entries (e ∷ es) a h (suc i) b =
    count_append (of_id (get_or es i no_entry).id) (triples_of e) (all_triples es)
    ∙ ap₂ ◌+◌
    (count_other (get_or es i no_entry).id e (each_first EntryFit e es h) apart)
    (count_entries es (ascending_rest e.id (map id_in es) a) (each_rest EntryFit e es h) i (omega arith))
    ∙ zero-add (length (get_or es i no_entry).features)
  where
    apart : e.id ≡ (get_or es i no_entry).id → ⊥
    apart q =
        let c =
        above_member e.id (map id_in es) (ascending_above e.id (map id_in es) a) (get_or es i no_entry).id
        (id_member es i (omega arith))
        in
        omega arith
