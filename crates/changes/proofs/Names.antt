-- Laws of names with one more and with one less: they stay within the limits, the ids, the name words by place, how many postings.
-- Assumes nothing.
use mathlib.Core.Path.{◌≡◌, refl, sym, ap, ap₂, ◌∙◌}
use mathlib.Core.Logic.{⊎_elim}
use mathlib.Core.Bool.{false, not}
use mathlib.Core.List.{List, [], ◌∷◌, ◌++◌, map, map-append, append_assoc}
use Prim.Native.Nat.{ℕ, suc, ◌+◌, ◌≤◌, ◌<◌}
use native.Mathlib.Numerals.{add-one}
use native.Mathlib.Omega.{arith}
use lib.ListN.{length, get_or, take, drop, length-append, length-map}
use lib.Seq.{split_at}
use lib.Dec.{eqb}
use borrow.Author.Tests.{le-leb, lt-leb}
use Rattle.laws.specs.Lists.{member, Ascending, count_of}
use Rattle.laws.specs.Each.{Each}
use Rattle.laws.specs.Sort.{insert, sort_of}
use Rattle.laws.proofs.Filter.{length_filter}
use Rattle.laws.proofs.Members.{each_cons, each_first, each_rest}
use Rattle.laws.proofs.Order.{le_or_lt}
use Rattle.laws.proofs.Sort.{ascending_rest, insert_nil, insert_met, insert_passed, length_insert, length_sort, sort_append, sort_append_swap}
use Rattle.index.specs.Good.{most_names}
use Rattle.index_writer.specs.Built.{Entry, no_entry, word_of, triple_of, triples_of, all_triples, EntryFit, Fit}
use Rattle.index_writer.proofs.Built.{triples_append}
use Rattle.binary_search.specs.Seats.{place_of}
use Rattle.changes.specs.Others.{others_of}
use Rattle.changes.specs.Names.{ids_of, with_entry, without_id}
use Rattle.changes.proofs.Lists.{map_take, map_drop, place_first, place_passed, ascending_insert, absent_rest, others_met, others_passed, others_absent, others_place, filter_map, ascending_filter, each_filter}

abbrev id_in : Entry → ℕ
id_in e = e.id

-- ---- one name put in

pub with_met : (e x : Entry) (es : List Entry) → e.id ≤ x.id → with_entry e (x ∷ es) ≡ e ∷ x ∷ es
unfolding with_entry
with_met e x es h = rw (le-leb e.id x.id h)

pub with_passed : (e x : Entry) (es : List Entry) → x.id < e.id → with_entry e (x ∷ es) ≡ x ∷ with_entry e es
unfolding with_entry
with_passed e x es h = rw (lt-leb e.id x.id h)

pub with_nil : (e : Entry) → with_entry e [] ≡ e ∷ []
unfolding with_entry
with_nil e = refl

-- by place: after those whose ids are below
pub with_place : (e : Entry) (es : List Entry) → Ascending (ids_of es)
    → with_entry e es ≡ take (place_of e.id (ids_of es)) es ++ e ∷ drop (place_of e.id (ids_of es)) es
with_place e [] a = with_nil e ∙ (unfold count_of in refl)
with_place e (x ∷ es) a =
    ⊎_elim
    (λ (h : e.id ≤ x.id). rw (place_first e.id x.id (ids_of es) a h) (with_met e x es h))
    (λ (h : x.id < e.id).
    rw (place_passed e.id x.id (ids_of es) h)
    (with_passed e x es h ∙ ap (λ (r : List Entry). x ∷ r) (with_place e es (ascending_rest x.id (ids_of es) a))))
    (le_or_lt e.id x.id)

pub ids_with : (e : Entry) (es : List Entry) → ids_of (with_entry e es) ≡ insert e.id (ids_of es)
ids_with e [] = ap ids_of (with_nil e) ∙ sym (insert_nil e.id)
ids_with e (x ∷ es) =
    ⊎_elim
    (λ (h : e.id ≤ x.id). ap ids_of (with_met e x es h) ∙ sym (insert_met e.id x.id (ids_of es) h))
    (λ (h : x.id < e.id).
    ap ids_of (with_passed e x es h)
    ∙ ap (λ (r : List ℕ). x.id ∷ r) (ids_with e es)
    ∙ sym (insert_passed e.id x.id (ids_of es) h))
    (le_or_lt e.id x.id)

pub length_with : (e : Entry) (es : List Entry) → length (with_entry e es) ≡ suc (length es)
length_with e es =
    sym (length-map (with_entry e es) (λ (x : Entry). x.id))
    ∙ ap length (ids_with e es)
    ∙ length_insert e.id (ids_of es)
    ∙ ap suc (length-map es (λ (x : Entry). x.id))

pub each_with : (P : Entry → Type 0) (e : Entry) (es : List Entry) → P e → Each P es → Each P (with_entry e es)
each_with P e [] p h = rw (with_nil e) (each_cons P e [] p h)
each_with P e (x ∷ es) p h =
    ⊎_elim
    (λ (b : e.id ≤ x.id). rw (with_met e x es b) (each_cons P e (x ∷ es) p h))
    (λ (b : x.id < e.id). rw (with_passed e x es b) (each_cons P x (with_entry e es) (each_first P x es h) (each_with P e es p (each_rest P x es h))))
    (le_or_lt e.id x.id)

-- names within the limits stay so with one more, where there is room and its id is not in use
pub fit_added : (e : Entry) (es : List Entry) → Fit es → EntryFit e → member e.id (ids_of es) ≡ false → length es < most_names → Fit (with_entry e es)
fit_added e es fit one unused room =
    record {
      few = (let n = length_with e es in omega arith);
      ids = rw (ids_with e es) (ascending_insert e.id (ids_of es) fit.ids unused);
      each = each_with EntryFit e es one fit.each;
    }

-- the name words: one put in at its place
pub words_with : (e : Entry) (es : List Entry) → Ascending (ids_of es)
    → map word_of (with_entry e es)
    ≡ take (place_of e.id (ids_of es)) (map word_of es) ++ word_of e ∷ drop (place_of e.id (ids_of es)) (map word_of es)
words_with e es a =
    ap (map word_of) (with_place e es a)
    ∙ map-append word_of (take k es) (e ∷ drop k es)
    ∙ ap₂ (λ (l r : List ℕ). l ++ word_of e ∷ r) (map_take word_of k es) (map_drop word_of k es)
  where
    k : ℕ
    k = place_of e.id (ids_of es)

-- the postings in order: those of the name among the others
pub triples_with : (e : Entry) (es : List Entry) → sort_of (all_triples (with_entry e es)) ≡ sort_of (triples_of e ++ all_triples es)
unfolding all_triples
triples_with e [] = ap (λ (l : List Entry). sort_of (all_triples l)) (with_nil e)
triples_with e (x ∷ es) =
    ⊎_elim
    (λ (h : e.id ≤ x.id). ap (λ (l : List Entry). sort_of (all_triples l)) (with_met e x es h))
    (λ (h : x.id < e.id).
    ap (λ (l : List Entry). sort_of (all_triples l)) (with_passed e x es h)
    ∙ sort_append (triples_of x) (all_triples (with_entry e es))
    ∙ ap (λ (l : List ℕ). sort_of (sort_of (triples_of x) ++ l)) (triples_with e es)
    ∙ sym (sort_append (triples_of x) (triples_of e ++ all_triples es))
    ∙ sort_append_swap (triples_of x) (triples_of e ++ all_triples es)
    ∙ ap sort_of (append_assoc (triples_of e) (all_triples es) (triples_of x))
    ∙ sort_append (triples_of e) (all_triples es ++ triples_of x)
    ∙ ap (λ (l : List ℕ). sort_of (sort_of (triples_of e) ++ l)) (sort_append_swap (all_triples es) (triples_of x))
    ∙ sym (sort_append (triples_of e) (triples_of x ++ all_triples es)))
    (le_or_lt e.id x.id)

length_own : (e : Entry) → length (triples_of e) ≡ length e.features
unfolding triples_of
length_own e = length-map e.features (λ (f : ℕ). triple_of (length e.features) f e.id)

-- as many postings more as the name has features
pub length_triples_with : (e : Entry) (es : List Entry) → length (all_triples (with_entry e es)) ≡ length e.features + length (all_triples es)
length_triples_with e es =
    sym (length_sort (all_triples (with_entry e es)))
    ∙ ap length (triples_with e es)
    ∙ length_sort (triples_of e ++ all_triples es)
    ∙ length-append (triples_of e) (all_triples es)
    ∙ ap (λ (n : ℕ). n + length (all_triples es)) (length_own e)

-- ---- one name taken out

-- a name put in under an id that is not in use, and taken out again
pub withdrawn_added : (e : Entry) (es : List Entry) → member e.id (ids_of es) ≡ false → without_id e.id (with_entry e es) ≡ es
withdrawn_added e [] n = ap (without_id e.id) (with_nil e) ∙ others_met id_in e.id e [] refl ∙ others_absent id_in e.id [] n
withdrawn_added e (x ∷ es) n =
    ⊎_elim
    (λ (h : e.id ≤ x.id). ap (without_id e.id) (with_met e x es h) ∙ others_met id_in e.id e (x ∷ es) refl ∙ others_absent id_in e.id (x ∷ es) n)
    (λ (h : x.id < e.id).
    ap (without_id e.id) (with_passed e x es h)
    ∙ others_passed id_in e.id x (with_entry e es) (λ q. omega arith)
    ∙ ap (λ (r : List Entry). x ∷ r) (withdrawn_added e es (absent_rest x.id e.id (ids_of es) n)))
    (le_or_lt e.id x.id)

pub ids_without : (id : ℕ) (es : List Entry) → ids_of (without_id id es) ≡ others_of id (ids_of es)
ids_without id es = sym (filter_map (λ (y : ℕ). not (eqb y id)) (λ (e : Entry). e.id) es)

pub fit_withdrawn : (id : ℕ) (es : List Entry) → Fit es → Fit (without_id id es)
fit_withdrawn id es fit =
    record {
      few = (let n = length_filter (λ (e : Entry). not (eqb e.id id)) es in let b = fit.few in omega arith);
      ids = rw (ids_without id es) (ascending_filter (λ (y : ℕ). not (eqb y id)) (ids_of es) fit.ids);
      each = each_filter EntryFit (λ (e : Entry). not (eqb e.id id)) es fit.each;
    }

-- by place
module _ (es : List Entry) (up : Ascending (ids_of es)) (k id : ℕ) (h : k < length es) (at : (get_or es k no_entry).id ≡ id) where
  pub without_place : without_id id es ≡ take k es ++ drop (k + 1) es
  without_place = others_place id_in id es no_entry up k h at

  -- the name words: one taken out at its place
  pub words_without : map word_of (without_id id es) ≡ take k (map word_of es) ++ drop (k + 1) (map word_of es)
  words_without =
      ap (map word_of) without_place
      ∙ map-append word_of (take k es) (drop (k + 1) es)
      ∙ ap₂ (λ (l r : List ℕ). l ++ r) (map_take word_of k es) (map_drop word_of (k + 1) es)

  -- as many postings less as the name had features
  pub length_triples_without : length (all_triples (without_id id es)) + length (get_or es k no_entry).features ≡ length (all_triples es)
  unfolding all_triples
  length_triples_without =
      let e = get_or es k no_entry in
      let a = ap (λ (l : List Entry). length (all_triples l)) without_place in
      let b = ap length (triples_append (take k es) (drop (k + 1) es)) in
      let c = length-append (all_triples (take k es)) (all_triples (drop (k + 1) es)) in
      let d = ap (λ (l : List Entry). length (all_triples l)) (split_at es k no_entry h) in
      let f = ap length (triples_append (take k es) (e ∷ drop (suc k) es)) in
      let g = length-append (all_triples (take k es)) (triples_of e ++ all_triples (drop (suc k) es)) in
      let j = length-append (triples_of e) (all_triples (drop (suc k) es)) in
      let m = length_own e in
      let n = ap (λ (i : ℕ). length (all_triples (drop i es))) (add-one k) in
      omega arith
