-- The rows with one name more (`rows_added`). The idea: both sides are the runs of one ascending list of postings.
-- Assumes nothing.
use mathlib.Core.Path.{◌≡◌, refl, sym, ap, ap₂, ◌∙◌}
use mathlib.Core.Bool.{Bool, true, false, ◌||◌, true≢false}
use mathlib.Core.List.{List, [], ◌∷◌, ◌++◌, map}
use Prim.Native.Nat.{ℕ, ◌<◌}
use native.Mathlib.Omega.{arith}
use lib.ListN.{length, get_or, take, drop}
use Rattle.laws.specs.Lists.{member, Distinct, Ascending}
use Rattle.laws.specs.Sort.{insert, sort_of}
use Rattle.laws.proofs.Lists.{member_append}
use Rattle.laws.proofs.Members.{member_map_place, each_at}
use Rattle.laws.proofs.Sort.{ascending_distinct, ascending_sorted, ascending_sort, sort_cons, sort_sorted, sort_append, member_sort}
use Rattle.laws.proofs.Tests.{test_fails}
use Rattle.words.specs.Words.{key_of}
use Rattle.index_writer.specs.Built.{Entry, no_entry, word_of, Row, id_span, triple_of, triples_of, all_triples, triples_from, runs_of, words_from, rows_of, words_of, RowsFit, EntryFit, Fit}
use Rattle.index_writer.proofs.Runs.{triples_runs, runs_unique, triples_ascending}
use Rattle.index_writer.proofs.Entries.{entries_place, id_member}
use Rattle.index_writer.proofs.Built.{rows_of_fit, rows_triples, triples_sort}
use Rattle.binary_search.specs.Seats.{place_of}
use Rattle.changes.specs.Names.{ids_of, with_entry}
use Rattle.changes.specs.Rows.{put_posting, with_postings}
use Rattle.changes.proofs.Lists.{ascending_drop}
use Rattle.changes.proofs.Names.{words_with, triples_with}
use Rattle.changes.proofs.Put.{fit_put, triples_put}

pub postings_nil : (size id : ℕ) (rows : List Row) → with_postings size [] id rows ≡ rows
unfolding with_postings
postings_nil size id rows = refl

pub postings_cons : (size f : ℕ) (fs : List ℕ) (id : ℕ) (rows : List Row)
    → with_postings size (f ∷ fs) id rows ≡ put_posting (key_of size f) id (with_postings size fs id rows)
unfolding with_postings
postings_cons size f fs id rows = refl

-- ---- the postings of a name among those of fit rows that have none of them

module _ (size id : ℕ) (low : id < id_span) (rows : List Row) (fit : RowsFit rows) (new : (f : ℕ) → member (triple_of size f id) (triples_from rows) ≡ false) where
  abbrev own : List ℕ → List ℕ
  own fs = map (λ (f : ℕ). triple_of size f id) fs

  postings_put : (fs : List ℕ) → Distinct fs
      → RowsFit (with_postings size fs id rows) × (triples_from (with_postings size fs id rows) ≡ sort_of (own fs ++ triples_from rows))
  unfolding Distinct with_postings
  postings_put [] d = (fit, sym (sort_sorted (triples_from rows) (ascending_sorted (triples_from rows) (triples_ascending rows fit))))
  postings_put (f ∷ fs) d =
      let p = postings_put fs d.1 in
      let n = ap (member (triple_of size f id)) p.1 ∙ member_sort (triple_of size f id) (own fs ++ triples_from rows) ∙ absent in (
        fit_put (key_of size f) id low (with_postings size fs id rows) p.0 n,
        triples_put (key_of size f) id low (with_postings size fs id rows) p.0 n
            ∙ ap (insert (triple_of size f id)) p.1
            ∙ sym (sort_cons (triple_of size f id) (own fs ++ triples_from rows)),
      )
    where
      apart : member (triple_of size f id) (own fs) ≡ true → ⊥
      apart m =
          let p = member_map_place (λ (g : ℕ). triple_of size g id) (triple_of size f id) fs m in
          let q = p.2 in
          let e : p.0 ≡ f = omega arith in
          true≢false (sym p.1 ∙ ap (λ (g : ℕ). member g fs) e ∙ d.0)

      absent : member (triple_of size f id) (own fs ++ triples_from rows) ≡ false
      absent =
          member_append (triple_of size f id) (own fs) (triples_from rows)
          ∙ ap₂ (λ (a b : Bool). a || b) (test_fails (member (triple_of size f id) (own fs)) apart) (new f)

  pub postings_fit : (fs : List ℕ) → Distinct fs → RowsFit (with_postings size fs id rows)
  postings_fit fs d = (postings_put fs d).0

  pub postings_triples : (fs : List ℕ) → Distinct fs → triples_from (with_postings size fs id rows) ≡ sort_of (own fs ++ triples_from rows)
  postings_triples fs d = (postings_put fs d).1

-- ---- the rows of names

-- no posting is of an id that is not in use
pub triples_unused : (es : List Entry) → Fit es → (id : ℕ) → id < id_span → member id (ids_of es) ≡ false
    → (size f : ℕ) → member (triple_of size f id) (triples_from (rows_of es)) ≡ false
triples_unused es fit id low unused size f = rows_triples es (triple_of size f id) ∙ test_fails (member (triple_of size f id) (all_triples es)) apart
  where
    apart : member (triple_of size f id) (all_triples es) ≡ true → ⊥
    apart m =
        let p = entries_place es (triple_of size f id) m in
        let b = (each_at EntryFit es p.0 no_entry fit.each p.1).id in
        let q = p.4 in
        let e : (get_or es p.0 no_entry).id ≡ id = omega arith in
        true≢false (sym (id_member es p.0 p.1) ∙ ap (λ (x : ℕ). member x (ids_of es)) e ∙ unused)

module _ (e : Entry) (es : List Entry) (fit : Fit es) (one : EntryFit e) (unused : member e.id (ids_of es) ≡ false) where
  low : e.id < id_span
  low = let b = one.id in omega arith

  rise : Ascending (sort_of e.features)
  rise = ascending_sort e.features one.distinct

  some_fit : (fs : List ℕ) → Distinct fs → RowsFit (with_postings (length e.features) fs e.id (rows_of es))
  some_fit = postings_fit (length e.features) e.id low (rows_of es) (rows_of_fit es fit) (triples_unused es fit e.id low unused (length e.features))

  -- fit rows, too, where only the features from a place on have their postings
  pub added_fit : (j : ℕ) → RowsFit (with_postings (length e.features) (drop j (sort_of e.features)) e.id (rows_of es))
  added_fit j = some_fit (drop j (sort_of e.features)) (ascending_distinct (drop j (sort_of e.features)) (ascending_drop (sort_of e.features) j rise))

  pub rows_added : rows_of (with_entry e es) ≡ with_postings (length e.features) (sort_of e.features) e.id (rows_of es)
  unfolding rows_of
  rows_added =
      ap runs_of
      (triples_with e es
      ∙ sort_append (triples_of e) (all_triples es)
      ∙ ap₂ (λ (k l : List ℕ). sort_of (k ++ l)) (triples_sort e) (sym (triples_runs (sort_of (all_triples es))))
      ∙ sym
      (postings_triples (length e.features) e.id low (rows_of es) (rows_of_fit es fit)
      (triples_unused es fit e.id low unused (length e.features)) (sort_of e.features) (ascending_distinct (sort_of e.features) rise)))
      ∙ runs_unique (with_postings (length e.features) (sort_of e.features) e.id (rows_of es)) (added_fit 0)

  -- the whole index: one name word put in, and the postings of its features
  pub index_added : words_of (with_entry e es)
      ≡ words_from
      (take (place_of e.id (ids_of es)) (map word_of es) ++ word_of e ∷ drop (place_of e.id (ids_of es)) (map word_of es))
      (with_postings (length e.features) (sort_of e.features) e.id (rows_of es))
  unfolding words_of
  index_added = ap₂ words_from (words_with e es fit.ids) rows_added
