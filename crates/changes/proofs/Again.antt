-- One name more or less by the names that words give back. Words give a name's features in ascending order, however they were given, so that the names
-- read are not those that were written; their index is. For who changes words that were written.
-- Assumes nothing.
use mathlib.Core.Path.{◌≡◌, refl, sym, ap, ap₂, subst, ◌∙◌}
use mathlib.Core.Logic.{⊎_elim}
use mathlib.Core.Bool.{false, not}
use mathlib.Core.List.{List, [], ◌∷◌, ◌++◌, map, map-map}
use Prim.Native.Nat.{ℕ, ◌≤◌, ◌<◌}
use native.Mathlib.Omega.{arith}
use lib.ListN.{length, drop, take-append-drop, length-append, length-map}
use lib.Dec.{eqb}
use Rattle.laws.specs.Lists.{member}
use Rattle.laws.specs.Sort.{sort_of}
use Rattle.laws.proofs.Filter.{length_filter}
use Rattle.laws.proofs.Order.{le_or_lt}
use Rattle.laws.proofs.Sort.{sort_sorted, sorted_sort}
use Rattle.words.specs.Words.{posting_count, total}
use Rattle.index.specs.Good.{most_names, Good}
use Rattle.index_writer.specs.Built.{Entry, all_triples, Row, lists_of, rows_of, words_of, EntryFit, Fit}
use Rattle.index_writer.specs.Contents.{entries_in, Narrow}
use Rattle.index_writer.proofs.Built.{rows_postings, length_words, built_posting_count, built_words, built_narrow, built_good, built_entries}
use Rattle.index_writer.proofs.Unique.{good_fit, good_built}
use Rattle.changes.specs.Names.{ids_of, with_entry, without_id}
use Rattle.changes.proofs.Lists.{filter_map}
use Rattle.changes.proofs.Names.{with_nil, with_met, with_passed, fit_added, fit_withdrawn}
use Rattle.changes.proofs.Withdrawn.{rows_withdrawn, lists_withdrawn}
use Rattle.changes.proofs.CutsWithdrawn.{length_empty}

-- ---- names with their features in ascending order

abbrev sorted : Entry → Entry
sorted e = record { id = e.id; features = sort_of e.features }

-- they have the same index
words_sorted : (es : List Entry) → Fit es → words_of (map sorted es) ≡ words_of es
words_sorted es fit =
    ap words_of (sym (built_entries es fit []))
    ∙ sym (good_built (words_of es ++ []) (built_good es fit []) (built_narrow es []))
    ∙ built_words es []

ids_sorted : (es : List Entry) → ids_of (map sorted es) ≡ ids_of es
ids_sorted es = map-map (λ (e : Entry). e.id) sorted es

sorted_again : (es : List Entry) → map sorted (map sorted es) ≡ map sorted es
sorted_again [] = refl
sorted_again (e ∷ es) =
    ap₂ (λ (l : List ℕ) (r : List Entry). record { id = e.id; features = l } ∷ r) (sort_sorted (sort_of e.features) (sorted_sort e.features)) (sorted_again es)

with_sorted : (e : Entry) (es : List Entry) → map sorted (with_entry e es) ≡ with_entry (sorted e) (map sorted es)
with_sorted e [] = ap (map sorted) (with_nil e) ∙ sym (with_nil (sorted e))
with_sorted e (x ∷ es) =
    ⊎_elim
    (λ (h : e.id ≤ x.id). ap (map sorted) (with_met e x es h) ∙ sym (with_met (sorted e) (sorted x) (map sorted es) h))
    (λ (h : x.id < e.id).
    ap (map sorted) (with_passed e x es h)
    ∙ ap (λ (r : List Entry). sorted x ∷ r) (with_sorted e es)
    ∙ sym (with_passed (sorted e) (sorted x) (map sorted es) h))
    (le_or_lt e.id x.id)

-- ---- the names that words give back

module _ (es : List Entry) (fit : Fit es) (rest : List ℕ) where
  pub ids_again : ids_of (entries_in (words_of es ++ rest)) ≡ ids_of es
  ids_again = ap ids_of (built_entries es fit rest) ∙ ids_sorted es

  -- with one more
  pub index_with_again : (e : Entry) → EntryFit e → member e.id (ids_of es) ≡ false → length es < most_names
      → words_of (with_entry e (entries_in (words_of es ++ rest))) ≡ words_of (with_entry e es)
  index_with_again e one unused room =
      ap (λ (l : List Entry). words_of (with_entry e l)) (built_entries es fit rest)
      ∙ sym (words_sorted (with_entry e (map sorted es)) (fit_added e (map sorted es) again one (rw (ids_sorted es) unused) (rw (length-map es sorted) room)))
      ∙ ap words_of
      (with_sorted e (map sorted es)
      ∙ ap (with_entry (sorted e)) (sorted_again es)
      ∙ sym (with_sorted e es))
      ∙ words_sorted (with_entry e es) (fit_added e es fit one unused room)
    where
      again : Fit (map sorted es)
      again = subst Fit (built_entries es fit rest) (good_fit (words_of es ++ rest) (built_good es fit rest) (built_narrow es rest))

  -- with one less
  pub index_without_again : (id : ℕ) → words_of (without_id id (entries_in (words_of es ++ rest))) ≡ words_of (without_id id es)
  index_without_again id =
      ap (λ (l : List Entry). words_of (without_id id l)) (built_entries es fit rest)
      ∙ ap words_of (filter_map (λ (e : Entry). not (eqb e.id id)) sorted es)
      ∙ words_sorted (without_id id es) (fit_withdrawn id es fit)

-- ---- the words of a good index

module _ (w : List ℕ) (g : Good w) (narrow : Narrow w) where
  -- its own index, and what stands behind that
  pub good_split : w ≡ words_of (entries_in w) ++ drop (total w) w
  good_split = sym (take-append-drop (total w) w) ∙ ap (λ (l : List ℕ). l ++ drop (total w) w) (good_built w g narrow)

  pub good_postings : posting_count w ≡ length (all_triples (entries_in w))
  good_postings = ap posting_count good_split ∙ built_posting_count (entries_in w) (drop (total w) w)

  pub good_length : length (words_of (entries_in w)) ≤ length w
  good_length =
      let a = ap length good_split in
      let b = length-append (words_of (entries_in w)) (drop (total w) w) in
      omega arith

-- one name less takes no more words
pub length_index_without : (id : ℕ) (es : List Entry) → Fit es → length (words_of (without_id id es)) ≤ length (words_of es)
length_index_without id es fit =
    let a = length_words es in
    let b = length_words (without_id id es) in
    let c = length_filter (λ (e : Entry). not (eqb e.id id)) es in
    let d = ap length (rows_withdrawn id es fit) in
    let e = length_empty id (rows_of es) in
    let f = rows_postings es in
    let h = sym (rows_postings (without_id id es))
    ∙ ap (λ (r : List Row). length (lists_of r)) (rows_withdrawn id es fit) ∙ ap length (lists_withdrawn id (rows_of es)) in
    let k = length_filter (λ (y : ℕ). not (eqb y id)) (lists_of (rows_of es)) in
    omega arith
