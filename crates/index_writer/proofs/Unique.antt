-- A good index is the index of its own names and features (`good_built`), so it is fixed by them: `good_words`, `good_unique`, `built_same`.
-- The idea: its rows are the runs of their own postings, these ascend, and an ascending list is fixed by its members.
-- Cited by whoever changes an index in place.
-- Assumes nothing.
use mathlib.Core.Path.{◌≡◌, sym, ap, ap₂, ◌∙◌}
use mathlib.Core.Bool.{true}
use mathlib.Core.List.{List, [], ◌++◌, map}
use Prim.Native.Nat.{ℕ, ◌+◌, ◌*◌, ◌<◌}
use native.Mathlib.Omega.{arith}
use lib.ListN.{length, get_or, take, length-map, get_or-map}
use lib.Seq.{ext_get_or}
use Rattle.laws.specs.Lists.{member, tabulate}
use Rattle.laws.specs.Sort.{sort_of}
use Rattle.laws.proofs.Lists.{length_tabulate, get_d_tabulate, tabulate_ext}
use Rattle.laws.proofs.Tests.{same_test}
use Rattle.laws.proofs.Sort.{ascending_distinct, ascending_unique, ascending_sort, member_sort, length_sort, sort_same}
use Rattle.laws.proofs.Images.{ascending_tabulate, map_tabulate, each_tabulate}
use Rattle.words.specs.Words.{name_count, row_count, name_word, name_id, name_size, row_size, row_feature, list_at, total}
use Rattle.index.specs.Good.{Good}
use Rattle.lists.specs.Lists.{features_in}
use Rattle.index_writer.specs.Built.{Entry, no_entry, word_of, id_span, triple_of, all_triples, Row, no_row, triples_from, runs_of, words_from, rows_of, words_of, EntryFit, Fit}
use Rattle.index_writer.specs.Contents.{names_in, row_in, all_rows_in, entry_in, entries_in, Narrow}
use Rattle.index_writer.specs.Plain.{Plain}
use Rattle.lists.proofs.Laws.{holder_size, features_length, features_row, row_features, features_ascending}
use Rattle.index_writer.proofs.Plain.{good_plain}
use Rattle.index_writer.proofs.Read.{words_in}
use Rattle.index_writer.proofs.Runs.{runs_unique, triples_place, triples_member, triples_ascending}
use Rattle.index_writer.proofs.Holders.{rows_fit}
use Rattle.index_writer.proofs.Entries.{entries_place, entries_member, distinct_entries}
use Rattle.index_writer.proofs.Built.{fit_at, built_name_count, built_id, built_features, built_good, built_narrow, built_words, built_names_in}

-- ---- what stands in any words, by place

name_in : (w : List ℕ) (i : ℕ) → i < name_count w → get_or (names_in w) i 0 ≡ name_word w i
unfolding names_in
name_in w i h = get_d_tabulate (name_word w) (name_count w) i 0 h

row_in_lem : (w : List ℕ) (r : ℕ) → r < row_count w → get_or (all_rows_in w) r no_row ≡ row_in w r
unfolding all_rows_in
row_in_lem w r h = get_d_tabulate (row_in w) (row_count w) r no_row h

entry_in_lem : (w : List ℕ) (i : ℕ) → i < name_count w → get_or (entries_in w) i no_entry ≡ entry_in w i
unfolding entries_in
entry_in_lem w i h = get_d_tabulate (entry_in w) (name_count w) i no_entry h

length_names_in : (w : List ℕ) → length (names_in w) ≡ name_count w
unfolding names_in
length_names_in w = length_tabulate (name_word w) (name_count w)

length_rows_in : (w : List ℕ) → length (all_rows_in w) ≡ row_count w
unfolding all_rows_in
length_rows_in w = length_tabulate (row_in w) (row_count w)

length_entries_in : (w : List ℕ) → length (entries_in w) ≡ name_count w
unfolding entries_in
length_entries_in w = length_tabulate (entry_in w) (name_count w)

-- ---- the postings of any words, by row and by name

rows_in_place : (w : List ℕ) (k : ℕ) → member k (triples_from (all_rows_in w)) ≡ true
    → (r : ℕ) × (r < row_count w) × (id : ℕ) × (member id (list_at w r) ≡ true) × (triple_of (row_size w r) (row_feature w r) id ≡ k)
rows_in_place w k m =
    let p = triples_place (all_rows_in w) k m in
    let n = length_rows_in w in
    let b = p.1 in
    let h : p.0 < row_count w = omega arith in
    let e = row_in_lem w p.0 h in (
      p.0,
      h,
      p.2,
      ap (λ (x : Row). member p.2 x.list) (sym e) ∙ p.3,
      ap (λ (x : Row). x.key * id_span + p.2) (sym e) ∙ p.4,
    )

rows_in_member : (w : List ℕ) (r id : ℕ) → r < row_count w → member id (list_at w r) ≡ true
    → member (triple_of (row_size w r) (row_feature w r) id) (triples_from (all_rows_in w)) ≡ true
rows_in_member w r id h m =
    let n = length_rows_in w in
    let e = row_in_lem w r h in
    ap (λ (x : Row). member (x.key * id_span + id) (triples_from (all_rows_in w))) (sym e)
    ∙ triples_member (all_rows_in w) r id (omega arith) (ap (λ (x : Row). member id x.list) e ∙ m)

entries_in_place : (w : List ℕ) (k : ℕ) → member k (all_triples (entries_in w)) ≡ true
    → (i : ℕ)
    × (i < name_count w)
    × (f : ℕ)
    × (member f (features_in w (name_id w i)) ≡ true)
    × (triple_of (length (features_in w (name_id w i))) f (name_id w i) ≡ k)
entries_in_place w k m =
    let p = entries_place (entries_in w) k m in
    let n = length_entries_in w in
    let b = p.1 in
    let h : p.0 < name_count w = omega arith in
    let e = entry_in_lem w p.0 h in (
      p.0,
      h,
      p.2,
      ap (λ (x : Entry). member p.2 x.features) (sym e) ∙ p.3,
      ap (λ (x : Entry). triple_of (length x.features) p.2 x.id) (sym e) ∙ p.4,
    )

entries_in_member : (w : List ℕ) (i f : ℕ) → i < name_count w → member f (features_in w (name_id w i)) ≡ true
    → member (triple_of (length (features_in w (name_id w i))) f (name_id w i)) (all_triples (entries_in w)) ≡ true
entries_in_member w i f h m =
    let n = length_entries_in w in
    let e = entry_in_lem w i h in
    ap (λ (x : Entry). member (triple_of (length x.features) f x.id) (all_triples (entries_in w))) (sym e)
    ∙ entries_member (entries_in w) i f (omega arith) (ap (λ (x : Entry). member f x.features) e ∙ m)

-- ---- a good index is that of its own names

module _ (w : List ℕ) (g : Good w) (narrow : Narrow w) where
  facts : Plain w
  facts = good_plain w g

  pub good_fit : Fit (entries_in w)
  unfolding entries_in
  good_fit =
      record {
        few = (let n = length_tabulate (entry_in w) (name_count w) in let b = facts.few in omega arith);
        ids = rw (map_tabulate (λ (e : Entry). e.id) (entry_in w) (name_count w)) (ascending_tabulate (name_id w) (name_count w) facts.ids);
        each = each_tabulate EntryFit (entry_in w) (name_count w) fit;
      }
    where
      fit : (i : ℕ) → i < name_count w → EntryFit (entry_in w i)
      fit i h =
          let s = features_length w g i h in
          record {
            id = facts.id i h;
            least = (let b = facts.least i h in omega arith);
            most = (let b = facts.most i h in omega arith);
            distinct = ascending_distinct (features_in w (name_id w i)) (features_ascending w g (name_id w i));
            below = λ f m. (let p = features_row w (name_id w i) f m in let b = narrow p.0 p.1 in let e = p.3 in omega arith);
          }

  pub good_names : names_in w ≡ map word_of (entries_in w)
  unfolding names_in entries_in name_id name_size
  good_names =
      tabulate_ext (name_word w) (λ (i : ℕ). word_of (entry_in w i)) (name_count w) same
      ∙ sym (map_tabulate word_of (entry_in w) (name_count w))
    where
      same : (i : ℕ) → i < name_count w → name_word w i ≡ word_of (entry_in w i)
      same i h = let s = features_length w g i h in omega arith

  good_triples : triples_from (all_rows_in w) ≡ sort_of (all_triples (entries_in w))
  good_triples =
      ascending_unique (triples_from (all_rows_in w)) (sort_of (all_triples (entries_in w)))
      (triples_ascending (all_rows_in w) (rows_fit w g narrow))
      (ascending_sort (all_triples (entries_in w)) (distinct_entries (entries_in w) good_fit.ids good_fit.each))
      (λ k. same_test (member k (triples_from (all_rows_in w))) (member k (all_triples (entries_in w))) (there k) (back k) ∙ sym (member_sort k (all_triples (entries_in w))))
    where
      there : (k : ℕ) → member k (triples_from (all_rows_in w)) ≡ true → member k (all_triples (entries_in w)) ≡ true
      there k m =
          let p = rows_in_place w k m in
          let q = facts.named p.0 p.2 p.1 p.3 in
          let s = features_length w g q.0 q.1 in
          let e : triple_of (length (features_in w (name_id w q.0))) (row_feature w p.0) (name_id w q.0) ≡ k =
          ap₂ (λ (y x : ℕ). triple_of y (row_feature w p.0) x) (s ∙ q.3) q.2 ∙ p.4
          in
          ap (λ (x : ℕ). member x (all_triples (entries_in w))) (sym e)
          ∙ entries_in_member w q.0 (row_feature w p.0) q.1
          (row_features w (name_id w q.0) p.0 p.1 (ap (λ (x : ℕ). member x (list_at w p.0)) q.2 ∙ p.3))

      back : (k : ℕ) → member k (all_triples (entries_in w)) ≡ true → member k (triples_from (all_rows_in w)) ≡ true
      back k m =
          let p = entries_in_place w k m in
          let q = features_row w (name_id w p.0) p.2 p.3 in
          let s = features_length w g p.0 p.1 in
          let t = holder_size w g p.0 p.1 q.0 q.1 q.2 in
          let e : triple_of (row_size w q.0) (row_feature w q.0) (name_id w p.0) ≡ k =
          ap₂ (λ (y x : ℕ). triple_of y x (name_id w p.0)) (t ∙ sym s) q.3 ∙ p.4
          in
          ap (λ (x : ℕ). member x (triples_from (all_rows_in w))) (sym e) ∙ rows_in_member w q.0 (name_id w p.0) q.1 q.2

  pub good_rows : all_rows_in w ≡ rows_of (entries_in w)
  unfolding rows_of
  good_rows = sym (runs_unique (all_rows_in w) (rows_fit w g narrow)) ∙ ap runs_of good_triples

  -- up to its total, it is written by its own name words and rows
  pub good_written : take (total w) w ≡ words_from (names_in w) (all_rows_in w)
  good_written = words_in w facts narrow

  -- up to its total, it is the index of the names and features in it
  pub good_built : take (total w) w ≡ words_of (entries_in w)
  unfolding words_of
  good_built = good_written ∙ ap₂ words_from good_names good_rows

-- ---- so it is fixed by its names and features

same_id : (w v : List ℕ) (i : ℕ) → name_word w i ≡ name_word v i → name_id w i ≡ name_id v i
unfolding name_id
same_id w v i e = rw e

-- the same name words
same_names : (w v : List ℕ) → names_in w ≡ names_in v → (name_count w ≡ name_count v) × ((i : ℕ) → i < name_count w → name_word w i ≡ name_word v i)
same_names w v e = (n, λ i h. sym (name_in w i h) ∙ ap (λ (l : List ℕ). get_or l i 0) e ∙ name_in v i (rw n at h))
  where
    n : name_count w ≡ name_count v
    n = sym (length_names_in w) ∙ ap length e ∙ length_names_in v

-- two good indexes with the same names and the same features of each have the same words up to their totals
pub good_unique : (w v : List ℕ) → Good w → Good v → Narrow w → Narrow v → names_in w ≡ names_in v
    → ((i f : ℕ) → i < name_count w → member f (features_in w (name_id w i)) ≡ member f (features_in v (name_id w i)))
    → take (total w) w ≡ take (total v) v
unfolding entries_in
good_unique w v g h narrow wide e same =
    good_built w g narrow
    ∙ ap words_of
    (tabulate_ext (entry_in w) (entry_in v) (name_count w) entry
    ∙ ap (tabulate (entry_in v)) (same_names w v e).0)
    ∙ sym (good_built v h wide)
  where
    entry : (i : ℕ) → i < name_count w → entry_in w i ≡ entry_in v i
    entry i b = λ j. record { id = id j; features = features j }
      where
        id : name_id w i ≡ name_id v i
        id = same_id w v i ((same_names w v e).1 i b)

        features : features_in w (name_id w i) ≡ features_in v (name_id v i)
        features =
            ascending_unique (features_in w (name_id w i)) (features_in v (name_id v i))
            (features_ascending w g (name_id w i))
            (features_ascending v h (name_id v i))
            (λ f. same i f b ∙ ap (λ (x : ℕ). member f (features_in v x)) id)

-- a good index with the names and features of given names is their index
pub good_words : (w : List ℕ) (es : List Entry) → Good w → Narrow w → Fit es → names_in w ≡ map word_of es
    → ((i f : ℕ) → i < length es → member f (features_in w (get_or es i no_entry).id) ≡ member f (get_or es i no_entry).features)
    → take (total w) w ≡ words_of es
good_words w es g narrow fit e same =
    good_unique w (words_of es ++ []) g (built_good es fit []) narrow (built_narrow es []) names features ∙ built_words es []
  where
    names : names_in w ≡ names_in (words_of es ++ [])
    names = e ∙ sym (built_names_in es [])

    count : name_count w ≡ length es
    count = (same_names w (words_of es ++ []) names).0 ∙ built_name_count es []

    id : (i : ℕ) → i < length es → name_id w i ≡ (get_or es i no_entry).id
    id i h = same_id w (words_of es ++ []) i ((same_names w (words_of es ++ []) names).1 i (rw count h)) ∙ built_id es fit [] i h

    features : (i f : ℕ) → i < name_count w → member f (features_in w (name_id w i)) ≡ member f (features_in (words_of es ++ []) (name_id w i))
    features i f b =
        let h : i < length es = rw count at b in
        ap (λ (x : ℕ). member f (features_in w x)) (id i h)
        ∙ same i f h
        ∙ sym (built_features es fit [] i f h)
        ∙ ap (λ (x : ℕ). member f (features_in (words_of es ++ []) x)) (sym (id i h))

-- the order in which a name's features are given does not matter
pub built_same : (es fs : List Entry) → Fit es → Fit fs → map (λ (e : Entry). e.id) es ≡ map (λ (e : Entry). e.id) fs
    → ((i f : ℕ) → i < length es → member f (get_or es i no_entry).features ≡ member f (get_or fs i no_entry).features)
    → words_of es ≡ words_of fs
built_same es fs fit git e same =
    sym (built_words es []) ∙ good_words (words_of es ++ []) fs (built_good es fit []) (built_narrow es []) git (built_names_in es [] ∙ words) features
  where
    count : length es ≡ length fs
    count = sym (length-map es (λ (x : Entry). x.id)) ∙ ap length e ∙ length-map fs (λ (x : Entry). x.id)

    id : (i : ℕ) → (get_or es i no_entry).id ≡ (get_or fs i no_entry).id
    id i =
        sym (get_or-map (λ (x : Entry). x.id) es i no_entry)
        ∙ ap (λ (l : List ℕ). get_or l i 0) e
        ∙ get_or-map (λ (x : Entry). x.id) fs i no_entry

    size : (i : ℕ) → i < length es → length (get_or es i no_entry).features ≡ length (get_or fs i no_entry).features
    size i h =
        sym (length_sort (get_or es i no_entry).features)
        ∙ ap length
        (sort_same (get_or es i no_entry).features (get_or fs i no_entry).features
        (fit_at es fit i h).distinct (fit_at fs git i (rw count at h)).distinct (λ f. same i f h))
        ∙ length_sort (get_or fs i no_entry).features

    word : (i : ℕ) → i < length es → word_of (get_or es i no_entry) ≡ word_of (get_or fs i no_entry)
    word i h = ap₂ (λ (x n : ℕ). x * 256 + n) (id i) (size i h)

    words : map word_of es ≡ map word_of fs
    words =
        ext_get_or 0 (map word_of es) (map word_of fs)
        (length-map es word_of ∙ count ∙ sym (length-map fs word_of))
        (λ i h. get_or-map word_of es i no_entry ∙ word i (rw (length-map es word_of) at h) ∙ sym (get_or-map word_of fs i no_entry))

    features : (i f : ℕ) → i < length fs → member f (features_in (words_of es ++ []) (get_or fs i no_entry).id) ≡ member f (get_or fs i no_entry).features
    features i f h =
        let b : i < length es = rw count h in
        ap (λ (x : ℕ). member f (features_in (words_of es ++ []) x)) (sym (id i)) ∙ built_features es fit [] i f b ∙ same i f b
