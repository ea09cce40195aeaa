-- The index of given names, `words_of`, whatever words follow it: it is good (`built_good`), its names are the given ones (`built_id`, `built_size`),
-- and each stands for its own features (`built_list`, `built_features`). Cited by whoever writes an index: `ordering` and `register`.
-- The idea: its rows are the runs of the sorted postings, so a question about a row is one about a posting, and that is one about a name.
-- Assumes nothing.
use mathlib.Core.Path.{◌≡◌, refl, sym, ap, ap₂, ◌∙◌}
use mathlib.Core.Logic.{◌⊎◌, inl, inr, ⊎_elim}
use mathlib.Core.Bool.{Bool, true}
use mathlib.Core.List.{List, [], ◌∷◌, ◌++◌, map, map-append, append_assoc}
use Prim.Native.Nat.{ℕ, ◌+◌, ◌*◌, ◌/◌, ◌%◌, ◌-◌, ◌≤◌, ◌<◌}
use native.Mathlib.Nat.{mul-le-mul_right}
use native.Mathlib.Omega.{arith}
use lib.ListN.{length, get_or, take, length-append, length-map, get_or-map}
use lib.Arith.{digits_div, digits_mod}
use lib.Seq.{take-length, take-append_seam}
use lib.Dec.{eqb}
use Rattle.laws.specs.Lists.{member, Ascending, count_of, tabulate, sum_of}
use Rattle.laws.specs.Below.{sum_below}
use Rattle.laws.specs.Sort.{sort_of}
use Rattle.laws.proofs.Members.{member_place, each_at, each_nil, each_cons, each_append}
use Rattle.laws.proofs.Tests.{same_test}
use Rattle.laws.proofs.Order.{le_or_lt}
use Rattle.laws.proofs.Sort.{ascending_nil, ascending_snoc, ascending_step, ascending_unique, ascending_sort, member_sort, length_sort, count_sort}
use Rattle.laws.proofs.Ascending.{ascending_at}
use Rattle.laws.proofs.Images.{sort_map, count_tabulate, tabulate_of}
use Rattle.names.specs.Names.{judge_of}
use Rattle.names.specs.Features.{characters, most_features, features_of}
use Rattle.names.proofs.Laws.{size_within, distinct_features, feature_fits}
use Rattle.words.specs.Words.{name_count, row_count, posting_count, name_word, name_id, name_size, row_size, row_feature, row_place, row_length, row_width, names_start, list_at, total, feature_span}
use Rattle.index.specs.Good.{most_names, most_postings, largest_id, row_before, lists_with, Good}
use Rattle.lists.specs.Lists.{list_in, features_in}
use Rattle.index_writer.specs.Built.{Entry, no_entry, word_of, id_span, triple_of, triples_of, all_triples, Row, no_row, runs_of, lists_of, triples_from, RowFit, RowsFit, row_words, words_from, rows_of, words_of, EntryFit, Fit}
use Rattle.index_writer.specs.Contents.{names_in, row_in, all_rows_in, entry_in, entries_in, Narrow}
use Rattle.index_writer.specs.Plain.{NameOf, Plain}
use Rattle.index.proofs.Facts.{Before, row_before_lem}
use Rattle.index.proofs.Laws.{good_ids_apart}
use Rattle.lists.proofs.Laws.{features_member, features_ascending}
use Rattle.index_writer.proofs.Plain.{plain_good}
use Rattle.index_writer.proofs.Read.{read_name_count, read_row_count, read_posting_count, read_name, read_size, read_feature, read_place, read_length, read_list, read_total, read_sum, read_narrow, read_names, read_rows}
use Rattle.index_writer.proofs.Runs.{length_runs, triples_runs, triples_place, triples_member, runs_fit, count_triples}
use Rattle.index_writer.proofs.Holders.{listed_row, row_list}
use Rattle.index_writer.proofs.Entries.{entries_place, entries_member, length_entries, distinct_entries, count_entries}

-- ---- the rows of names within the limits

module _ (es : List Entry) (fit : Fit es) where
  -- the postings in order
  pub ascending_triples : Ascending (sort_of (all_triples es))
  ascending_triples = ascending_sort (all_triples es) (distinct_entries es fit.ids fit.each)

  pub rows_of_fit : RowsFit (rows_of es)
  unfolding rows_of
  rows_of_fit = runs_fit (sort_of (all_triples es)) ascending_triples

  pub fit_at : (i : ℕ) → i < length es → EntryFit (get_or es i no_entry)
  fit_at i h = each_at EntryFit es i no_entry fit.each h

  pub row_fit_at : (r : ℕ) → r < length (rows_of es) → RowFit (get_or (rows_of es) r no_row)
  row_fit_at r h = each_at RowFit (rows_of es) r no_row rows_of_fit.each h

  pub few_postings : length (all_triples es) ≤ most_postings
  few_postings =
      let a = length_entries es fit.each in
      let b = mul-le-mul_right most_features fit.few in
      omega arith

-- the postings of the rows are those of the names
pub rows_triples : (es : List Entry) (k : ℕ) → member k (triples_from (rows_of es)) ≡ member k (all_triples es)
unfolding rows_of
rows_triples es k = ap (member k) (triples_runs (sort_of (all_triples es))) ∙ member_sort k (all_triples es)

pub rows_counts : (es : List Entry) (t : ℕ → Bool) → count_of t (triples_from (rows_of es)) ≡ count_of t (all_triples es)
unfolding rows_of
rows_counts es t = ap (count_of t) (triples_runs (sort_of (all_triples es))) ∙ count_sort t (all_triples es)

pub rows_postings : (es : List Entry) → length (lists_of (rows_of es)) ≡ length (all_triples es)
unfolding rows_of
rows_postings es = length_runs (sort_of (all_triples es)) ∙ length_sort (all_triples es)

-- how many rows hold an id, over the rows as a list
lists_with_lem : (w : List ℕ) (id : ℕ) → lists_with w id ≡ count_of (λ (x : Row). member id x.list) (all_rows_in w)
unfolding lists_with all_rows_in
lists_with_lem w id = sym (count_tabulate (λ (x : Row). member id x.list) (row_in w) (row_count w))

-- a lower key: a lower size, or the same size and a lower feature
digits_before : (k l : ℕ) → k < l
    → (k / feature_span < l / feature_span) ⊎ ((k / feature_span ≡ l / feature_span) × (k % feature_span < l % feature_span))
digits_before k l h =
    ⊎_elim
    {C = (k / feature_span < l / feature_span) ⊎ ((k / feature_span ≡ l / feature_span) × (k % feature_span < l % feature_span))}
    (λ (c : l / feature_span ≤ k / feature_span).
    let e : k / feature_span ≡ l / feature_span = omega arith in
    inr (e, omega arith))
    (λ (c : k / feature_span < l / feature_span). inl c)
    (le_or_lt (l / feature_span) (k / feature_span))

-- ---- the words of any names, read back

module _ (es : List Entry) (rest : List ℕ) where
  pub built_name_count : name_count (words_of es ++ rest) ≡ length es
  unfolding words_of
  built_name_count = read_name_count (map word_of es) (rows_of es) rest ∙ length-map es word_of

  pub built_row_count : row_count (words_of es ++ rest) ≡ length (rows_of es)
  unfolding words_of
  built_row_count = read_row_count (map word_of es) (rows_of es) rest

  pub built_posting_count : posting_count (words_of es ++ rest) ≡ length (all_triples es)
  unfolding words_of
  built_posting_count = read_posting_count (map word_of es) (rows_of es) rest ∙ rows_postings es

  pub built_total : total (words_of es ++ rest) ≡ length (words_of es)
  unfolding words_of
  built_total = read_total (map word_of es) (rows_of es) rest

  pub built_words : take (total (words_of es ++ rest)) (words_of es ++ rest) ≡ words_of es
  built_words = ap (λ (n : ℕ). take n (words_of es ++ rest)) built_total ∙ take-append_seam (words_of es) rest

  pub built_word : (i : ℕ) → i < length es → name_word (words_of es ++ rest) i ≡ word_of (get_or es i no_entry)
  unfolding words_of
  built_word i h =
      let e = length-map es word_of in
      read_name (map word_of es) (rows_of es) rest i (omega arith) ∙ get_or-map word_of es i no_entry

  pub built_names_in : names_in (words_of es ++ rest) ≡ map word_of es
  unfolding words_of
  built_names_in = read_names (map word_of es) (rows_of es) rest

  pub built_rows : all_rows_in (words_of es ++ rest) ≡ rows_of es
  unfolding words_of
  built_rows = read_rows (map word_of es) (rows_of es) rest

  pub built_narrow : Narrow (words_of es ++ rest)
  unfolding words_of
  built_narrow = read_narrow (map word_of es) (rows_of es) rest

  -- what a row's words hold, by the row that was written
  row_count_lt : (r : ℕ) → r < row_count (words_of es ++ rest) → r < length (rows_of es)
  row_count_lt r h = let e = built_row_count in omega arith

  pub built_row_size : (r : ℕ) → r < row_count (words_of es ++ rest) → row_size (words_of es ++ rest) r ≡ (get_or (rows_of es) r no_row).key / feature_span
  unfolding words_of
  built_row_size r h = read_size (map word_of es) (rows_of es) rest r (row_count_lt r h)

  pub built_row_feature : (r : ℕ) → r < row_count (words_of es ++ rest)
      → row_feature (words_of es ++ rest) r ≡ (get_or (rows_of es) r no_row).key % feature_span
  unfolding words_of
  built_row_feature r h = read_feature (map word_of es) (rows_of es) rest r (row_count_lt r h)

  pub built_row_length : (r : ℕ) → r < row_count (words_of es ++ rest)
      → row_length (words_of es ++ rest) r ≡ length (get_or (rows_of es) r no_row).list
  unfolding words_of
  built_row_length r h = read_length (map word_of es) (rows_of es) rest r (row_count_lt r h)

  pub built_row_list : (r : ℕ) → r < row_count (words_of es ++ rest) → list_at (words_of es ++ rest) r ≡ (get_or (rows_of es) r no_row).list
  unfolding words_of
  built_row_list r h = read_list (map word_of es) (rows_of es) rest r (row_count_lt r h)

  -- the counts of the first rows sum to the place of the next
  built_place : (r : ℕ) → r < row_count (words_of es ++ rest)
      → row_place (words_of es ++ rest) r ≡ sum_below r (row_length (words_of es ++ rest))
  unfolding words_of
  built_place r h =
      let b = row_count_lt r h in
      read_place (map word_of es) (rows_of es) rest r b ∙ sym (read_sum (map word_of es) (rows_of es) rest r (omega arith))

  built_sum : sum_below (row_count (words_of es ++ rest)) (row_length (words_of es ++ rest)) ≡ posting_count (words_of es ++ rest)
  unfolding words_of
  built_sum =
      ap (λ (n : ℕ). sum_below n (row_length (words_of es ++ rest))) built_row_count
      ∙ read_sum (map word_of es) (rows_of es) rest (length (rows_of es)) (omega arith)
      ∙ ap (λ (l : List Row). length (lists_of l)) (take-length (rows_of es))
      ∙ sym (read_posting_count (map word_of es) (rows_of es) rest)

-- ---- the words of names within the limits

module _ (es : List Entry) (fit : Fit es) (rest : List ℕ) where
  -- `built-names`, its two halves: name i's id and size are entry i's
  pub built_id : (i : ℕ) → i < length es → name_id (words_of es ++ rest) i ≡ (get_or es i no_entry).id
  unfolding name_id
  built_id i h =
      let e = built_word es rest i h in
      let a = (fit_at es fit i h).most in
      omega arith

  pub built_size : (i : ℕ) → i < length es → name_size (words_of es ++ rest) i ≡ length (get_or es i no_entry).features
  unfolding name_size
  built_size i h =
      let e = built_word es rest i h in
      let a = (fit_at es fit i h).most in
      omega arith

  name_count_lt : (i : ℕ) → i < name_count (words_of es ++ rest) → i < length es
  name_count_lt i h = let e = built_name_count es rest in omega arith

  -- a posting of a row is one of a name
  pub row_entry : (r id : ℕ) → r < row_count (words_of es ++ rest) → member id (list_at (words_of es ++ rest) r) ≡ true
      → (i : ℕ)
      × (i < length es)
      × ((get_or es i no_entry).id ≡ id)
      × (length (get_or es i no_entry).features ≡ row_size (words_of es ++ rest) r)
      × (member (row_feature (words_of es ++ rest) r) (get_or es i no_entry).features ≡ true)
  row_entry r id h m =
      let row : Row = get_or (rows_of es) r no_row in
      let b = row_count_lt es rest r h in
      let n : member id row.list ≡ true = ap (member id) (sym (built_row_list es rest r h)) ∙ m in
      let t = sym (rows_triples es (row.key * id_span + id)) ∙ triples_member (rows_of es) r id b n in
      let p = entries_place es (row.key * id_span + id) t in
      let a = (fit_at es fit p.0 p.1).id in
      let c = (fit_at es fit p.0 p.1).below p.2 p.3 in
      let d = (row_fit_at es fit r b).ids id n in
      let s = built_row_size es rest r h in
      let g = built_row_feature es rest r h in
      let q = p.4 in
      let e : p.2 ≡ row_feature (words_of es ++ rest) r = omega arith in
      (p.0, p.1, omega arith, omega arith, ap (λ (x : ℕ). member x (get_or es p.0 no_entry).features) (sym e) ∙ p.3)

  -- and the other way round
  pub entry_row : (i f : ℕ) → i < length es → member f (get_or es i no_entry).features ≡ true
      → (r : ℕ)
      × (r < row_count (words_of es ++ rest))
      × (row_size (words_of es ++ rest) r ≡ length (get_or es i no_entry).features)
      × (row_feature (words_of es ++ rest) r ≡ f)
      × (member (get_or es i no_entry).id (list_at (words_of es ++ rest) r) ≡ true)
  entry_row i f h m =
      let k : ℕ = triple_of (length (get_or es i no_entry).features) f (get_or es i no_entry).id in
      let t = rows_triples es k ∙ entries_member es i f h m in
      let p = triples_place (rows_of es) k t in
      let l = p.1 in
      let u = built_row_count es rest in
      let b : p.0 < row_count (words_of es ++ rest) = omega arith in
      let a = (fit_at es fit i h).id in
      let c = (fit_at es fit i h).below f m in
      let d = (row_fit_at es fit p.0 p.1).ids p.2 p.3 in
      let s = built_row_size es rest p.0 b in
      let g = built_row_feature es rest p.0 b in
      let q = p.4 in
      let e : p.2 ≡ (get_or es i no_entry).id = omega arith in
      let z : (get_or (rows_of es) p.0 no_row).key ≡ length (get_or es i no_entry).features * feature_span + f = omega arith in (
        p.0,
        b,
        s ∙ ap (λ (n : ℕ). n / feature_span) z ∙ digits_div (length (get_or es i no_entry).features) c,
        g ∙ ap (λ (n : ℕ). n % feature_span) z ∙ digits_mod (length (get_or es i no_entry).features) c,
        ap₂ (λ (x : ℕ) (v : List ℕ). member x v) (sym e) (built_row_list es rest p.0 b) ∙ p.3,
      )

  built_plain : Plain (words_of es ++ rest)
  unfolding Before
  built_plain =
      record {
        head = (let a = built_total es rest in let b = length-append (words_of es) rest in omega arith);
        few = (let a = built_name_count es rest in let b = fit.few in omega arith);
        postings = (let a = built_posting_count es rest in let b = few_postings es fit in omega arith);
        room = (let a = built_total es rest in let b = length-append (words_of es) rest in omega arith);
        id = λ i h. (let l = name_count_lt i h in let e = built_id i l in let a = (fit_at es fit i l).id in omega arith);
        least = λ i h. (let l = name_count_lt i h in let e = built_size i l in let a = (fit_at es fit i l).least in omega arith);
        most = λ i h. (let l = name_count_lt i h in let e = built_size i l in let a = (fit_at es fit i l).most in omega arith);
        ids = ids_up;
        some = λ r h. (let e = built_row_length es rest r h in let a = (row_fit_at es fit r (row_count_lt es rest r h)).some in omega arith);
        place = built_place es rest;
        rows = rows_up;
        sum = built_sum es rest;
        up = λ r h. rw (built_row_list es rest r h) (row_fit_at es fit r (row_count_lt es rest r h)).up;
        named = named;
        held = held;
      }
    where
      ids_up : (i : ℕ) → i + 1 < name_count (words_of es ++ rest) → name_id (words_of es ++ rest) i < name_id (words_of es ++ rest) (i + 1)
      ids_up i h =
          let l = name_count_lt (i + 1) h in
          let n = length-map es (λ (e : Entry). e.id) in
          let a = ascending_step (map (λ (e : Entry). e.id) es) fit.ids i (omega arith) in
          let p = get_or-map (λ (e : Entry). e.id) es i no_entry in
          let q = get_or-map (λ (e : Entry). e.id) es (i + 1) no_entry in
          let u = built_id i (omega arith) in
          let v = built_id (i + 1) l in
          omega arith

      rows_up : (r : ℕ) → r + 1 < row_count (words_of es ++ rest) → row_before (words_of es ++ rest) r (r + 1) ≡ true
      rows_up r h =
          let l = row_count_lt es rest (r + 1) h in
          let n = length-map (rows_of es) (λ (x : Row). x.key) in
          let a = ascending_step (map (λ (x : Row). x.key) (rows_of es)) (rows_of_fit es fit).keys r (omega arith) in
          let p = get_or-map (λ (x : Row). x.key) (rows_of es) r no_row in
          let q = get_or-map (λ (x : Row). x.key) (rows_of es) (r + 1) no_row in
          let c = digits_before (get_or (rows_of es) r no_row).key (get_or (rows_of es) (r + 1) no_row).key (omega arith) in
          let s = built_row_size es rest r (omega arith) in
          let t = built_row_size es rest (r + 1) h in
          let u = built_row_feature es rest r (omega arith) in
          let v = built_row_feature es rest (r + 1) h in
          row_before_lem (words_of es ++ rest) r (r + 1) (rw (s, t, u, v) c)

      named : (r id : ℕ) → r < row_count (words_of es ++ rest) → member id (list_at (words_of es ++ rest) r) ≡ true
          → NameOf (words_of es ++ rest) (row_size (words_of es ++ rest) r) id
      named r id h m =
          let p = row_entry r id h m in
          let a = built_name_count es rest in
          let b = p.1 in
          (p.0, omega arith, built_id p.0 b ∙ p.2, built_size p.0 b ∙ p.3)

      held : (i : ℕ) → i < name_count (words_of es ++ rest)
          → lists_with (words_of es ++ rest) (name_id (words_of es ++ rest) i) ≡ name_size (words_of es ++ rest) i
      held i h =
          let l = name_count_lt i h in
          ap (lists_with (words_of es ++ rest)) (built_id i l)
          ∙ lists_with_lem (words_of es ++ rest) (get_or es i no_entry).id
          ∙ ap (count_of (λ (x : Row). member (get_or es i no_entry).id x.list)) (built_rows es rest)
          ∙ count_triples (get_or es i no_entry).id (rows_of es) (rows_of_fit es fit).each
          ∙ rows_counts es (λ (k : ℕ). eqb (k % id_span) (get_or es i no_entry).id)
          ∙ count_entries es fit.ids fit.each i l
          ∙ sym (built_size i l)

  -- the index of names within the limits is good
  pub built_good : Good (words_of es ++ rest)
  built_good = plain_good (words_of es ++ rest) built_plain

  entry_unique : (i j : ℕ) → i < length es → j < length es → (get_or es i no_entry).id ≡ (get_or es j no_entry).id → i ≡ j
  entry_unique i j h k e =
      let n = built_name_count es rest in
      good_ids_apart (words_of es ++ rest) built_good i j (omega arith) (omega arith) (built_id i h ∙ e ∙ sym (built_id j k))

  -- whatever is listed, under any size and feature, is a name of that size with that feature
  pub built_listed : (size f id : ℕ) → member id (list_in (words_of es ++ rest) size f) ≡ true
      → (i : ℕ)
      × (i < length es)
      × ((get_or es i no_entry).id ≡ id)
      × (length (get_or es i no_entry).features ≡ size)
      × (member f (get_or es i no_entry).features ≡ true)
  built_listed size f id m =
      let p = listed_row (words_of es ++ rest) size f id m in
      let q = row_entry p.0 id p.1 p.4 in
      (q.0, q.1, q.2, q.3 ∙ p.2, ap (λ (x : ℕ). member x (get_or es q.0 no_entry).features) (sym p.3) ∙ q.4)

  -- the list of a name's size and a feature holds it exactly if the feature is its own
  pub built_list : (i f : ℕ) → i < length es
      → member (get_or es i no_entry).id (list_in (words_of es ++ rest) (length (get_or es i no_entry).features) f)
      ≡ member f (get_or es i no_entry).features
  built_list i f h =
      same_test
      (member (get_or es i no_entry).id (list_in (words_of es ++ rest) (length (get_or es i no_entry).features) f))
      (member f (get_or es i no_entry).features)
      (λ m.
      let p = built_listed (length (get_or es i no_entry).features) f (get_or es i no_entry).id m in
      ap (λ (j : ℕ). member f (get_or es j no_entry).features) (sym (entry_unique p.0 i p.1 h p.2)) ∙ p.4)
      (λ m.
      let p = entry_row i f h m in
      ap (member (get_or es i no_entry).id)
      (ap₂ (list_in (words_of es ++ rest)) (sym p.2) (sym p.3) ∙ row_list (words_of es ++ rest) built_good p.0 p.1)
      ∙ p.4)

  -- a name stands for its own features
  pub built_features : (i f : ℕ) → i < length es
      → member f (features_in (words_of es ++ rest) (get_or es i no_entry).id) ≡ member f (get_or es i no_entry).features
  built_features i f h =
      let n = built_name_count es rest in
      ap (λ (x : ℕ). member f (features_in (words_of es ++ rest) x)) (sym (built_id i h))
      ∙ features_member (words_of es ++ rest) built_good i (omega arith) f
      ∙ ap₂ (λ (x y : ℕ). member x (list_in (words_of es ++ rest) y f)) (built_id i h) (built_size i h)
      ∙ built_list i f h

  -- in ascending order
  pub built_sorted : (i : ℕ) → i < length es
      → features_in (words_of es ++ rest) (get_or es i no_entry).id ≡ sort_of (get_or es i no_entry).features
  built_sorted i h =
      ascending_unique
      (features_in (words_of es ++ rest) (get_or es i no_entry).id)
      (sort_of (get_or es i no_entry).features)
      (features_ascending (words_of es ++ rest) built_good (get_or es i no_entry).id)
      (ascending_sort (get_or es i no_entry).features (fit_at es fit i h).distinct)
      (λ f. built_features i f h ∙ sym (member_sort f (get_or es i no_entry).features))

  -- read back, the names are the given ones, each with its features in ascending order
  pub built_entries : entries_in (words_of es ++ rest) ≡ map (λ (e : Entry). record { id = e.id; features = sort_of e.features }) es
  unfolding entries_in
  built_entries =
      ap (tabulate (entry_in (words_of es ++ rest))) (built_name_count es rest)
      ∙ sym (tabulate_of (entry_in (words_of es ++ rest)) (length es) (put no_entry) (map put es) (length-map es put) same)
    where
      put : Entry → Entry
      put e = record { id = e.id; features = sort_of e.features }

      same : (i : ℕ) → i < length es → get_or (map put es) i (put no_entry) ≡ entry_in (words_of es ++ rest) i
      same i h =
          get_or-map put es i no_entry
          ∙ sym (λ j. record { id = built_id i h j; features = (ap (features_in (words_of es ++ rest)) (built_id i h) ∙ built_sorted i h) j })

-- ---- names within the limits, one by one

pub fit_nil : Fit []
fit_nil = record { few = omega arith; ids = ascending_nil; each = each_nil EntryFit }

-- one name more, its id above the one before
pub fit_snoc : (es : List Entry) (e : Entry) → Fit es → EntryFit e → length es < most_names
    → ((i : ℕ) → i + 1 ≡ length es → (get_or es i no_entry).id < e.id) → Fit (es ++ (e ∷ []))
fit_snoc es e fit one few up =
    record {
      few = (let n = length-append es (e ∷ []) in omega arith);
      ids = rw (map-append (λ (x : Entry). x.id) es (e ∷ [])) (ascending_snoc (map (λ (x : Entry). x.id) es) e.id fit.ids below);
      each = each_append EntryFit es (e ∷ []) fit.each (each_cons EntryFit e [] one (each_nil EntryFit));
    }
  where
    ids : List ℕ
    ids = map (λ (x : Entry). x.id) es

    below : (y : ℕ) → member y ids ≡ true → y < e.id
    below y m =
        let p = member_place y ids m in
        let n = length-map es (λ (x : Entry). x.id) in
        let b = p.1 in
        let q = p.2 in
        let z : ℕ = length es - 1 in
        let v = get_or-map (λ (x : Entry). x.id) es z no_entry in
        let u = up z (omega arith) in
        ⊎_elim
        (λ (h : z ≤ p.0).
        let k : p.0 ≡ z = omega arith in
        let l = ap (λ (j : ℕ). get_or ids j 0) k in
        omega arith)
        (λ (h : p.0 < z). let l = ascending_at ids fit.ids p.0 z h (omega arith) in omega arith)
        (le_or_lt z p.0)

-- a register name with an id fits
pub name_fit : (s : List ℕ) (id : ℕ) → judge_of s ≡ 0 → ((j : ℕ) → get_or s j 0 < characters) → id ≤ largest_id
    → EntryFit (record { id = id; features = features_of s })
name_fit s id g bytes l =
    record {
      id = l;
      least = (size_within s g).0;
      most = (size_within s g).1;
      distinct = distinct_features s;
      below = λ f m. (let p = member_place f (features_of s) m in let b = feature_fits s bytes p.0 in let e = p.2 in omega arith);
    }

-- the postings name after name
pub triples_append : (es fs : List Entry) → all_triples (es ++ fs) ≡ all_triples es ++ all_triples fs
unfolding all_triples
triples_append [] fs = refl
triples_append (e ∷ es) fs = ap (λ (l : List ℕ). triples_of e ++ l) (triples_append es fs) ∙ sym (append_assoc (triples_of e) (all_triples es) (all_triples fs))

-- as many as the sizes of the names add up to
pub length_triples : (es : List Entry) → length (all_triples es) ≡ sum_of (map (λ (e : Entry). length e.features) es)
unfolding all_triples triples_of sum_of
length_triples [] = refl
length_triples (e ∷ es) =
    length-append (triples_of e) (all_triples es)
    ∙ ap₂ ◌+◌ (length-map e.features (λ (f : ℕ). triple_of (length e.features) f e.id)) (length_triples es)

-- those of one name in order are those of its features in order
pub triples_sort : (e : Entry) → sort_of (triples_of e) ≡ map (λ (f : ℕ). triple_of (length e.features) f e.id) (sort_of e.features)
unfolding triples_of
triples_sort e = sort_map (λ (f : ℕ). triple_of (length e.features) f e.id) (λ x y h. omega arith) e.features

-- the index of no names
pub built_nil : words_of [] ≡ 0 ∷ 0 ∷ 0 ∷ []
unfolding words_of words_from rows_of all_triples sort_of runs_of lists_of row_words
built_nil = refl

-- how many words it takes
pub length_words : (es : List Entry) → length (words_of es) ≡ names_start + length es + row_width * length (rows_of es) + length (all_triples es)
length_words es =
    let t = built_total es [] in
    let a = built_name_count es [] in
    let b = built_row_count es [] in
    let c = built_posting_count es [] in
    omega arith
