-- A name withdrawn from a good index, step by step: the places of the words that go with it (`cuts_put`), what `take_out` and `settle` ask
-- (`cuts_rise`, `cuts_below`, `settle_asks`), and that the index of the other names is left (`name_less`). For the proofs of `withdraw_with` and `withdraw`.
-- Assumes nothing.
use mathlib.Core.Path.{◌≡◌, sym, ap, ap₂, ◌∙◌}
use mathlib.Core.List.{List, [], ◌∷◌, ◌++◌, map, append_assoc}
use Prim.Native.Nat.{ℕ, suc, ◌+◌, ◌*◌, ◌-◌, ◌/◌, ◌^◌, ◌≤◌, ◌<◌}
use native.Mathlib.Numerals.{add-one}
use native.Mathlib.Omega.{arith}
use lib.ListN.{length, get_or, take, drop, set, length-append, length-drop, length-map}
use lib.Seq.{length-take-le, get_or-take, take_at, drop_at}
use Rattle.laws.specs.Lists.{Ascending}
use Rattle.laws.specs.Each.{Each}
use Rattle.laws.proofs.Lists.{length_tabulate, get_d_tabulate}
use Rattle.laws.proofs.Members.{each_first, each_rest, each_at}
use Rattle.laws.proofs.Sort.{ascending_nil}
use Rattle.names.specs.Features.{most_features}
use Rattle.splicing.specs.Splice.{taken_at, take_out}
use Rattle.words.specs.Words.{name_count, row_count, posting_count, name_start, name_word, name_id, rows_start, row_width, postings_start, total}
use Rattle.index.specs.Good.{Good}
use Rattle.index.proofs.Laws.{good_names_most, good_postings_most}
use Rattle.index_writer.specs.Built.{Entry, no_entry, Row, RowFit, lists_of, words_from, words_of}
use Rattle.index_writer.specs.Contents.{names_in, row_in, all_rows_in, entry_in, entries_in, Narrow}
use Rattle.index_writer.specs.Written.{pad_to}
use Rattle.index_writer.proofs.Plain.{good_plain}
use Rattle.index_writer.proofs.Holders.{rows_fit}
use Rattle.index_writer.proofs.Unique.{good_fit, good_names, good_rows, good_written}
use Rattle.changes.specs.Names.{without_id}
use Rattle.changes.specs.Rows.{without_postings}
use Rattle.changes.specs.Cuts.{RowsAs, RowsShort, of_features, thin_row, empty_cuts, id_cuts, withdraw_cuts, thinned_to, settled}
use Rattle.changes.proofs.Placed.{rows_as_length, short_same}
use Rattle.changes.proofs.Withdrawn.{index_withdrawn}
use Rattle.changes.proofs.CutsWithdrawn.{length_id, rows_as_taken, length_empty, id_below, length_lists_taken, ascending_withdraw, withdraw_below, withdraw_taken, length_withdraw, words_withdrawn_lem}
use Rattle.changes.proofs.CutsNoted.{holders, withdraw_few}
use Rattle.changes.proofs.Thinned.{thinned_good}
use Rattle.changes.proofs.WordsAdded.{length_words_from}

-- the words are a good index, and the name at the place has the id
pub record Stands (w : List ℕ) (id place : ℕ) : Type 0 where
  pub good : Good w
  pub narrow : Narrow w
  pub low : place < name_count w
  pub named : name_id w place ≡ id

-- the places of the words of the rows that are then empty, of the id among the postings, and of all words that go
abbrev pub gone : List ℕ → ℕ → List ℕ
gone w id = empty_cuts (map (thin_row id) (all_rows_in w))

abbrev pub ids : List ℕ → ℕ → List ℕ
ids w id = id_cuts id (all_rows_in w)

abbrev pub cuts : List ℕ → ℕ → ℕ → List ℕ
cuts w id place = withdraw_cuts (length (names_in w)) place id (all_rows_in w)

-- the name words and the rows that are left
abbrev pub less : List ℕ → ℕ → List ℕ
less w place = taken_at place (names_in w)

abbrev pub kept : List ℕ → ℕ → List Row
kept w id = without_postings id (all_rows_in w)

-- the words in which the id is no longer counted, and those without the words that go
abbrev pub thinned : List ℕ → ℕ → List ℕ
thinned w id = thinned_to (row_count w) (rows_start w) id (all_rows_in w) w

abbrev pub cut_out : List ℕ → ℕ → ℕ → List ℕ
cut_out w id place = take_out (cuts w id place) (take (total w) (thinned w id)) ++ drop (total w - length (cuts w id place)) (thinned w id)

-- every row lists an id
rows_least : (rows : List Row) → Each RowFit rows → length rows ≤ length (lists_of rows)
unfolding lists_of
rows_least [] f = omega arith
rows_least (r ∷ rs) f =
    let a = (each_first RowFit r rs f).some in
    let b = rows_least rs (each_rest RowFit r rs f) in
    let c = length-append r.list (lists_of rs) in
    omega arith

module _ {w : List ℕ} {id place : ℕ} (at : Stands w id place) where
  -- ---- how long the index is

  fit : Each RowFit (all_rows_in w)
  fit = (rows_fit w at.good at.narrow).each

  names_in_lem : length (names_in w) ≡ name_count w
  unfolding names_in
  names_in_lem = length_tabulate (name_word w) (name_count w)

  rows_in : length (all_rows_in w) ≡ row_count w
  unfolding all_rows_in
  rows_in = length_tabulate (row_in w) (row_count w)

  lists_in : length (lists_of (all_rows_in w)) ≡ posting_count w
  unfolding words_from
  lists_in = sym (ap (λ (l : List ℕ). get_or l 2 0) (good_written w at.good at.narrow)) ∙ get_or-take (total w) w 2 0 (omega arith)

  total_fits : total w < 2 ^ 32
  total_fits =
      let a = rows_least (all_rows_in w) fit in
      let b = rows_in in
      let c = lists_in in
      let d = good_names_most w at.good in
      let e = good_postings_most w at.good in
      omega arith

  low_in : place < length (names_in w)
  low_in = let e = names_in_lem in let l = at.low in omega arith

  -- ---- the places of the words that go

  -- there are few
  pub ids_few : length (ids w id) ≤ most_features
  ids_few =
      let a = length_id id (all_rows_in w) in
      let b = holders w at.good place id at.low at.named in
      let c = (good_plain w at.good).most place at.low in
      omega arith

  pub cuts_few : 1 + length (gone w id) + length (ids w id) ≤ 1 + 5 * most_features
  cuts_few =
      let a = length_withdraw 0 0 id (all_rows_in w) in
      let b = withdraw_few w at.good place id at.low at.named at.narrow 0 0 in
      omega arith

  -- each fits a word
  pub ids_fit : (first : ℕ) → first ≡ postings_start w → (l : List ℕ) → l ≡ ids w id → (i : ℕ) → i < length l → first + get_or l i 0 < 2 ^ 32
  ids_fit first s l e i h =
      let b : Each (λ (p : ℕ). p < length (lists_of (all_rows_in w))) l = rw e (id_below id (all_rows_in w) fit) in
      let c = each_at (λ (p : ℕ). p < length (lists_of (all_rows_in w))) l i 0 b h in
      let d = lists_in in
      omega (arith, total_fits)

  -- in a table: the name's place, those of rows' words behind it, those of postings behind these
  pub cuts_put : (a b c l : List ℕ) (r k first : ℕ) → 0 < length a → l ≡ ids w id → k ≡ length (ids w id) → first ≡ postings_start w
      → take r b ≡ take 1 (set a 0 (name_start place)) ++ map (λ (p : ℕ). rows_start w + p) (gone w id)
      → take (r + length l) c ≡ take r b ++ map (λ (p : ℕ). first + p) l
      → take (r + k) c ≡ cuts w id place
  cuts_put [] b c l r k first n e m s f h = absurd (omega arith)
  cuts_put (x ∷ a) b c l r k first n e m s f h =
      ap (λ (i : ℕ). take (r + i) c) (m ∙ sym (ap length e))
      ∙ h
      ∙ ap₂ ◌++◌ f (ap₂ (λ (i : ℕ) (q : List ℕ). map (λ (p : ℕ). i + p) q) (s ∙ start) e)
      ∙ ap (λ (i : ℕ). name_start place ∷ (map (λ (p : ℕ). name_start i + p) (gone w id) ++ map (λ (p : ℕ). name_start (length (names_in w)) + row_width * length (all_rows_in w) + p) (ids w id))) (sym names_in_lem)
    where
      start : postings_start w ≡ name_start (length (names_in w)) + row_width * length (all_rows_in w)
      start = let a = names_in_lem in let b = rows_in in omega arith

  pub cuts_rise : Ascending (cuts w id place)
  cuts_rise = ascending_withdraw (names_in w) place id (all_rows_in w) low_in fit

  pub cuts_below : (end : ℕ) → end ≡ total w → Each (λ (p : ℕ). p < end) (cuts w id place)
  cuts_below end e = rw (e ∙ whole) (withdraw_below (names_in w) place id (all_rows_in w) low_in fit)
    where
      whole : total w ≡ 3 + length (names_in w) + row_width * length (all_rows_in w) + length (lists_of (all_rows_in w))
      whole = let a = names_in_lem in let b = rows_in in let c = lists_in in omega arith

  -- and taken out
  pub cut_out_lem : {l v u : List ℕ} {end : ℕ} → l ≡ cuts w id place → end ≡ total w → v ≡ thinned w id
      → u ≡ take_out l (take end v) ++ drop (end - length l) v
      → u ≡ cut_out w id place
  cut_out_lem e f h o = o ∙ (λ i. take_out (e i) (take (f i) (h i)) ++ drop (f i - length (e i)) (h i))

  -- ---- what is left

  -- how many names, rows and postings
  pub counts_left : (r k : ℕ) → r ≡ 1 + length (gone w id) → k ≡ length (ids w id)
      → (name_count w ≡ length (less w place) + 1)
      × (row_count w ≡ length (kept w id) + (r - 1) / row_width)
      × (posting_count w ≡ length (lists_of (kept w id)) + k)
  counts_left r k e f =
      let a = names_in_lem in
      let b = rows_in in
      let c = lists_in in
      let d = length_empty id (all_rows_in w) in
      let h = length_lists_taken id (all_rows_in w) fit in
      let j = length-append (take place (names_in w)) (drop (suc place) (names_in w)) in
      let l = low_in in
      let m = length-take-le place (names_in w) (omega arith) in
      let n = length-drop (suc place) (names_in w) in
      (omega arith, omega arith, omega arith)

  -- they are those of the other names
  others : words_of (without_id id (entries_in w)) ≡ words_from (less w place) (kept w id)
  unfolding entries_in
  others =
      let n = length_tabulate (entry_in w) (name_count w) in
      let l = at.low in
      index_withdrawn (entries_in w) (good_fit w at.good at.narrow) place id (omega arith)
      (ap (λ (e : Entry). e.id) (get_d_tabulate (entry_in w) (name_count w) place no_entry l) ∙ at.named)
      ∙ ap₂ (λ (l : List ℕ) (rs : List Row). words_from (take place l ++ drop (place + 1) l) (without_postings id rs)) (sym (good_names w at.good at.narrow)) (sym (good_rows w at.good at.narrow))
      ∙ ap (λ (i : ℕ). words_from (take place (names_in w) ++ drop i (names_in w)) (kept w id)) (add-one place)

  module _ {v : List ℕ} (after : v ≡ cut_out w id place) where
    abbrev rest : List ℕ
    rest = drop (total w - length (cuts w id place)) (thinned w id)

    -- the rows' words in which the id is no longer counted
    abbrev counted : List ℕ
    counted = (thinned_good w at.good at.narrow id).0

    rows_as : RowsAs (map (thin_row id) (all_rows_in w)) counted
    rows_as = (thinned_good w at.good at.narrow id).2

    -- the index with them
    abbrev whole : List ℕ
    whole = length (names_in w) ∷ length (all_rows_in w) ∷ length (lists_of (all_rows_in w)) ∷ (names_in w ++ (counted ++ lists_of (all_rows_in w)))

    left : v ≡ take_out (cuts w id place) whole ++ rest
    left =
        after
        ∙ ap (λ (l : List ℕ). take_out (cuts w id place) l ++ rest)
        (ap (take (total w)) (thinned_good w at.good at.narrow id).1 ∙ take_at whole (drop (total w) w) (total w) long)
      where
        long : length whole ≡ total w
        long =
            let a = names_in_lem in
            let b = rows_in in
            let c = lists_in in
            let d = length-append (names_in w) (counted ++ lists_of (all_rows_in w)) in
            let e = length-append counted (lists_of (all_rows_in w)) in
            let f = rows_as_length (map (thin_row id) (all_rows_in w)) counted rows_as in
            let h = length-map (all_rows_in w) (thin_row id) in
            omega arith

    -- the rows' words stand behind the names', and count what they list
    rows_left : (size : ℕ) → RowsShort (of_features size []) (kept w id) (take (row_width * length (kept w id)) (drop (name_start (length (less w place))) v))
    rows_left size =
        rw (left ∙ parts, drop_at front (rows ++ behind) (name_start (length (less w place))) start, take_at rows behind (row_width * length (kept w id)) wide)
        (short_same size (kept w id) rows taken)
      where
        front : List ℕ
        front = length (names_in w) ∷ length (all_rows_in w) ∷ length (lists_of (all_rows_in w)) ∷ less w place

        rows : List ℕ
        rows = take_out (gone w id) counted

        taken : RowsAs (kept w id) rows
        taken = rows_as_taken id (all_rows_in w) counted rows_as

        behind : List ℕ
        behind = take_out (ids w id) (lists_of (all_rows_in w)) ++ rest

        start : length front ≡ name_start (length (less w place))
        start = omega arith

        wide : length rows ≡ row_width * length (kept w id)
        wide = rows_as_length (kept w id) rows taken

        parts : take_out (cuts w id place) whole ++ rest ≡ front ++ (rows ++ behind)
        parts = ap (λ (l : List ℕ). l ++ rest) (withdraw_taken (names_in w) place id (all_rows_in w) low_in fit _ _ _ counted rows_as) ∙ simp append_assoc

    -- settled for these counts, they are the index of the other names
    module _ (n d p size : ℕ) (names : n ≡ length (less w place)) (rows : d ≡ length (kept w id)) (postings : p ≡ length (lists_of (kept w id))) where
      pub settle_asks : total w ≤ length v
          → (name_start n + row_width * d + p ≤ length v)
          × (n < 2 ^ 32)
          × (d < 2 ^ 32)
          × (p < 2 ^ 32)
          × Ascending []
          × ((rs : List Row) × (length rs ≡ d) × RowsShort (of_features size []) rs (take (row_width * d) (drop (name_start n) v)) × (length (lists_of rs) < 2 ^ 32))
      settle_asks room =
          let c = counts_left (1 + length (gone w id)) (length (ids w id)) (omega arith) (omega arith) in
          let t = total_fits in
          (omega arith, omega arith, omega arith, omega arith, ascending_nil, (kept w id, sym rows, rw (names, rows) (rows_left size), omega arith))

      pub name_less : {u : List ℕ} {room : ℕ} → length v ≡ room
          → u ≡ pad_to (length v) (take (name_start n + row_width * d + p) (settled n d p size [] v))
          → u ≡ pad_to room (words_of (without_id id (entries_in w)))
      name_less {u} l o = rw (names, rows, postings) at o ∙ ap₂ pad_to l index
        where
          long : ℕ
          long = name_start (length (less w place)) + row_width * length (kept w id) + length (lists_of (kept w id))

          wide : length (words_from (less w place) (kept w id)) ≡ long
          wide = let e = length_words_from (less w place) (kept w id) in omega arith

          index : take long (settled (length (less w place)) (length (kept w id)) (length (lists_of (kept w id))) size [] v) ≡ words_of (without_id id (entries_in w))
          index =
              ap (λ (x : List ℕ). take long (settled (length (less w place)) (length (kept w id)) (length (lists_of (kept w id))) size [] x)) left
              ∙ ap (take long) (words_withdrawn_lem (names_in w) place id (all_rows_in w) low_in fit _ _ _ size counted rest rows_as)
              ∙ take_at (words_from (less w place) (kept w id)) rest long wide
              ∙ sym others
