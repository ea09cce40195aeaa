-- The first rows of a good index noted (`NotedTo`): none (`noted_none`); the next row is still as it was, so `note_row` may be called
-- (`noted_asks`), and leaves one row more (`noted_next`). Cited by the proof of `note_rows`.
-- Assumes nothing.
use mathlib.Core.Path.{◌≡◌, refl, sym, ap, ap₂, ◌∙◌}
use mathlib.Core.Logic.{⊎_elim}
use mathlib.Core.Bool.{Bool, true, false, cond, ◌&&◌}
use mathlib.Core.List.{List, [], ◌∷◌, ◌++◌, map, map-append, append_assoc, append-nil}
use Prim.Native.Nat.{ℕ, zero, suc, ◌+◌, ◌*◌, ◌-◌, ◌≤◌, ◌<◌}
use native.Mathlib.Nat.{add-zero}
use native.Mathlib.Omega.{arith}
use lib.ListN.{length, get_or, take, drop, set, length-append, length-map, take-append-drop}
use lib.Dec.{eqb}
use borrow.Author.Tests.{eq-eqb, ne_eqb}
use Rattle.laws.specs.Lists.{member}
use Rattle.laws.specs.Below.{sum_below}
use Rattle.laws.proofs.Lists.{length_tabulate, get_d_tabulate}
use Rattle.laws.proofs.Order.{eq_or_ne}
use Rattle.names.specs.Features.{most_features}
use Rattle.words.specs.Words.{name_count, row_count, posting_count, name_id, name_size, name_start, rows_start, row_width, length_column, row_start, row_size, row_place, row_length, postings_start, list_start, list_at, total}
use Rattle.index.specs.Good.{Good}
use Rattle.index.proofs.Facts.{list_inside}
use Rattle.index_writer.specs.Built.{Row, no_row, lists_of}
use Rattle.index_writer.specs.Contents.{names_in, row_in, all_rows_in, Narrow}
use Rattle.index_writer.specs.Plain.{Plain}
use Rattle.index_writer.proofs.Plain.{good_plain, plain_length}
use Rattle.index_writer.proofs.Read.{words_in, read_place}
use Rattle.index_writer.proofs.Holders.{rows_fit}
use Rattle.binary_search.specs.Seats.{place_of}
use Rattle.changes.specs.Others.{others_of}
use Rattle.changes.specs.Cuts.{thin_row, empty_cuts, id_cuts, thinned_to}
use Rattle.changes.proofs.Lists.{others_none}
use Rattle.changes.proofs.Taken.{length_others}
use Rattle.changes.proofs.CutsWithdrawn.{length_id}
use Rattle.changes.proofs.CutsNoted.{empty_nil, id_nil, empty_passed, empty_met, id_passed, id_met, empty_few, id_few, empty_most, holds_size, holders}
use Rattle.changes.proofs.Thinned.{length_thinned, thinned_at, thinned_back, thinned_step}
use Rattle.vacancies.specs.Steps.{RowLies, holds_id, thin_at, id_at, empty_at}

-- numbers that are not 0 sum to at least as many as they are
sum_least : (f : ℕ → ℕ) (n : ℕ) → ((i : ℕ) → i < n → 1 ≤ f i) → n ≤ sum_below n f
unfolding sum_below
sum_least f zero h = omega arith
sum_least f (suc n) h = let a = sum_least f n (λ i b. h i (omega arith)) in let b = h n (omega arith) in omega arith

pub length_rows : (w : List ℕ) → length (all_rows_in w) ≡ row_count w
unfolding all_rows_in
length_rows w = length_tabulate (row_in w) (row_count w)

row_at : (w : List ℕ) (r : ℕ) → r < row_count w → get_or (all_rows_in w) r no_row ≡ row_in w r
unfolding all_rows_in
row_at w r b = get_d_tabulate (row_in w) (row_count w) r no_row b

-- ---- the first r rows

-- the words without the id in their counts
abbrev pub thinned : List ℕ → ℕ → ℕ → List ℕ
thinned w id r = thinned_to r (rows_start w) id (all_rows_in w) w

-- the places of the words of those that are then empty, and of the id among the postings
abbrev pub gone : List ℕ → ℕ → ℕ → List ℕ
gone w id r = empty_cuts (map (thin_row id) (take r (all_rows_in w)))

abbrev pub found : List ℕ → ℕ → ℕ → List ℕ
found w id r = id_cuts id (take r (all_rows_in w))

-- all that is noted of them, behind n places `front`
pub record NotedTo (w : List ℕ) (id n : ℕ) (front : List ℕ) (r : ℕ) (ws a : List ℕ) (m : ℕ) (p : List ℕ) (k : ℕ) : Type 0 where
  pub words : ws ≡ thinned w id r
  pub more : m ≡ n + length (gone w id r)
  pub at : take m a ≡ front ++ map (λ (q : ℕ). rows_start w + q) (gone w id r)
  pub count : k ≡ length (found w id r)
  pub postings : take k p ≡ found w id r

pub noted_none : (w : List ℕ) (id n : ℕ) (at postings : List ℕ) → NotedTo w id n (take n at) 0 w at n postings 0
unfolding thinned_to
noted_none w id n at postings =
    let e = empty_nil id (all_rows_in w) in
    let f = id_nil id (all_rows_in w) in
    record {
      words = refl;
      more = rw e (sym (add-zero n));
      at = rw e (sym (append-nil (take n at)));
      count = rw f;
      postings = rw f;
    }

module _ (w : List ℕ) (g : Good w) (narrow : Narrow w) (i id : ℕ) (name : i < name_count w) (e : name_id w i ≡ id) where
  facts : Plain w
  facts = good_plain w g

  most : name_size w i ≤ most_features
  most = facts.most i name

  -- they are few
  gone_few : (r : ℕ) → length (gone w id r) ≤ row_width * most_features
  gone_few r =
      let a = empty_few id (all_rows_in w) r in
      let b = empty_most id (all_rows_in w) (rows_fit w g narrow).each in
      let c = holders w g i id name e in
      let d = most in
      omega arith

  found_few : (r : ℕ) → length (found w id r) ≤ most_features
  found_few r =
      let a = id_few id (all_rows_in w) r in
      let b = length_id id (all_rows_in w) in
      let c = holders w g i id name e in
      let d = most in
      omega arith

  module _ (r : ℕ) (b : r < row_count w) where
    abbrev v : List ℕ
    v = thinned w id r

    -- ---- row r as it was

    stays : (x : ℕ) → ((j : ℕ) → j < r → x ≡ row_start w j + length_column → ⊥) → get_or v x 0 ≡ get_or w x 0
    stays = thinned_at (rows_start w) id (all_rows_in w) w r

    same_start : row_start v r ≡ row_start w r
    same_start = ap (λ (n : ℕ). name_start n + row_width * r) (stays 0 (λ j h q. omega arith))

    same_postings : postings_start v ≡ postings_start w
    same_postings = ap₂ (λ (n d : ℕ). name_start n + row_width * d) (stays 0 (λ j h q. omega arith)) (stays 1 (λ j h q. omega arith))

    same_word : (c : ℕ) → get_or v (row_start v r + c) 0 ≡ get_or w (row_start w r + c) 0
    same_word c = ap (λ (n : ℕ). get_or v (n + c) 0) same_start ∙ stays (row_start w r + c) (λ j h q. omega arith)

    same_place : row_place v r ≡ row_place w r
    unfolding row_place
    same_place = same_word 2

    same_length : row_length v r ≡ row_length w r
    unfolding row_length
    same_length = same_word 3

    same_size : row_size v r ≡ row_size w r
    unfolding row_size
    same_size = ap (λ (n : ℕ). get_or v n 0) same_start ∙ stays (row_start w r) (λ j h q. omega arith)

    same_list : list_at v r ≡ list_at w r
    unfolding list_at
    same_list =
        ap₂ (λ (n m : ℕ). take n (drop m v)) same_length (ap₂ ◌+◌ same_postings same_place)
        ∙ ap (take (row_length w r)) (thinned_back (rows_start w) id (all_rows_in w) w r (list_start w r) (omega arith))

    length_words : length v ≡ length w
    length_words = length_thinned (rows_start w) id (all_rows_in w) w r

    -- ---- what `note_row` asks

    inside : row_place w r + row_length w r ≤ posting_count w
    inside = list_inside w facts.place facts.sum r b

    row_lies : RowLies v r
    row_lies =
        let s = same_start in
        let p = same_postings in
        let q = same_place in
        let c = same_length in
        let l = length_words in
        let h = inside in
        let t = facts.room in
        let n = facts.few in
        let o = facts.postings in
        let d = facts.place r b in
        let z = sum_least (row_length w) r (λ j h. facts.some j (omega arith)) in
        record { row = omega arith; list = omega arith; words = omega arith; postings = omega arith; up = rw same_list (facts.up r b) }

    holder : holds_id v r id ≡ true → row_size v r ≡ name_size w i
    holder m = same_size ∙ holds_size w g i id name e r b (rw (← same_list) m)

    -- ---- what it leaves

    short : r < length (all_rows_in w)
    short = let l = length_rows w in omega arith

    -- row r of the rows, and whether it holds the id
    abbrev row : Row
    row = get_or (all_rows_in w) r no_row

    row_list : row.list ≡ list_at w r
    row_list = ap (λ (x : Row). x.list) (row_at w r b)

    row_holds : (t : Bool) → holds_id w r id ≡ t → member id row.list ≡ t
    row_holds t m = ap (member id) row_list ∙ m

    thin_next : thin_at v r id ≡ thinned w id (r + 1)
    unfolding row_length
    thin_next =
        ap₂ (λ (t : Bool) (n : ℕ). cond t (set v (n + length_column) (get_or v (n + length_column) 0 - 1)) v) (ap (member id) (same_list ∙ sym row_list)) same_start
        ∙ sym (thinned_step (rows_start w) id (all_rows_in w) w r)

    place : length (lists_of (take r (all_rows_in w))) ≡ row_place w r
    place =
        sym (read_place (names_in w) (all_rows_in w) (drop (total w) w) r short)
        ∙ ap (λ (l : List ℕ). row_place (l ++ drop (total w) w) r) (sym (words_in w facts narrow))
        ∙ ap (λ (l : List ℕ). row_place l r) (take-append-drop (total w) w)

    id_next : found w id (r + 1) ≡ found w id r ++ id_at v r id
    id_next = rw (same_list, same_place) (by_test (holds_id w r id) refl)
      where
        by_test : (t : Bool) → holds_id w r id ≡ t → found w id (r + 1) ≡ found w id r ++ cond t ((row_place w r + place_of id (list_at w r)) ∷ []) []
        by_test true m =
            id_met id (all_rows_in w) r short (row_holds true m)
            ∙ ap₂ (λ (n : ℕ) (l : List ℕ). found w id r ++ ((n + place_of id l) ∷ [])) place row_list
        by_test false m = id_passed id (all_rows_in w) r short (row_holds false m) ∙ sym (append-nil (found w id r))

    -- so there is room for one place more
    spare : holds_id v r id ≡ true → length (found w id r) < most_features
    spare m =
        let a = ap length (id_met id (all_rows_in w) r short (row_holds true (rw (← same_list) m))) in
        let c = length-append (found w id r) ((length (lists_of (take r (all_rows_in w))) + place_of id row.list) ∷ []) in
        let d = found_few (r + 1) in
        omega arith

    -- how long the list is
    length_row : length row.list ≡ row_length w r
    length_row = ap length row_list ∙ plain_length w facts r b

    without : member id row.list ≡ true → length (others_of id row.list) + 1 ≡ row_length w r
    without m = length_others id row.list (rw row_list (facts.up r b)) m ∙ length_row

    abbrev from : ℕ → ℕ
    from p = rows_start w + p

    empty_next : map from (gone w id (r + 1)) ≡ map from (gone w id r) ++ empty_at v r id
    empty_next = rw (same_list, same_length, same_start) (by_test (holds_id w r id) refl)
      where
        as_before : 0 < length (others_of id row.list) → map from (gone w id (r + 1)) ≡ map from (gone w id r) ++ []
        as_before h = ap (map from) (empty_passed id (all_rows_in w) r short h) ∙ sym (append-nil (map from (gone w id r)))

        four : List ℕ
        four = row_start w r ∷ (row_start w r + 1) ∷ (row_start w r + 2) ∷ (row_start w r + 3) ∷ []

        one_more : length (others_of id row.list) ≡ 0 → map from (gone w id (r + 1)) ≡ map from (gone w id r) ++ four
        one_more h =
            let p : (c : ℕ) → from (row_width * r + c) ≡ row_start w r + c = λ c. omega arith in
            ap (map from) (empty_met id (all_rows_in w) r short h)
            ∙ map-append from (gone w id r) ((row_width * r) ∷ (row_width * r + 1) ∷ (row_width * r + 2) ∷ (row_width * r + 3) ∷ [])
            ∙ (λ j. map from (gone w id r) ++ (row_start w r ∷ p 1 j ∷ p 2 j ∷ p 3 j ∷ []))

        by_test : (t : Bool) → holds_id w r id ≡ t → map from (gone w id (r + 1)) ≡ map from (gone w id r) ++ cond (t && eqb (row_length w r) 1) four []
        by_test true m =
            let l = without (row_holds true m) in
            let n = facts.some r b in
            ⊎_elim
            (λ (q : row_length w r ≡ 1). rw (eq-eqb (row_length w r) 1 q) (one_more (omega arith)))
            (λ (q : row_length w r ≡ 1 → ⊥). rw (ne_eqb (row_length w r) 1 q) (as_before (let h : length (others_of id row.list) ≡ 0 → ⊥ = λ z. q (omega arith) in omega arith)))
            (eq_or_ne (row_length w r) 1)
        by_test false m =
            let a = ap length (others_none id row.list (row_holds false m)) in
            let l = length_row in
            let n = facts.some r b in
            as_before (omega arith)

    gone_next : length (gone w id (r + 1)) ≡ length (gone w id r) + length (empty_at v r id)
    gone_next =
        sym (length-map (gone w id (r + 1)) from)
        ∙ ap length empty_next
        ∙ length-append (map from (gone w id r)) (empty_at v r id)
        ∙ ap (λ (n : ℕ). n + length (empty_at v r id)) (length-map (gone w id r) from)

    -- ---- where the first r rows are noted

    module _ (n : ℕ) (front ws a : List ℕ) (m : ℕ) (p : List ℕ) (k : ℕ) (s : NotedTo w id n front r ws a m p k) where
      -- `note_row` may be called
      pub noted_asks : n + row_width * (most_features + 1) ≤ length a → most_features ≤ length p
          → RowLies ws r
          × (holds_id ws r id ≡ true → row_size ws r ≡ name_size w i)
          × (m + row_width ≤ length a)
          × (holds_id ws r id ≡ true → k < length p)
      noted_asks ra rp =
          let few = gone_few r in
          let e = s.more in
          let f = s.count in
          rw s.words (row_lies, holder, omega arith, λ h. (let c = spare h in omega arith))

      -- and what it leaves is one row more
      pub noted_next : (ws' a' : List ℕ) (m' : ℕ) (p' : List ℕ) (k' : ℕ)
          → ws' ≡ thin_at ws r id
          → k' ≡ k + length (id_at ws r id)
          → take k' p' ≡ take k p ++ id_at ws r id
          → m' ≡ m + length (empty_at ws r id)
          → take m' a' ≡ take m a ++ empty_at ws r id
          → NotedTo w id n front (r + 1) ws' a' m' p' k'
      noted_next ws' a' m' p' k' = rw s.words (λ ew ek ep em ea.
          record {
            words = ew ∙ thin_next;
            more = (let c = gone_next in let d = s.more in omega arith);
            at = ea ∙ ap (λ (l : List ℕ). l ++ empty_at v r id) s.at ∙ append_assoc front (map from (gone w id r)) (empty_at v r id) ∙ ap (λ (l : List ℕ). front ++ l) (sym empty_next);
            count = (let c = ap length id_next in let d = length-append (found w id r) (id_at v r id) in let f = s.count in omega arith);
            postings = ep ∙ ap (λ (l : List ℕ). l ++ id_at v r id) s.postings ∙ sym id_next;
          })
