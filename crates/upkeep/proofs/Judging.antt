-- An add and a withdrawal judged: each number from the tests that lead to it, and the words that each leaves.
-- And a name put in with its features in ascending order: the same index. For the proofs of `add` and `withdraw`.
-- Assumes nothing.
use mathlib.Core.Path.{◌≡◌, refl, sym, ap, ap₂, ◌∙◌}
use mathlib.Core.Logic.{⊎_elim}
use mathlib.Core.Bool.{Bool, true, false, cond, not, false≢true}
use mathlib.Core.List.{List, [], ◌∷◌, ◌++◌, map}
use Prim.Native.Nat.{ℕ, ◌+◌, ◌*◌, ◌≤◌, ◌<◌}
use native.Mathlib.Omega.{arith}
use borrow.Author.Tests.{eq-eqb, ne_eqb, le-leb, lt-leb, leb-true, leb-false}
use lib.ListN.{length, take, drop}
use lib.Dec.{eqb, leb}
use Rattle.laws.specs.Lists.{Ascending}
use Rattle.laws.specs.Sort.{sort_of}
use Rattle.laws.specs.Cases.{Case, case, first_case, all_numbers}
use Rattle.laws.proofs.Cases.{not_false, first_here, first_next, first_number, first_front, first_passed, first_behind, first_split}
use Rattle.laws.proofs.Order.{eq_or_ne, le_or_lt}
use Rattle.laws.proofs.Sort.{length_sort, member_sort, sorted_sort, sort_sorted, distinct_sort, sort_append}
use Rattle.names.specs.Names.{name_cases, judge_of}
use Rattle.names.proofs.Laws.{names_numbered}
use Rattle.words.specs.Words.{size_room, name_count}
use Rattle.index.specs.Good.{most_names, good_of, Good}
use Rattle.index_writer.specs.Built.{Entry, word_of, triple_of, triples_of, all_triples, runs_of, words_from, rows_of, words_of, EntryFit}
use Rattle.index_writer.specs.Written.{fits_in, pad_to}
use Rattle.index_writer.proofs.Built.{triples_sort}
use Rattle.binary_search.specs.Seats.{place_of}
use Rattle.changes.specs.Names.{ids_of, with_entry}
use Rattle.changes.proofs.Names.{words_with, triples_with}
use Rattle.upkeep.specs.Upkeep.{is_live, changed_if, index_with, added_of, words_added, index_without, withdrawn_of, words_withdrawn}

-- ---- the number of an add

module _ (w : List ℕ) (id : ℕ) (name : List ℕ) where
  -- the cases behind those of the name, and the last of them
  room : List Case
  room = case 8 (not (fits_in (length w) (index_with w id name))) ∷ []

  behind : List Case
  behind = case 9 (is_live w id) ∷ case 10 (leb most_names (name_count w)) ∷ room

  -- what an accepted add is
  pub record Adds : Type 0 where
    pub good : Good w
    pub judged : judge_of name ≡ 0
    pub unused : is_live w id ≡ false
    pub few : name_count w < most_names
    pub fits : length (index_with w id name) ≤ length w

  pub added_adds : added_of w id name ≡ 0 → Adds
  unfolding added_of judge_of room behind
  added_adds z =
      let g = first_passed 6 (not (good_of w)) (name_cases name ++ behind) (λ e. omega arith) z in
      let n = first_split (name_cases name) behind (names_numbered name) g.1 in
      let u = first_passed 9 (is_live w id) (case 10 (leb most_names (name_count w)) ∷ room) (λ e. omega arith) n.1 in
      let m = first_passed 10 (leb most_names (name_count w)) room (λ e. omega arith) u.1 in
      let f = first_passed 8 (not (fits_in (length w) (index_with w id name))) [] (λ e. omega arith) m.1 in
      record {
        good = not_false (good_of w) g.0;
        judged = n.0;
        unused = u.0;
        few = leb-false most_names (name_count w) m.0;
        fits = leb-true (length (index_with w id name)) (length w) (not_false (fits_in (length w) (index_with w id name)) f.0);
      }

  -- what an add that lacks room is: nothing else refuses it
  pub record Lacks : Type 0 where
    pub good : Good w
    pub judged : judge_of name ≡ 0
    pub unused : is_live w id ≡ false
    pub few : name_count w < most_names
    pub over : length w < length (index_with w id name)

  pub add_bad : good_of w ≡ false → added_of w id name ≡ 6
  unfolding added_of
  add_bad b = first_here 6 (not (good_of w)) _ (ap not b)

  module _ (good : good_of w ≡ true) where
    added_good : added_of w id name ≡ first_case (name_cases name ++ behind)
    unfolding added_of behind room
    added_good = first_next 6 (not (good_of w)) _ (ap not good)

    pub add_name : (judge_of name ≡ 0 → ⊥) → added_of w id name ≡ judge_of name
    unfolding judge_of
    add_name n = added_good ∙ first_front (name_cases name) behind n

    module _ (named : judge_of name ≡ 0) where
      added_named : added_of w id name ≡ first_case behind
      unfolding judge_of
      added_named = added_good ∙ first_behind (name_cases name) behind (names_numbered name) named

      pub add_live : is_live w id ≡ true → added_of w id name ≡ 9
      unfolding behind
      add_live l = added_named ∙ first_here 9 (is_live w id) _ l

      module _ (unused : is_live w id ≡ false) where
        added_unused : added_of w id name ≡ first_case (case 10 (leb most_names (name_count w)) ∷ room)
        unfolding behind
        added_unused = added_named ∙ first_next 9 (is_live w id) _ unused

        pub add_full : most_names ≤ name_count w → added_of w id name ≡ 10
        add_full h = added_unused ∙ first_here 10 (leb most_names (name_count w)) room (le-leb most_names (name_count w) h)

        pub add_rest : name_count w < most_names → added_of w id name ≡ cond (fits_in (length w) (index_with w id name)) 0 8
        unfolding room first_case
        add_rest h =
            added_unused
            ∙ first_next 10 (leb most_names (name_count w)) room (lt-leb most_names (name_count w) h)
            ∙ by_room (fits_in (length w) (index_with w id name))
          where
            by_room : (b : Bool) → first_case (case 8 (not b) ∷ []) ≡ cond b 0 8
            by_room true = refl
            by_room false = refl

        -- where nothing else refuses it, the room decides
        pub added_fits : name_count w < most_names → length (index_with w id name) ≤ length w → added_of w id name ≡ 0
        added_fits h l = rw (le-leb (length (index_with w id name)) (length w) l) at (add_rest h)

        pub added_over : name_count w < most_names → length w < length (index_with w id name) → added_of w id name ≡ 8
        added_over h l = rw (lt-leb (length (index_with w id name)) (length w) l) at (add_rest h)

  -- a name's own number is never 8
  not_eight : judge_of name ≡ 8 → ⊥
  unfolding judge_of
  not_eight q =
      let n : not (eqb (judge_of name) 8) ≡ true = first_number (λ (x : ℕ). not (eqb x 8)) (name_cases name) refl (unfold all_numbers in refl) in
      false≢true (ap (λ (x : ℕ). not (eqb x 8)) (sym q) ∙ n)

  -- 8 comes where nothing else refuses it and the index that would result does not fit
  pub added_eight : added_of w id name ≡ 8 → Lacks
  added_eight e = by_good (good_of w) refl
    where
      by_room : (good : good_of w ≡ true) (named : judge_of name ≡ 0) (unused : is_live w id ≡ false) → name_count w < most_names → Lacks
      by_room good named unused few =
          ⊎_elim
          (λ (f : length (index_with w id name) ≤ length w). let z = added_fits good named unused few f in absurd (omega arith))
          (λ (o : length w < length (index_with w id name)). record { good = good; judged = named; unused = unused; few = few; over = o })
          (le_or_lt (length (index_with w id name)) (length w))

      by_live : good_of w ≡ true → judge_of name ≡ 0 → (b : Bool) → is_live w id ≡ b → Lacks
      by_live good named true l = let z = add_live good named l in absurd (omega arith)
      by_live good named false l =
          ⊎_elim
          (λ (h : most_names ≤ name_count w). let z = add_full good named l h in absurd (omega arith))
          (by_room good named l)
          (le_or_lt most_names (name_count w))

      by_good : (b : Bool) → good_of w ≡ b → Lacks
      by_good false b = let z = add_bad b in absurd (omega arith)
      by_good true good =
          ⊎_elim
          (λ (z : judge_of name ≡ 0). by_live good z (is_live w id) refl)
          (λ (n : judge_of name ≡ 0 → ⊥). absurd (not_eight (sym (add_name good n) ∙ e)))
          (eq_or_ne (judge_of name) 0)

-- ---- the number of a withdrawal

module _ (w : List ℕ) (id : ℕ) where
  -- what an accepted withdrawal is
  pub withdrawn_live : withdrawn_of w id ≡ 0 → Good w × (is_live w id ≡ true)
  unfolding withdrawn_of
  withdrawn_live z =
      let g = first_passed 6 (not (good_of w)) (case 13 (not (is_live w id)) ∷ []) (λ e. omega arith) z in
      let u = first_passed 13 (not (is_live w id)) [] (λ e. omega arith) g.1 in
      (not_false (good_of w) g.0, not_false (is_live w id) u.0)

  pub withdraw_bad : good_of w ≡ false → withdrawn_of w id ≡ 6
  unfolding withdrawn_of
  withdraw_bad b = first_here 6 (not (good_of w)) _ (ap not b)

  module _ (good : good_of w ≡ true) where
    withdrawn_good : withdrawn_of w id ≡ first_case (case 13 (not (is_live w id)) ∷ [])
    unfolding withdrawn_of
    withdrawn_good = first_next 6 (not (good_of w)) _ (ap not good)

    pub withdraw_gone : is_live w id ≡ false → withdrawn_of w id ≡ 13
    withdraw_gone l = withdrawn_good ∙ first_here 13 (not (is_live w id)) [] (ap not l)

    pub withdraw_live : is_live w id ≡ true → withdrawn_of w id ≡ 0
    unfolding first_case
    withdraw_live l = withdrawn_good ∙ first_next 13 (not (is_live w id)) [] (ap not l)

-- ---- the words afterwards

module _ (number : ℕ) (index w : List ℕ) where
  changed_words : number ≡ 0 → changed_if number index w ≡ pad_to (length w) index
  changed_words z = rw (eq-eqb number 0 z)

  changed_kept : (number ≡ 0 → ⊥) → changed_if number index w ≡ w
  changed_kept n = rw (ne_eqb number 0 n)

module _ (w : List ℕ) (id : ℕ) where
  pub added_words : (name : List ℕ) → added_of w id name ≡ 0 → words_added w id name ≡ pad_to (length w) (index_with w id name)
  unfolding words_added
  added_words name = changed_words (added_of w id name) (index_with w id name) w

  -- a refusal changes no word
  pub added_kept : (name : List ℕ) → (added_of w id name ≡ 0 → ⊥) → words_added w id name ≡ w
  unfolding words_added
  added_kept name = changed_kept (added_of w id name) (index_with w id name) w

  pub withdrawn_words : withdrawn_of w id ≡ 0 → words_withdrawn w id ≡ pad_to (length w) (index_without w id)
  unfolding words_withdrawn
  withdrawn_words = changed_words (withdrawn_of w id) (index_without w id) w

  pub withdrawn_kept : (withdrawn_of w id ≡ 0 → ⊥) → words_withdrawn w id ≡ w
  unfolding words_withdrawn
  withdrawn_kept = changed_kept (withdrawn_of w id) (index_without w id) w

-- ---- a name with its features in ascending order

abbrev pub in_order : Entry → Entry
in_order e = record { id = e.id; features = sort_of e.features }

module _ (e : Entry) where
  -- it stays within the limits
  pub sorted_fit : EntryFit e → EntryFit (in_order e)
  sorted_fit fit =
      let n = length_sort e.features in
      record {
        id = fit.id;
        least = (let b = fit.least in omega arith);
        most = (let b = fit.most in omega arith);
        distinct = distinct_sort e.features fit.distinct;
        below = λ f m. fit.below f (sym (member_sort f e.features) ∙ m);
      }

  same_triples : sort_of (triples_of (in_order e)) ≡ sort_of (triples_of e)
  same_triples =
      triples_sort (in_order e)
      ∙ ap₂ (λ (n : ℕ) (l : List ℕ). map (λ (f : ℕ). triple_of n f e.id) l)
      (length_sort e.features)
      (sort_sorted (sort_of e.features) (sorted_sort e.features))
      ∙ sym (triples_sort e)

  -- and makes the same index
  pub sorted_words : (es : List Entry) → Ascending (ids_of es) → words_of (with_entry (in_order e) es) ≡ words_of (with_entry e es)
  unfolding words_of rows_of
  sorted_words es up = ap₂ (λ (ws ks : List ℕ). words_from ws (runs_of ks)) names triples
    where
      k : ℕ
      k = place_of e.id (ids_of es)

      names : map word_of (with_entry (in_order e) es) ≡ map word_of (with_entry e es)
      names =
          words_with (in_order e) es up
          ∙ ap (λ (n : ℕ). take k (map word_of es) ++ (e.id * size_room + n) ∷ drop k (map word_of es)) (length_sort e.features)
          ∙ sym (words_with e es up)

      triples : sort_of (all_triples (with_entry (in_order e) es)) ≡ sort_of (all_triples (with_entry e es))
      triples =
          triples_with (in_order e) es
          ∙ sort_append (triples_of (in_order e)) (all_triples es)
          ∙ ap (λ (l : List ℕ). sort_of (l ++ sort_of (all_triples es))) same_triples
          ∙ sym (sort_append (triples_of e) (all_triples es))
          ∙ sym (triples_with e es)
