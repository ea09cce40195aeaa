-- The demands hold: specs/Demands.antt says what, this file cites why.
-- Assumes nothing.
use mathlib.Core.Path.{◌≡◌, refl, sym, ap, ap₂, subst, ◌∙◌}
use mathlib.Core.Logic.{◌↔◌, ⊎_elim}
use mathlib.Core.Bool.{Bool, true, false, cond, not, ◌&&◌, false≢true}
use mathlib.Core.List.{List, map}
use Prim.Native.Nat.{ℕ, ◌+◌, ◌-◌, ◌*◌, ◌≤◌, ◌<◌}
use native.Mathlib.Omega.{arith}
use lib.ListN.{length, get_or, take, length-map}
use lib.Dec.{eqb, ltb}
use borrow.Author.Tests.{leb-true, eqb-true, ltb-true, ltb-false, lt-ltb, le-ltb}
use Rattle.hex_digits.specs.Lines.{Bytes}
use Rattle.laws.specs.Lists.{member, Ascending}
use Rattle.laws.specs.Cases.{first_case, all_numbers, all_numbered}
use Rattle.laws.proofs.Cases.{first_number, first_front, first_behind}
use Rattle.laws.proofs.Order.{eq_or_ne}
use Rattle.laws.proofs.Lists.{count_ext}
use Rattle.laws.proofs.Members.{member_at}
use Rattle.names.specs.Features.{features_of}
use Rattle.names.specs.Shared.{shared_of}
use Rattle.names.proofs.Laws.{size_most}
use Rattle.likeness.specs.Measures.{is_similar}
use Rattle.likeness.specs.Sizes.{is_searched}
use Rattle.likeness.specs.Terms.{lowest_terms}
use Rattle.likeness.proofs.Measures.{similar_fraction}
use Rattle.likeness.proofs.Least.{least_pos, least_within, similar_least}
use Rattle.words.specs.Words.{name_count, name_id, name_size}
use Rattle.index.proofs.Laws.{good_ids_apart, good_name_within}
use Rattle.lists.specs.Lists.{list_in, features_in}
use Rattle.lists.proofs.Laws.{features_member}
use Rattle.sizes.specs.Method.{names_of, shared_with, touches_of_size}
use Rattle.search.specs.Answers.{number_in, rows_in, touches_in, threshold_p, threshold_q, refusal_of, search_good_of, given_by, Columns, least_for, columns_of, over, columns_over}
use Rattle.search.specs.Answers.{Answer}
use Rattle.search.specs.Answers.{Found, Refused}
use Rattle.sizes.proofs.Laws.{length_lists, held_features, listed_similar, Query}
use Rattle.search.proofs.AgainstMethod.{query_features}
use Rattle.search.proofs.Answered.{good_past, good_full, good_found, search_refused, search_runs}
use Rattle.search.proofs.Outcomes.{refused_empty, refused_gives, given_found, Admitted, admitted, Answered as AnsweredOf, answered}
use Rattle.search.proofs.Listed.{over_taken, over_at, answer_place, answer_ids, answer_listed}
use Rattle.sizes.proofs.Work.{touches_candidates, candidates_names, touches_all, touches_most, signatures_least}
use Rattle.rows.specs.Rows.{row_across}
use Rattle.statements.specs.Demands.{Lending, columns, records, Question, answer, number, steps, found, after, before_work, after_work, refusals, touches_with, Demand1, shared_by, Reaches, least_at, TrueRow, row_at, row_ids, Demand2, with_allowance, lists_at, postings_at, candidates_at, Demand3, Demands, Searches}
use Rattle.statements.proofs.Lent.{Lends, columns_lend, records_lend}

-- ---- demand 1

-- what is judged before the work is counted is the first of those cases
pub refused_first : {A : Type 0} (a : Question A) → refusal_of a.query a.measure a.p a.q a.words ≡ first_case (before_work a)
unfolding refusal_of
refused_first a = refl

-- none of them has the number 0, and none a number that goes with a count
before_numbered : {A : Type 0} (a : Question A) → all_numbered (before_work a) ≡ true
unfolding all_numbers
before_numbered a = refl

counts : ℕ → Bool
counts n = not (eqb n 8) && not (eqb n 7)

before_uncounted : {A : Type 0} (a : Question A) → counts (first_case (before_work a)) ≡ true
before_uncounted a = first_number counts (before_work a) (unfold counts in refl) all
  where
    all : all_numbers counts (before_work a) ≡ true
    all = unfold all_numbers counts in refl

module _ {A : Type 0} (s : Lending A) (lends : Lends s) (a : Question A) where
  abbrev room : ℕ
  room = s.room a.lent

  -- the answer where nothing is refused before the work is counted, by its two tests
  abbrev good_answer : Answer
  good_answer = search_good_of a.query a.measure a.p a.q a.allowance a.words room

  abbrev by_both_tests : Bool → Bool → Answer
  by_both_tests t f = cond t (Refused 7 a.allowance) (cond f (Refused 8 (steps a)) (Found (length (found a)) (steps a) (lowest_terms a.p a.q).p (lowest_terms a.p a.q).q))

  good_judged : number_in good_answer ≡ first_case (after_work s a)
  unfolding search_good_of first_case
  good_judged = by_tests (ltb a.allowance (steps a)) (ltb room (length (found a)))
    where
      by_tests : (t f : Bool) → number_in (by_both_tests t f) ≡ cond t 7 (cond f 8 0)
      by_tests true f = refl
      by_tests false true = refl
      by_tests false false = refl

  good_touched : touches_in good_answer ≡ touches_with a (number_in good_answer)
  unfolding search_good_of
  good_touched = by_tests (ltb a.allowance (steps a)) (ltb room (length (found a)))
    where
      by_tests : (t f : Bool) → touches_in (by_both_tests t f) ≡ touches_with a (number_in (by_both_tests t f))
      by_tests true f = refl
      by_tests false true = refl
      by_tests false false = refl

  -- refused before its work is counted, or not
  judged_before : (refusal_of a.query a.measure a.p a.q a.words ≡ 0 → ⊥) → answer s a ≡ Refused (first_case (before_work a)) 0
  judged_before n =
      search_refused a.query a.measure a.p a.q a.allowance a.words room (first_case (before_work a)) (refused_first a) (λ z. n (refused_first a ∙ z))

  judged_after : refusal_of a.query a.measure a.p a.q a.words ≡ 0 → answer s a ≡ good_answer
  judged_after z = search_runs a.query a.measure a.p a.q a.allowance a.words room z

  -- the number is the first of the table
  judged_first : number s a ≡ first_case (refusals s a)
  judged_first =
      ⊎_elim
      (λ (z : refusal_of a.query a.measure a.p a.q a.words ≡ 0).
      ap number_in (judged_after z) ∙ good_judged ∙ sym (first_behind (before_work a) (after_work s a) (before_numbered a) (sym (refused_first a) ∙ z)))
      (λ (n : refusal_of a.query a.measure a.p a.q a.words ≡ 0 → ⊥).
      ap number_in (judged_before n) ∙ sym (first_front (before_work a) (after_work s a) (λ z. n (refused_first a ∙ z))))
      (eq_or_ne (refusal_of a.query a.measure a.p a.q a.words) 0)

  -- a number that goes with no count, and is not 0, has no touches
  no_touches : (n : ℕ) → (n ≡ 0 → ⊥) → counts n ≡ true → 0 ≡ touches_with a n
  unfolding counts
  no_touches n z c = by_tests (eqb n 0) refl (eqb n 8) (eqb n 7) c
    where
      by_tests : (e : Bool) → eqb n 0 ≡ e → (f g : Bool) → not f && not g ≡ true → 0 ≡ cond e (steps a) (cond f (steps a) (cond g a.allowance 0))
      by_tests true p f g h = absurd (z (eqb-true n 0 p))
      by_tests false p true g h = absurd (false≢true h)
      by_tests false p false true h = absurd (false≢true h)
      by_tests false p false false h = refl

  touched_with : touches_in (answer s a) ≡ touches_with a (number s a)
  touched_with =
      ⊎_elim
      (λ (z : refusal_of a.query a.measure a.p a.q a.words ≡ 0).
      ap touches_in (judged_after z) ∙ good_touched ∙ ap (λ (r : Answer). touches_with a (number_in r)) (sym (judged_after z)))
      (λ (n : refusal_of a.query a.measure a.p a.q a.words ≡ 0 → ⊥).
      ap touches_in (judged_before n)
      ∙ no_touches (first_case (before_work a)) (λ z. n (refused_first a ∙ z)) (before_uncounted a)
      ∙ ap (λ (r : Answer). touches_with a (number_in r)) (sym (judged_before n)))
      (eq_or_ne (refusal_of a.query a.measure a.p a.q a.words) 0)

  -- as many rows as names given, within the room
  abbrev AsGiven : Answer → Type 0
  AsGiven r = (rows_in r ≡ length (given_by r (found a))) × (rows_in r ≤ room)

  none_given : (n t : ℕ) → AsGiven (Refused n t)
  unfolding given_by
  none_given n t = (refl, omega arith)

  good_given : AsGiven good_answer
  unfolding search_good_of given_by
  good_given = by_tests (ltb a.allowance (steps a)) (ltb room (length (found a))) (λ e. ltb-false room (length (found a)) e)
    where
      by_tests : (t f : Bool) → (f ≡ false → length (found a) ≤ room) → AsGiven (by_both_tests t f)
      by_tests true f h = none_given 7 a.allowance
      by_tests false true h = none_given 8 (steps a)
      by_tests false false h = (refl, h refl)

  as_given : AsGiven (answer s a)
  as_given =
      ⊎_elim
      (λ (z : refusal_of a.query a.measure a.p a.q a.words ≡ 0). rw (judged_after z) good_given)
      (λ (n : refusal_of a.query a.measure a.p a.q a.words ≡ 0 → ⊥). rw (judged_before n) (none_given (first_case (before_work a)) 0))
      (eq_or_ne (refusal_of a.query a.measure a.p a.q a.words) 0)

  -- a refusal with the number 0 would be an answer
  never_zero : (t : ℕ) → answer s a ≡ Refused 0 t → ⊥
  never_zero t e =
      let k = (answered a.query a.measure a.p a.q a.allowance a.words room (ap number_in e)).form in
      let z : ◌≡◌ {A = ℕ} 0 1 = cc in
      omega arith

  demand_1 : Demand1 s a
  demand_1 =
      record {
        judged = judged_first;
        touched = touched_with;
        numbered = never_zero;
        given = as_given.0;
        within = as_given.1;
        nothing = refused_empty (answer s a);
        kept = λ n.
            ap (λ (l : List ℕ). s.written a.words a.measure a.p a.q (features_of a.query) l a.lent) (refused_gives (answer s a) (found a) n)
            ∙ lends.none a.words a.measure a.p a.q (features_of a.query) a.lent;
      }

  -- ---- demand 2

  -- a question by its parts
  abbrev AdmittedBy : Type 0
  AdmittedBy = Admitted a.query a.measure a.p a.q a.words

  abbrev AnsweredBy : Type 0
  AnsweredBy = AnsweredOf a.query a.measure a.p a.q a.allowance a.words room

  answered_by : number s a ≡ 0 → AnsweredBy
  answered_by n = answered a.query a.measure a.p a.q a.allowance a.words room n

  -- a name shares the features that it stands for
  shared_by_lem : AdmittedBy → Bytes a.query → (i : ℕ) → i < name_count a.words → shared_with a.words (features_of a.query) i ≡ shared_by a i
  unfolding shared_with shared_of
  shared_by_lem k b i h =
      held_features a.words (name_size a.words i) (features_of a.query) (name_id a.words i) (query_features a.query k.judged b).small
      ∙ count_ext (λ (f : ℕ). member (name_id a.words i) (list_in a.words (name_size a.words i) f)) (λ (f : ℕ). member f (features_in a.words (name_id a.words i)))
      (λ f. sym (features_member a.words k.good i h f)) (features_of a.query)

  demand_2 : Bytes a.query → number s a ≡ 0 → Demand2 s a
  demand_2 b n =
      record {
        exactly = exactly;
        true_rows = true_rows;
        least = least;
        reached = reached;
        same_size = λ i j l h e. least i l ∙ ap (least_at a) e ∙ sym (least j h);
        agreed = agreed;
        ascending = subst Ascending (sym ids) (answer_ids a.words a.measure a.p a.q (features_of a.query) k.admitted.good);
        rows = ap length ids ∙ length-map (found a) (name_id a.words) ∙ sym rows;
        fits = (let e = rows in let h = k.fits in omega arith);
        beyond = ap₂ (λ (m : ℕ) (l : A). s.behind m l) rows left
            ∙ lends.behind a.words a.measure a.p a.q (features_of a.query) (found a) a.lent
            ∙ ap (λ (m : ℕ). s.behind m a.lent) (sym rows);
        lowest = (ap threshold_p k.form, ap threshold_q k.form);
      }
    where
      k : AnsweredBy
      k = answered_by n

      rows : rows_in (answer s a) ≡ length (found a)
      rows = ap rows_in k.form

      -- what is lent, afterwards
      left : after s a ≡ s.written a.words a.measure a.p a.q (features_of a.query) (found a) a.lent
      left =
          ap (λ (l : List ℕ). s.written a.words a.measure a.p a.q (features_of a.query) l a.lent)
          (given_found (answer s a) (length (found a)) (steps a) (lowest_terms a.p a.q).p (lowest_terms a.p a.q).q (found a) k.form)

      rows_left : s.rows (after s a) ≡ columns_over (columns_of a.words a.measure a.p a.q (features_of a.query) (found a)) (s.rows a.lent)
      rows_left = ap s.rows left ∙ lends.rows a.words a.measure a.p a.q (features_of a.query) (found a) a.lent

      ids : row_ids s a ≡ map (name_id a.words) (found a)
      ids =
          ap₂ (λ (m : ℕ) (l : List ℕ). take m l) (rows ∙ sym (length-map (found a) (name_id a.words))) (ap (λ (c : Columns). c.ids) rows_left)
          ∙ over_taken (map (name_id a.words) (found a)) (s.rows a.lent).ids

      exactly : (i : ℕ) → i < name_count a.words
          → (member (name_id a.words i) (row_ids s a) ≡ true) ↔ Reaches a (length (features_of a.query)) (name_size a.words i) (shared_by a i)
      exactly i h =
          let e = shared_by_lem k.admitted b i h in
          let same : member (name_id a.words i) (row_ids s a) ≡ is_similar a.measure a.p a.q (length (features_of a.query)) (name_size a.words i) (shared_by a i) =
          ap (member (name_id a.words i)) ids
          ∙ answer_listed a.words a.measure a.p a.q (features_of a.query) k.admitted.good i h
          ∙ listed_similar a.words k.admitted.good a.measure a.p a.q k.admitted.known k.admitted.exact (features_of a.query) (query_features a.query k.admitted.judged b) i h
          ∙ ap (is_similar a.measure a.p a.q (length (features_of a.query)) (name_size a.words i)) e
          in
          let f = similar_fraction a.measure a.p a.q (length (features_of a.query)) (name_size a.words i) (shared_by a i) k.admitted.exact in
          (λ m. f.0 (sym same ∙ m), λ r. same ∙ f.1 r)

      -- the name of a row is there, and similar
      name_there : (j : ℕ) → j < rows_in (answer s a)
          → (get_or (found a) j 0 < name_count a.words) × (least_at a (name_size a.words (get_or (found a) j 0)) ≤ shared_by a (get_or (found a) j 0))
      name_there j l =
          let e = rows in
          let h : j < length (found a) = omega arith in
          let i = get_or (found a) j 0 in
          let x = length (features_of a.query) in
          let y = name_size a.words i in
          let c = k.admitted in
          let f = query_features a.query c.judged b in
          let p = answer_place a.words a.measure a.p a.q (features_of a.query) i (member_at (found a) j h) in
          let some = f.some in
          let y_pos = (good_name_within a.words c.good i p.0).1 in
          let s : is_similar a.measure a.p a.q x y (shared_by a i) ≡ true =
          ap (is_similar a.measure a.p a.q x y) (sym (shared_by_lem c b i p.0))
          ∙ sym (listed_similar a.words c.good a.measure a.p a.q c.known c.exact (features_of a.query) f i p.0)
          ∙ p.1
          in
          (p.0, leb-true _ _ (sym (similar_least a.measure a.p a.q x y c.known c.exact (shared_by a i) (omega arith) (omega arith)) ∙ s))

      true_rows : (j : ℕ) → j < rows_in (answer s a) → TrueRow a (s.rows (after s a)) j
      true_rows j l =
          let e = rows in
          let h : j < length (found a) = omega arith in
          let i = get_or (found a) j 0 in
          let there = (name_there j l).0 in
          let at : (c d : List ℕ) (f : ℕ → ℕ) → c ≡ over (map f (found a)) d → get_or c j 0 ≡ f i = λ c d f e. ap (λ (x : List ℕ). get_or x j 0) e ∙ over_at f (found a) d j h in (
            i,
            there,
            at _ (s.rows a.lent).ids (name_id a.words) (ap (λ (c : Columns). c.ids) rows_left),
            at _ (s.rows a.lent).shared (shared_with a.words (features_of a.query)) (ap (λ (c : Columns). c.shared) rows_left) ∙ shared_by_lem k.admitted b i there,
            at _ (s.rows a.lent).sizes (name_size a.words) (ap (λ (c : Columns). c.sizes) rows_left),
            at _ (s.rows a.lent).least (least_for a.words a.measure a.p a.q (features_of a.query)) (ap (λ (c : Columns). c.least) rows_left),
          )

      least : (j : ℕ) → j < rows_in (answer s a) → (row_at s a j).least ≡ least_at a (row_at s a j).size
      least j l = let r = true_rows j l in r.5 ∙ ap (least_at a) (sym r.4)

      reached : (j : ℕ) → j < rows_in (answer s a) → (1 ≤ (row_at s a j).least) × ((row_at s a j).least ≤ (row_at s a j).shared)
      reached j l =
          let r = true_rows j l in
          let c = k.admitted in
          let d = least_pos a.measure a.p a.q (length (features_of a.query)) (name_size a.words r.0) c.known c.exact in
          let e = r.5 in
          let f = r.3 in
          let h = (name_there j l).1 in
          (omega arith, omega arith)

      agreed : (c : Columns) (m : ℕ) → TrueRow a c m → (j : ℕ) → j < rows_in (answer s a) → get_or c.ids m 0 ≡ (row_at s a j).id → row_across c m ≡ row_at s a j
      agreed c m t j l e =
          let r = true_rows j l in
          let i : t.0 ≡ r.0 = good_ids_apart a.words k.admitted.good t.0 r.0 t.1 r.1 (sym t.2 ∙ e ∙ r.2) in
          λ z. record {
            id = e z;
            shared = (t.3 ∙ ap (shared_by a) i ∙ sym r.3) z;
            size = (t.4 ∙ ap (name_size a.words) i ∙ sym r.4) z;
            least = (t.5 ∙ ap (λ (x : ℕ). least_at a (name_size a.words x)) i ∙ sym r.5) z;
          }

  -- ---- demand 3

  module _ (b : Bytes a.query) (z : refusal_of a.query a.measure a.p a.q a.words ≡ 0) where
    admitted_by : AdmittedBy
    admitted_by = admitted a.query a.measure a.p a.q a.words z

    runs : (n : ℕ) → answer s (with_allowance n a) ≡ search_good_of a.query a.measure a.p a.q n a.words room
    runs n = search_runs a.query a.measure a.p a.q n a.words room z

    past : a.allowance < steps a → number s a ≡ 7
    past h =
        ap number_in (runs a.allowance ∙ good_past a.query a.measure a.p a.q a.allowance a.words room (lt-ltb a.allowance (steps a) h))

    within : number s a ≡ 7 → a.allowance < steps a
    within e = by_tests (ltb a.allowance (steps a)) refl (ltb room (length (found a))) refl
      where
        by_tests : (t : Bool) → ltb a.allowance (steps a) ≡ t → (f : Bool) → ltb room (length (found a)) ≡ f → a.allowance < steps a
        by_tests true t f r = ltb-true a.allowance (steps a) t
        by_tests false t true r =
            let c = ap number_in (runs a.allowance ∙ good_full a.query a.measure a.p a.q a.allowance a.words room t r) in absurd (omega arith)
        by_tests false t false r =
            let c = ap number_in (runs a.allowance ∙ good_found a.query a.measure a.p a.q a.allowance a.words room t r) in absurd (omega arith)

    more : (n : ℕ) → a.allowance ≤ n → number s a ≡ 0 → answer s (with_allowance n a) ≡ answer s a
    more n h e =
        let k = answered_by e in
        let enough = k.enough in
        let fits = k.fits in
        runs n
        ∙ good_found a.query a.measure a.p a.q n a.words room (le-ltb n (steps a) (omega arith)) (le-ltb room (length (found a)) (omega arith))
        ∙ sym k.form

    asks : Query (features_of a.query)
    asks = query_features a.query admitted_by.judged b

    a_size : (y : ℕ) → 0 < y → is_searched a.measure a.p a.q (length (features_of a.query)) y ≡ true
        → (touches_of_size a.words a.measure a.p a.q (features_of a.query) y ≤ postings_at a y + candidates_at a y * (least_at a y - 1))
        × (postings_at a y + candidates_at a y * (least_at a y - 1) ≤ length (features_of a.query) * names_of a.words y)
    unfolding touches_of_size
    a_size y h e =
        let k = admitted_by in
        let some = asks.some in
        let low = least_pos a.measure a.p a.q (length (features_of a.query)) y k.known k.exact in
        let high = least_within a.measure a.p a.q (length (features_of a.query)) y (omega arith) h e in
        let n = length_lists a.words y (features_of a.query) in (
          rw e (touches_candidates a.words y (lists_at a y) (least_at a y) low (omega arith)),
          candidates_names a.words k.good y (features_of a.query) (least_at a y) low (omega arith),
        )

    no_size : (y : ℕ) → is_searched a.measure a.p a.q (length (features_of a.query)) y ≡ false
        → touches_of_size a.words a.measure a.p a.q (features_of a.query) y ≡ 0
    unfolding touches_of_size
    no_size y e = rw e

    demand_3 : Demand3 s a
    demand_3 =
        record {
          seven = (within, past);
          counted = λ e. ap touches_in (answered_by e).form;
          larger = λ n h e.
              let r = more n h e in
              (r, ap (λ (x : Answer). s.written a.words a.measure a.p a.q (features_of a.query) (given_by x (found a)) a.lent) r);
          a_size = a_size;
          no_size = no_size;
          in_all = touches_all a.words admitted_by.good a.measure a.p a.q admitted_by.known admitted_by.exact (features_of a.query) asks;
          most = touches_most a.words admitted_by.good a.measure a.p a.q admitted_by.known admitted_by.exact (features_of a.query) asks (size_most a.query);
          smallest = λ y chosen n. signatures_least a.words y (features_of a.query) (least_at a y) asks.small chosen n;
        }

  -- ---- the three together

  pub demands : Demands A s a
  demands =
      record {
        one = demand_1;
        two = λ b n. demand_2 b (judged_first ∙ n);
        three = λ b z. demand_3 b (refused_first a ∙ z);
      }

pub searches : Searches
searches = (demands columns columns_lend, demands records records_lend)
