-- The demands on many queries at once: specs/Demands.antt says what, this file shows why.
-- Assumes nothing.
use mathlib.Core.Path.{◌≡◌, refl, sym, ap, subst, ◌∙◌}
use mathlib.Core.Logic.{inl, inr, ⊎_elim}
use mathlib.Core.Bool.{Bool, true, false, cond}
use mathlib.Core.List.{List, ◌++◌, append_assoc}
use Prim.Native.Nat.{ℕ, zero, suc, ◌+◌, ◌*◌, ◌≤◌, ◌<◌}
use native.Mathlib.Nat.{eq-or-lt_of_le}
use native.Mathlib.Numerals.{add-one}
use native.Mathlib.Omega.{arith}
use borrow.Author.Tests.{ltb-true, ltb-false, eqb-true, eq-eqb}
use lib.ListN.{length, get_or, take, drop, get_or-append}
use lib.Seq.{take-append_seam, drop-append_seam}
use lib.Dec.{ltb, eqb}
use Rattle.laws.specs.Lists.{tabulate}
use Rattle.laws.specs.First.{first_from}
use Rattle.laws.proofs.First.{first_within, first_least}
use Rattle.laws.proofs.Lists.{length_tabulate, get_d_tabulate}
use Rattle.laws.proofs.Below.{sum_below_most}
use Rattle.index.specs.Good.{most_names}
use Rattle.search.specs.Answers.{number_in, rows_in, touches_in, Columns, over}
use Rattle.queries.specs.Queries.{Outcomes, join_below, answer_for, start_at, answer_at, columns_at, rows_before, reached_of, row_room, query_room, reached_in, come_of}
use Rattle.queries.specs.Demands.{part_at, Query, Stands, Call, Demands}
use Rattle.queries.proofs.Room.{query_lies, answer_beside, answer_rows}
use Rattle.queries.proofs.Upto.{rows_none, rows_step, each, lengths}

-- ---- lists

-- of lists one after the other, and any more, the k-th stands behind those before it
join_part : (k n : ℕ) (f : ℕ → List ℕ) (s : List ℕ) → k < n → take (length (f k)) (drop (length (join_below k f)) (join_below n f ++ s)) ≡ f k
unfolding join_below
join_part k zero f s h = absurd (omega arith)
join_part k (suc n) f s h =
    ap (λ (l : List ℕ). take (length (f k)) (drop (length (join_below k f)) l)) (append_assoc (join_below n f) (f n) s)
    ∙ ⊎_elim last (λ (l : k < n). join_part k n f (f n ++ s) l) (eq-or-lt_of_le at_most)
  where
    at_most : k ≤ n
    at_most = omega arith

    last : k ≡ n → take (length (f k)) (drop (length (join_below k f)) (join_below n f ++ (f n ++ s))) ≡ f k
    last e =
        subst (λ (j : ℕ). take (length (f k)) (drop (length (join_below k f)) (join_below j f ++ (f j ++ s))) ≡ f k) e
        (ap (take (length (f k))) (drop-append_seam (join_below k f) (f k ++ s)) ∙ take-append_seam (f k) s)

column_part : (k n from rows : ℕ) (f : ℕ → List ℕ) (s : List ℕ) → k < n → length (join_below k f) ≡ from → length (f k) ≡ rows
    → part_at from rows (over (join_below n f) s) ≡ f k
column_part k n from rows f s h a b =
    ap (λ (i : ℕ). take i (drop from (over (join_below n f) s))) (sym b)
    ∙ ap (λ (i : ℕ). take (length (f k)) (drop i (over (join_below n f) s))) (sym a)
    ∙ join_part k n f (drop (length (join_below n f)) s) h

table_at : (k n : ℕ) (f : ℕ → ℕ) (s : List ℕ) → k < n → get_or (over (tabulate f n) s) k 0 ≡ f k
table_at k n f s h =
    let l = length_tabulate f n in
    get_or-append (tabulate f n) (drop (length (tabulate f n)) s) 0 k (omega arith) ∙ get_d_tabulate f n k 0 h

-- where a search for the first ends early, that one passes
first_stops : (t : ℕ → Bool) (k c : ℕ) → first_from t k c < c + k → t (first_from t k c) ≡ true
unfolding first_from
first_stops t zero c h = absurd (omega arith)
first_stops t (suc k) c h = by_test (t c) refl h (first_stops t k (c + 1))
  where
    by_test : (b : Bool) → t c ≡ b → cond b c (first_from t k (c + 1)) < c + suc k
        → (first_from t k (c + 1) < c + 1 + k → t (first_from t k (c + 1)) ≡ true) → t (cond b c (first_from t k (c + 1))) ≡ true
    by_test true e l r = e
    by_test false e l r = r (omega arith)

-- a call that has a place for each of e queries, and room for all that they can have, comes to the last
to_all : (r n e room held : ℕ) → r ≤ n → n ≤ e → e ≤ n → e * most_names ≤ room → held ≤ (r + 1) * most_names → (r < n → room < held) → r ≡ e
to_all r n e room held a b c d f s = ⊎_elim (λ (h : r ≡ n). omega arith) (λ (l : r < n). let z = s l in absurd (omega arith)) (eq-or-lt_of_le a)

-- ---- the demands

module _ (bytes ends : List ℕ) (m p q allowance : ℕ) (w : List ℕ) where
  abbrev from : ℕ → ℕ
  from = start_at bytes ends m p q allowance w

  query : (k : ℕ) → Query bytes ends m p q allowance w k
  query k =
      record {
        alone = λ a b. unfold answer_at in query_lies bytes (from k) (get_or ends k 0) m p q allowance w most_names a b;
        outside = λ e. unfold answer_at answer_for in rw e;
        not_room = λ z. (
            unfold answer_at in
            let b = (answer_beside bytes (from k) (get_or ends k 0) m p q allowance w most_names).0 z in
            let r = (answer_rows bytes (from k) (get_or ends k 0) m p q allowance w most_names).1 in
            omega arith
            );
      }

  abbrev rows : ℕ → ℕ
  rows = rows_before bytes ends m p q allowance w

  abbrev full : ℕ → ℕ → Bool
  full room k = ltb room (rows (k + 1))

  within : (room n : ℕ) → reached_of bytes ends m p q allowance w room n ≤ n
  unfolding reached_of
  within room n = let h = (first_within (full room) n 0).1 in omega arith

  fits : (room n : ℕ) → rows (reached_of bytes ends m p q allowance w room n) ≤ room
  unfolding reached_of
  fits room n = by_count (reached_of bytes ends m p q allowance w room n) refl
    where
      by_count : (r : ℕ) → reached_of bytes ends m p q allowance w room n ≡ r → rows r ≤ room
      by_count zero e = let z = rows_none bytes ends m p q allowance w in omega arith
      by_count (suc j) e =
          let a = ltb-false room (rows (j + 1)) (first_least (full room) n 0 j (omega arith) (omega arith)) in
          let b = ap rows (add-one j) in
          omega arith

  stops : (room n : ℕ) → reached_of bytes ends m p q allowance w room n < n → room < rows (reached_of bytes ends m p q allowance w room n + 1)
  unfolding reached_of
  stops room n h = ltb-true room (rows (first_from (full room) n 0 + 1)) (first_stops (full room) n 0 (omega arith))

  few : (k : ℕ) → rows k ≤ k * most_names
  unfolding rows_before answer_at
  few k =
      sum_below_most k most_names (λ (j : ℕ). rows_in (answer_at bytes ends m p q allowance w j))
      (λ j l. (answer_rows bytes (from j) (get_or ends j 0) m p q allowance w most_names).1)

  module _ (o : Outcomes) (c : Columns) where
    abbrev reached : ℕ
    reached = reached_in bytes ends m p q allowance w o c

    stands : (k : ℕ) → k < reached → Stands bytes ends m p q allowance w o c k
    stands k h =
        let n = lengths bytes ends m p q allowance w k in
        let g = each bytes ends m p q allowance w k in
        let given = columns_at bytes ends m p q allowance w in
        record {
          number = table_at k reached (λ (j : ℕ). number_in (answer_at bytes ends m p q allowance w j)) o.numbers h;
          until = table_at k reached (λ (j : ℕ). rows (j + 1)) o.until h;
          touches = table_at k reached (λ (j : ℕ). touches_in (answer_at bytes ends m p q allowance w j)) o.touches h;
          length_of = rows_step bytes ends m p q allowance w k;
          ids = column_part k reached _ _ (λ (j : ℕ). (given j).ids) c.ids h n.ids g.0;
          shared = column_part k reached _ _ (λ (j : ℕ). (given j).shared) c.shared h n.shared g.1;
          sizes = column_part k reached _ _ (λ (j : ℕ). (given j).sizes) c.sizes h n.sizes g.2;
          least = column_part k reached _ _ (λ (j : ℕ). (given j).least) c.least h n.least g.3;
        }

    abbrev number : Bool → ℕ
    number b = cond b 0 8

    by_all : (b : Bool) → eqb reached (length ends) ≡ b → number b ≡ 0 → reached ≡ length ends
    by_all true e z = eqb-true reached (length ends) e
    by_all false e z = absurd (omega arith)

    places_most : query_room ends o ≤ length ends
    places_most = omega arith

    enough : length ends ≤ query_room ends o → length ends * most_names ≤ row_room c → reached ≡ length ends
    enough a b =
        to_all reached (query_room ends o) (length ends) (row_room c) (rows (reached + 1)) (within (row_room c) (query_room ends o)) places_most a b (few (reached + 1))
        (stops (row_room c) (query_room ends o))

    call : Call bytes ends m p q allowance w o c
    unfolding come_of
    call =
        record {
          places = within (row_room c) (query_room ends o);
          rows = fits (row_room c) (query_room ends o);
          all = by_all (eqb reached (length ends)) refl;
          not_all = λ e. ap number (eq-eqb reached (length ends) e);
          early = λ h. ⊎_elim (λ (e : reached ≡ query_room ends o). inl e) (λ (l : reached < query_room ends o). inr (stops (row_room c) (query_room ends o) l)) (eq-or-lt_of_le (within (row_room c) (query_room ends o)));
          enough = λ a b. ap number (eq-eqb reached (length ends) (enough a b));
          stands = stands;
        }

pub demands : Demands
demands bytes ends m p q allowance w = (query bytes ends m p q allowance w, call bytes ends m p q allowance w)
