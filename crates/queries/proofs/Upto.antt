-- The first k queries: their outcomes and their rows stand in front, and one query more. Cited by the proofs of `one`, `each_query` and `search_many`, and by
-- Demands.antt.
-- Assumes nothing.
use mathlib.Core.Path.{◌≡◌, refl, sym, ap, ap₂, ◌∙◌}
use mathlib.Core.Bool.{Bool, true, false, cond}
use mathlib.Core.List.{List, [], ◌∷◌, ◌++◌, append_assoc}
use Prim.Native.Nat.{ℕ, zero, suc, ◌+◌, ◌-◌, ◌≤◌, ◌<◌}
use native.Mathlib.Numerals.{add-one}
use native.Mathlib.Omega.{arith}
use lib.ListN.{length, get_or, take, drop, set, length-append, length-drop, take-append-drop}
use lib.Seq.{drop-drop, take-append_seam, drop-append_seam, length-take-le}
use lib.Dec.{ltb, eqb}
use borrow.Author.Tests.{lt-ltb, le-ltb}
use borrow.Rule.Slice.PartMut.{put_mid}
use Rattle.laws.specs.Lists.{tabulate}
use Rattle.laws.specs.Below.{sum_below}
use Rattle.laws.specs.First.{first_from}
use Rattle.laws.proofs.First.{first_nil}
use Rattle.laws.proofs.Lists.{length_tabulate}
use Rattle.laws.proofs.Below.{sum_below_step}
use Rattle.laws.proofs.Tables.{table_over, over_nil, over_step}
use Rattle.index.specs.Good.{most_names}
use Rattle.search.specs.Answers.{Answer, number_in, rows_in, touches_in, search_of, given_by, Columns, room_of, columns_of, over, columns_over, Searched}
use Rattle.names.specs.Features.{features_of}
use Rattle.sizes.specs.Method.{answers_of}
use Rattle.queries.specs.Queries.{Outcomes, outcomes_over, join_below, over_from, columns_from, part_of, answer_for, rows_given, start_at, answer_at, columns_at, rows_before, outcomes_below, columns_below, reached_of, row_room, query_room, reached_in, come_of, Asked}
use Rattle.queries.proofs.Room.{no_columns, query_lies, answer_beside, answer_rows, given_none, given_rows}

-- ---- a column, from a place on

-- what is given after what stands in front
pub over_from_lem : (a l s : List ℕ) (at : ℕ) → length a ≡ at → over_from at l (over a s) ≡ over (a ++ l) s
over_from_lem a l s at e =
    ap (λ (n : ℕ). over_from n l (over a s)) (sym e)
    ∙ ap₂ (λ (x y : List ℕ). x ++ over l y) (take-append_seam a (drop (length a) s)) (drop-append_seam a (drop (length a) s))
    ∙ ap (λ (t : List ℕ). a ++ (l ++ t)) (drop-drop (length l) (length a) s)
    ∙ sym (append_assoc a l (drop (length a + length l) s))
    ∙ ap (λ (n : ℕ). (a ++ l) ++ drop n s) (sym (length-append a l))

-- nothing given leaves the column
pub from_nothing : (at : ℕ) (s : List ℕ) → over_from at [] s ≡ s
from_nothing at s = take-append-drop at s

-- a part of a column that is lent, and what is given over it
rest : (k n : ℕ) (l : List ℕ) → n ≤ k → k ≤ length l → drop n (take k l) ++ drop k l ≡ drop n l
rest zero zero l h g = refl
rest (suc k) zero l h g = take-append-drop (suc k) l
rest zero (suc n) l h g = absurd (omega arith)
rest (suc k) (suc n) [] h g = absurd (omega arith)
rest (suc k) (suc n) (x ∷ l) h g = rest k n l (omega arith) (omega arith)

pub part_over : (at room : ℕ) (l s part : List ℕ) → at ≤ room → room ≤ length s → length l ≤ room - at → part ≡ over l (take (room - at) (drop at s))
    → put_mid at (room - at) s part ≡ over_from at l s
part_over at room l s part h g n e =
    let d = length-drop at s in
    ap (λ (t : List ℕ). take at s ++ (t ++ drop (room - at) (drop at s))) e
    ∙ ap (λ (t : List ℕ). take at s ++ t) (append_assoc l (drop (length l) (take (room - at) (drop at s))) (drop (room - at) (drop at s)))
    ∙ ap (λ (t : List ℕ). take at s ++ (l ++ t)) (rest (room - at) (length l) (drop at s) n (omega arith))

-- ---- one query

module _ (bytes : List ℕ) (from to : ℕ) (m p q allowance : ℕ) (w : List ℕ) (used : ℕ) where
  -- a refusal leaves the columns
  pub refused_columns : (r : Answer) (c : Columns) → (number_in r ≡ 0 → ⊥) → columns_from used (rows_given bytes from to m p q allowance w r) c ≡ c
  refused_columns r c n =
      ap (λ (g : Columns). columns_from used g c) (given_none bytes from to m p q allowance w r n)
      ∙ (λ t. record {
        ids = from_nothing used c.ids t;
        shared = from_nothing used c.shared t;
        sizes = from_nothing used c.sizes t;
        least = from_nothing used c.least t;
      })

  -- columns with the parts from `used` to `room` lent, and these put back
  abbrev pub lent_parts : ℕ → Columns → Columns
  lent_parts room c =
      record {
        ids = take (room - used) (drop used c.ids);
        shared = take (room - used) (drop used c.shared);
        sizes = take (room - used) (drop used c.sizes);
        least = take (room - used) (drop used c.least);
      }

  abbrev pub put_parts : ℕ → Columns → Columns → Columns
  put_parts room c part =
      record {
        ids = put_mid used (room - used) c.ids part.ids;
        shared = put_mid used (room - used) c.shared part.shared;
        sizes = put_mid used (room - used) c.sizes part.sizes;
        least = put_mid used (room - used) c.least part.least;
      }

  -- a search with its parts is the query's
  pub query_searched : (room : ℕ) (c part : Columns) (r : Answer) → from ≤ to → to ≤ length bytes → used ≤ room
      → room ≤ length c.ids → room ≤ length c.shared → room ≤ length c.sizes → room ≤ length c.least
      → Searched (part_of bytes from to) m p q allowance w (lent_parts room c) part r
      → (r ≡ answer_for bytes from to m p q allowance w (room - used)) × (put_parts room c part ≡ columns_from used (rows_given bytes from to m p q allowance w r) c)
  unfolding rows_given
  query_searched room c part r ft tb ur ni nh nz nl s = (
    right,
    λ t. record {
      ids = part_over used room rows.ids c.ids part.ids ur ni few.0 (ap (λ (d : Columns). d.ids) over_parts) t;
      shared = part_over used room rows.shared c.shared part.shared ur nh few.1 (ap (λ (d : Columns). d.shared) over_parts) t;
      sizes = part_over used room rows.sizes c.sizes part.sizes ur nz few.2 (ap (λ (d : Columns). d.sizes) over_parts) t;
      least = part_over used room rows.least c.least part.least ur nl few.3 (ap (λ (d : Columns). d.least) over_parts) t;
    },
  )
    where
      rows : Columns
      rows = rows_given bytes from to m p q allowance w r

      long : (l : List ℕ) → room ≤ length l → length (take (room - used) (drop used l)) ≡ room - used
      long l h = let d = length-drop used l in length-take-le (room - used) (drop used l) (omega arith)

      room_is : room_of (lent_parts room c) ≡ room - used
      room_is =
          let a = long c.ids ni in
          let b = long c.shared nh in
          let d = long c.sizes nz in
          let e = long c.least nl in
          omega arith

      right : r ≡ answer_for bytes from to m p q allowance w (room - used)
      right = s.answer ∙ ap (search_of (part_of bytes from to) m p q allowance w) room_is ∙ sym (query_lies bytes from to m p q allowance w (room - used) ft tb)

      over_parts : part ≡ columns_over rows (lent_parts room c)
      over_parts =
          s.columns
          ∙ ap (λ (a : Answer). columns_over (columns_of w m p q (features_of (part_of bytes from to)) (given_by a (answers_of w m p q (features_of (part_of bytes from to))))) (lent_parts room c)) (sym s.answer)

      few : (length rows.ids ≤ room - used) × (length rows.shared ≤ room - used) × (length rows.sizes ≤ room - used) × (length rows.least ≤ room - used)
      few =
          let n = given_rows bytes from to m p q allowance w (room - used) r right in
          let h = (answer_rows bytes from to m p q allowance w (room - used)).1 in
          let e = ap rows_in right in
          (omega arith, omega arith, omega arith, omega arith)

-- ---- rows of queries, one after the other

pub join_nil : (f : ℕ → List ℕ) → join_below 0 f ≡ []
unfolding join_below
join_nil f = refl

pub join_step : (k : ℕ) (f : ℕ → List ℕ) → join_below (k + 1) f ≡ join_below k f ++ f k
unfolding join_below
join_step k f = rw (add-one k)

pub length_join : (k : ℕ) (f : ℕ → List ℕ) (g : ℕ → ℕ) → ((j : ℕ) → length (f j) ≡ g j) → length (join_below k f) ≡ sum_below k g
unfolding join_below sum_below
length_join zero f g h = refl
length_join (suc k) f g h = length-append (join_below k f) (f k) ∙ ap₂ ◌+◌ (length_join k f g h) (h k)

-- ---- the first that passes, one step on

first_later : (t : ℕ → Bool) (i j c : ℕ) → i ≡ suc j → t c ≡ false → first_from t j (c + 1) ≡ first_from t i c
unfolding first_from
first_later t i j c e f = rw (e, f)

first_now : (t : ℕ → Bool) (i j c : ℕ) → i ≡ suc j → t c ≡ true → first_from t i c ≡ c
unfolding first_from
first_now t i j c e f = rw (e, f)

-- ---- the first k queries

module _ (bytes ends : List ℕ) (m p q allowance : ℕ) (w : List ℕ) where
  abbrev answer : ℕ → Answer
  answer = answer_at bytes ends m p q allowance w

  abbrev rows : ℕ → ℕ
  rows = rows_before bytes ends m p q allowance w

  abbrev given : ℕ → Columns
  given = columns_at bytes ends m p q allowance w

  pub rows_none : rows 0 ≡ 0
  rows_none = unfold rows_before sum_below in refl

  pub rows_step : (k : ℕ) → rows (k + 1) ≡ rows k + rows_in (answer k)
  unfolding rows_before
  rows_step k = sum_below_step (λ (j : ℕ). rows_in (answer j)) k

  pub record Lengths (k : ℕ) (c : Columns) : Type 0 where
    pub ids : length c.ids ≡ rows k
    pub shared : length c.shared ≡ rows k
    pub sizes : length c.sizes ≡ rows k
    pub least : length c.least ≡ rows k

  pub each : (j : ℕ)
      → (length (given j).ids ≡ rows_in (answer j)) × (length (given j).shared ≡ rows_in (answer j)) × (length (given j).sizes ≡ rows_in (answer j)) × (length (given j).least ≡ rows_in (answer j))
  unfolding columns_at answer_at
  each j =
      given_rows bytes (get_or (0 ∷ ends) j 0) (get_or ends j 0) m p q allowance w most_names
      (answer_for bytes (get_or (0 ∷ ends) j 0) (get_or ends j 0) m p q allowance w most_names) refl

  pub lengths : (k : ℕ) → Lengths k (columns_below bytes ends m p q allowance w k)
  unfolding rows_before
  lengths k =
      let r : ℕ → ℕ = λ (j : ℕ). rows_in (answer j) in
      record {
        ids = length_join k (λ (j : ℕ). (given j).ids) r (λ j. (each j).0);
        shared = length_join k (λ (j : ℕ). (given j).shared) r (λ j. (each j).1);
        sizes = length_join k (λ (j : ℕ). (given j).sizes) r (λ j. (each j).2);
        least = length_join k (λ (j : ℕ). (given j).least) r (λ j. (each j).3);
      }

  none_below : columns_below bytes ends m p q allowance w 0 ≡ no_columns
  none_below = λ t. record {
    ids = join_nil (λ (j : ℕ). (given j).ids) t;
    shared = join_nil (λ (j : ℕ). (given j).shared) t;
    sizes = join_nil (λ (j : ℕ). (given j).sizes) t;
    least = join_nil (λ (j : ℕ). (given j).least) t;
  }

  -- the rows of one query more
  next_below : (k used : ℕ) (c : Columns) → used ≡ rows k
      → columns_from used (given k) (columns_over (columns_below bytes ends m p q allowance w k) c) ≡ columns_over (columns_below bytes ends m p q allowance w (k + 1)) c
  next_below k used c e =
      let n = lengths k in
      λ t. record {
        ids = column (λ (j : ℕ). (given j).ids) c.ids n.ids t;
        shared = column (λ (j : ℕ). (given j).shared) c.shared n.shared t;
        sizes = column (λ (j : ℕ). (given j).sizes) c.sizes n.sizes t;
        least = column (λ (j : ℕ). (given j).least) c.least n.least t;
      }
    where
      column : (f : ℕ → List ℕ) (s : List ℕ) → length (join_below k f) ≡ rows k → over_from used (f k) (over (join_below k f) s) ≡ over (join_below (k + 1) f) s
      column f s l = over_from_lem (join_below k f) (f k) s used (l ∙ sym e) ∙ ap (λ (a : List ℕ). over a s) (sym (join_step k f))

  -- what stands after the first k of n queries, with that room, in columns that held o and c
  pub record Upto (room n : ℕ) (o : Outcomes) (c : Columns) (k used from : ℕ) (o' : Outcomes) (c' : Columns) : Type 0 where
    pub counted : used ≡ rows k
    pub fits : used ≤ room
    pub starts : from ≡ start_at bytes ends m p q allowance w k
    pub ahead : first_from (λ (j : ℕ). ltb room (rows (j + 1))) (n - k) k ≡ reached_of bytes ends m p q allowance w room n
    pub numbers : o'.numbers ≡ table_over (λ (j : ℕ). number_in (answer j)) k o.numbers
    pub until : o'.until ≡ table_over (λ (j : ℕ). rows (j + 1)) k o.until
    pub touches : o'.touches ≡ table_over (λ (j : ℕ). touches_in (answer j)) k o.touches
    pub columns : c' ≡ columns_over (columns_below bytes ends m p q allowance w k) c

  module _ (room n : ℕ) (o : Outcomes) (c : Columns) where
    pub upto_none : Upto room n o c 0 0 0 o c
    unfolding reached_of
    upto_none =
        record {
          counted = sym rows_none;
          fits = omega arith;
          starts = refl;
          ahead = (let z : n - 0 ≡ n = omega arith in ap (λ (i : ℕ). first_from (λ (j : ℕ). ltb room (rows (j + 1))) i 0) z);
          numbers = over_nil (λ (j : ℕ). number_in (answer j)) o.numbers;
          until = over_nil (λ (j : ℕ). rows (j + 1)) o.until;
          touches = over_nil (λ (j : ℕ). touches_in (answer j)) o.touches;
          columns = sym (ap (λ (g : Columns). columns_over g c) none_below);
        }

    module _ (k used from : ℕ) (o' : Outcomes) (c' : Columns) (u : Upto room n o c k used from o' c') (r : Answer)
        (e : r ≡ answer_for bytes from (get_or ends k 0) m p q allowance w (room - used)) where
      -- the answer by the query's own place
      placed : r ≡ answer_for bytes (get_or (0 ∷ ends) k 0) (get_or ends k 0) m p q allowance w (room - used)
      placed = e ∙ ap (λ (f : ℕ). answer_for bytes f (get_or ends k 0) m p q allowance w (room - used)) u.starts

      -- there is room for its rows
      pub next_fits : used + rows_in r ≤ room
      next_fits =
          let a = (answer_rows bytes from (get_or ends k 0) m p q allowance w (room - used)).1 in
          let b = ap rows_in e in
          let f = u.fits in
          omega arith

      -- where it is not 8, it is the query's answer
      full : (number_in r ≡ 8 → ⊥) → r ≡ answer k
      unfolding answer_at
      full z = placed ∙ (answer_beside bytes (get_or (0 ∷ ends) k 0) (get_or ends k 0) m p q allowance w (room - used)).1 (λ y. z (ap number_in placed ∙ y))

      -- and its rows are the query's
      same_rows : (number_in r ≡ 8 → ⊥) → rows_given bytes from (get_or ends k 0) m p q allowance w r ≡ given k
      unfolding columns_at
      same_rows z = ap₂ (λ (f : ℕ) (a : Answer). rows_given bytes f (get_or ends k 0) m p q allowance w a) u.starts (full z)

      -- one query more, by what is told of it: its number, its rows and its touches
      pub upto_next : (x v y : ℕ) → x ≡ number_in r → v ≡ rows_in r → y ≡ touches_in r
          → k < n → k < length o.numbers → k < length o.until → k < length o.touches → (x ≡ 8 → ⊥) → (c'' : Columns)
          → c'' ≡ columns_from used (rows_given bytes from (get_or ends k 0) m p q allowance w r) c'
          → Upto room n o c (k + 1) (used + v) (get_or ends k 0)
          (record { numbers = set o'.numbers k x; until = set o'.until k (used + v); touches = set o'.touches k y }) c''
      upto_next x v y ex ev ey kn kx ke kt zx c'' ec =
          record {
            counted = more;
            fits = (let f = next_fits in omega arith);
            starts = sym (ap (λ (j : ℕ). get_or (0 ∷ ends) j 0) (add-one k));
            ahead = later;
            numbers = ap₂ (λ (l : List ℕ) (i : ℕ). set l k i) u.numbers (ex ∙ ap number_in (full z)) ∙ over_step (λ (j : ℕ). number_in (answer j)) k o.numbers kx;
            until = ap₂ (λ (l : List ℕ) (i : ℕ). set l k i) u.until more ∙ over_step (λ (j : ℕ). rows (j + 1)) k o.until ke;
            touches = ap₂ (λ (l : List ℕ) (i : ℕ). set l k i) u.touches (ey ∙ ap touches_in (full z)) ∙ over_step (λ (j : ℕ). touches_in (answer j)) k o.touches kt;
            columns = ec ∙ ap₂ (λ (g d : Columns). columns_from used g d) (same_rows z) u.columns ∙ next_below k used c u.counted;
          }
        where
          z : number_in r ≡ 8 → ⊥
          z h = zx (ex ∙ h)

          more : used + v ≡ rows (k + 1)
          more = ap₂ ◌+◌ u.counted (ev ∙ ap rows_in (full z)) ∙ sym (rows_step k)

          later : first_from (λ (j : ℕ). ltb room (rows (j + 1))) (n - (k + 1)) (k + 1) ≡ reached_of bytes ends m p q allowance w room n
          later =
              let f = next_fits in
              let i = more in
              let d : n - k ≡ suc (n - (k + 1)) = omega arith in
              first_later (λ (j : ℕ). ltb room (rows (j + 1))) (n - k) (n - (k + 1)) k d (le-ltb room (rows (k + 1)) (omega arith)) ∙ u.ahead

      over_full : number_in r ≡ 8 → room - used < rows_in (answer k)
      unfolding answer_at
      over_full y = (answer_beside bytes (get_or (0 ∷ ends) k 0) (get_or ends k 0) m p q allowance w (room - used)).0 (sym (ap number_in placed) ∙ y)

      -- where it is 8, this is how far it comes, and nothing was written
      pub upto_stop : k < n → number_in r ≡ 8 → k ≡ reached_of bytes ends m p q allowance w room n
      upto_stop kn z =
          let d : n - k ≡ suc (n - (k + 1)) = omega arith in
          let s = rows_step k in
          let v = u.counted in
          let f = u.fits in
          let b = over_full z in
          sym (first_now (λ (j : ℕ). ltb room (rows (j + 1))) (n - k) (n - (k + 1)) k d (lt-ltb room (rows (k + 1)) (omega arith))) ∙ u.ahead

      pub stop_columns : number_in r ≡ 8 → (c'' : Columns) → c'' ≡ columns_from used (rows_given bytes from (get_or ends k 0) m p q allowance w r) c'
          → c'' ≡ columns_over (columns_below bytes ends m p q allowance w k) c
      stop_columns z c'' ec =
          ec ∙ refused_columns bytes from (get_or ends k 0) m p q allowance w used r c' (λ (y : number_in r ≡ 0). let h = sym y ∙ z in omega arith) ∙ u.columns

    module _ (k used from : ℕ) (o' : Outcomes) (c' : Columns) (u : Upto room n o c k used from o' c') where
      -- after the last there is none ahead
      pub upto_all : n ≤ k → k ≡ reached_of bytes ends m p q allowance w room n
      upto_all h =
          let d : n - k ≡ 0 = omega arith in
          sym (first_nil (λ (j : ℕ). ltb room (rows (j + 1))) k)
          ∙ sym (ap (λ (i : ℕ). first_from (λ (j : ℕ). ltb room (rows (j + 1))) i k) d)
          ∙ u.ahead

      pub upto_outcomes : o' ≡ outcomes_over (outcomes_below bytes ends m p q allowance w k) o
      upto_outcomes = λ t. record {
        numbers = table (λ (j : ℕ). number_in (answer j)) o.numbers o'.numbers u.numbers t;
        until = table (λ (j : ℕ). rows (j + 1)) o.until o'.until u.until t;
        touches = table (λ (j : ℕ). touches_in (answer j)) o.touches o'.touches u.touches t;
      }
        where
          table : (f : ℕ → ℕ) (s l : List ℕ) → l ≡ table_over f k s → l ≡ over (tabulate f k) s
          table f s l e = e ∙ ap (λ (i : ℕ). tabulate f k ++ drop i s) (sym (length_tabulate f k))

  -- ---- the whole

  pub asked : (o o' : Outcomes) (c c' : Columns) (n room k held number : ℕ) → n ≡ query_room ends o → room ≡ row_room c
      → k ≡ reached_of bytes ends m p q allowance w room n → held ≡ rows k → number ≡ cond (eqb k (length ends)) 0 8
      → o' ≡ outcomes_over (outcomes_below bytes ends m p q allowance w k) o → c' ≡ columns_over (columns_below bytes ends m p q allowance w k) c
      → Asked bytes ends m p q allowance w o o' c c' (record { number = number; queries = k; rows = held })
  unfolding come_of
  asked o o' c c' n room k held number en er ek eh ed eo ec =
      let e : k ≡ reached_in bytes ends m p q allowance w o c = ek ∙ ap₂ (λ (i j : ℕ). reached_of bytes ends m p q allowance w i j) er en in
      record {
        come = (λ t. record { number = (ed ∙ ap (λ (i : ℕ). cond (eqb i (length ends)) 0 8) e) t; queries = e t; rows = (eh ∙ ap rows e) t });
        outcomes = eo ∙ ap (λ (i : ℕ). outcomes_over (outcomes_below bytes ends m p q allowance w i) o) e;
        columns = ec ∙ ap (λ (i : ℕ). columns_over (columns_below bytes ends m p q allowance w i) c) e;
      }
