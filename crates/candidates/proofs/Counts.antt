-- Laws of the counts of all names: one list more, one later feature more, and how many remain. Cited by the proofs of the phases and by `sizes`.
-- Assumes nothing.
use mathlib.Core.Path.{◌≡◌, refl, sym, ap, ◌∙◌}
use mathlib.Core.Logic.{◌⊎◌, ⊎_elim}
use mathlib.Core.Bool.{Bool, true, false, cond, ◌&&◌}
use mathlib.Core.List.{List, [], ◌∷◌, map}
use Prim.Native.Nat.{ℕ, zero, suc, ◌+◌, ◌-◌, ◌≤◌, ◌<◌}
use native.Mathlib.Numerals.{add-one}
use native.Mathlib.Omega.{arith}
use lib.ListN.{length, get_or, take, replicate, length-take, length-replicate, get_or-replicate, get_or-eq_default}
use lib.Dec.{ltb, leb}
use borrow.Author.Tests.{eq-eqb, ne_eqb, lt-ltb, le-ltb, le-leb, lt-leb, leb-true, ltb-true}
use Rattle.laws.specs.Lists.{member, tabulate, sum_of, count_of}
use Rattle.laws.specs.Below.{sum_below, count_below}
use Rattle.laws.proofs.Lists.{count_le, length_tabulate, get_d_tabulate, tabulate_ext}
use Rattle.laws.proofs.Below.{sum_below_ext, sum_below_step, sum_below_up}
use Rattle.laws.proofs.Tables.{table_of}
use Rattle.laws.proofs.Tests.{and_parts}
use Rattle.laws.proofs.Order.{le_or_lt}
use Rattle.index.specs.Good.{most_names}
use Rattle.candidates.specs.Method.{held_by, signatures, remains, later_count}
use Rattle.candidates.specs.Tables.{holds_at, MetBy, tallied, tested_at, tested, cut_at, cut_lists, held_table, remains_at, remain_table, later_touches}
use Rattle.candidates.proofs.Candidates.{held_step, held_nil, remains_closed}
use Rattle.candidates.proofs.Tables.{met_count}

-- ---- sums of lengths

-- the postings of one list more
pub postings_step : (ls : List (List ℕ)) (k : ℕ) → k < length ls
    → sum_of (map length (take (k + 1) ls)) ≡ sum_of (map length (take k ls)) + length (get_or ls k [])
unfolding sum_of
postings_step [] k h = absurd (omega arith)
postings_step (l ∷ ls) zero h = omega arith
postings_step (l ∷ ls) (suc k) h = let r = postings_step ls k (omega arith) in let e : suc k + 1 ≡ suc (k + 1) = omega arith in rw e (omega arith)

pub postings_up : (ls : List (List ℕ)) (k d : ℕ) → sum_of (map length (take k ls)) ≤ sum_of (map length (take (k + d) ls))
unfolding sum_of
postings_up [] zero d = omega arith
postings_up [] (suc k) d = omega arith
postings_up (l ∷ ls) zero d = omega arith
postings_up (l ∷ ls) (suc k) d = let r = postings_up ls k d in let e : suc k + d ≡ suc (k + d) = omega arith in rw e (omega arith)

-- ---- one list more

pub held_table_nil : (ids : List ℕ) (ls : List (List ℕ)) → held_table ids (take 0 ls) ≡ tabulate (λ (i : ℕ). 0) most_names
unfolding held_table
held_table_nil ids ls =
    tabulate_ext (λ (i : ℕ). cond (ltb i (length ids)) (held_by (take 0 ls) (get_or ids i 0)) 0) (λ (i : ℕ). 0) most_names
    (λ i h. by_test (ltb i (length ids)) (held_nil ls (get_or ids i 0)))
  where
    by_test : (b : Bool) {n : ℕ} → n ≡ 0 → cond b n 0 ≡ 0
    by_test true e = e
    by_test false e = refl

pub held_table_step : (ids : List ℕ) (ls : List (List ℕ)) (k : ℕ) → k < length ls
    → tallied ids (get_or ls k []) (held_table ids (take k ls)) ≡ held_table ids (take (k + 1) ls)
unfolding tallied held_table holds_at
held_table_step ids ls k h =
    let f : ℕ → ℕ = λ (i : ℕ). cond (ltb i (length ids)) (held_by (take k ls) (get_or ids i 0)) 0 in
    tabulate_ext (λ (i : ℕ). get_or (tabulate f most_names) i 0 + cond (ltb i (length ids) && member (get_or ids i 0) (get_or ls k [])) 1 0)
    (λ (i : ℕ). cond (ltb i (length ids)) (held_by (take (k + 1) ls) (get_or ids i 0)) 0) most_names
    (λ i l.
    ap (λ (c : ℕ). c + cond (ltb i (length ids) && member (get_or ids i 0) (get_or ls k [])) 1 0) (get_d_tabulate f most_names i 0 l)
    ∙ by_test (ltb i (length ids)) (get_or ids i 0))
  where
    by_test : (b : Bool) (id : ℕ) → cond b (held_by (take k ls) id) 0 + cond (b && member id (get_or ls k [])) 1 0 ≡ cond b (held_by (take (k + 1) ls) id) 0
    by_test true id = sym (held_step ls id k h)
    by_test false id = refl

-- ---- one later feature more

-- what a test makes of a count that is there, and of one that is not
tested_some : (ids l : List ℕ) (needed : ℕ) (counts : List ℕ) (i c n : ℕ) → ltb i (length ids) ≡ true → get_or counts i 0 ≡ c → 1 ≤ c
    → n ≡ c + cond (member (get_or ids i 0) l) 1 0 → tested_at ids l needed counts i ≡ cond (ltb n needed) 0 n
unfolding tested_at holds_at
tested_some ids l needed counts i c n b e o m = rw (b, e, ne_eqb c 0 (λ z. omega arith), ← m)

tested_none : (ids l : List ℕ) (needed : ℕ) (counts : List ℕ) (i : ℕ) → get_or counts i 0 ≡ 0 → tested_at ids l needed counts i ≡ 0
unfolding tested_at
tested_none ids l needed counts i e = rw (eq-eqb (get_or counts i 0) 0 e)

-- who remains after one feature more
remains_after : (ls : List (List ℕ)) (t d id : ℕ)
    → remains ls t (d + 1) id
    ≡ remains ls t d id && leb t (held_by (take (signatures (length ls) t + (d + 1)) ls) id + (length ls - (signatures (length ls) t + (d + 1))))
unfolding remains
remains_after ls t d id = rw (add-one d)

pub at_remains : (ids : List ℕ) (ls : List (List ℕ)) (t d i : ℕ) → remains_at ids ls t d i ≡ true → (ltb i (length ids) ≡ true) × (remains ls t d (get_or ids i 0) ≡ true)
unfolding remains_at
at_remains ids ls t d i e = and_parts (ltb i (length ids)) (remains ls t d (get_or ids i 0)) e

at_stays : (ids : List ℕ) (ls : List (List ℕ)) (t d i : ℕ) → remains_at ids ls t d i ≡ true
    → remains_at ids ls t (d + 1) i ≡ leb t (held_by (take (signatures (length ls) t + (d + 1)) ls) (get_or ids i 0) + (length ls - (signatures (length ls) t + (d + 1))))
unfolding remains_at
at_stays ids ls t d i e =
    let p = at_remains ids ls t d i e in
    rw p.0 (remains_after ls t d (get_or ids i 0) ∙ (rw p.1))

at_gone : (ids : List ℕ) (ls : List (List ℕ)) (t d i : ℕ) → remains_at ids ls t d i ≡ false → remains_at ids ls t (d + 1) i ≡ false
unfolding remains_at
at_gone ids ls t d i e = by_test (ltb i (length ids)) e
  where
    by_test : (b : Bool) → b && remains ls t d (get_or ids i 0) ≡ false → b && remains ls t (d + 1) (get_or ids i 0) ≡ false
    by_test true q = remains_after ls t d (get_or ids i 0) ∙ (rw q)
    by_test false q = refl

pub remain_value : (ids : List ℕ) (ls : List (List ℕ)) (t d i : ℕ) → i < most_names
    → get_or (remain_table ids ls t d) i 0 ≡ cond (remains_at ids ls t d i) (held_by (take (signatures (length ls) t + d) ls) (get_or ids i 0)) 0
unfolding remain_table
remain_value ids ls t d i l =
    get_d_tabulate (λ (j : ℕ). cond (remains_at ids ls t d j) (held_by (take (signatures (length ls) t + d) ls) (get_or ids j 0)) 0) most_names i 0 l

module _ (ids : List ℕ) (ls : List (List ℕ)) (t : ℕ) (low : 1 ≤ t) (high : t ≤ length ls) where
  -- at first those remain that were met
  pub remain_starts : held_table ids (take (signatures (length ls) t) ls) ≡ remain_table ids ls t 0
  unfolding held_table remain_table remains_at remains
  remain_starts =
      tabulate_ext (λ (i : ℕ). cond (ltb i (length ids)) (held_by (take (signatures (length ls) t) ls) (get_or ids i 0)) 0)
      (λ (i : ℕ). cond (ltb i (length ids) && leb 1 (held_by (take (signatures (length ls) t) ls) (get_or ids i 0))) (held_by (take (signatures (length ls) t + 0) ls) (get_or ids i 0)) 0) most_names
      (λ i h.
      let e : signatures (length ls) t + 0 ≡ signatures (length ls) t = omega arith in
      rw e (by_test (ltb i (length ids)) (held_by (take (signatures (length ls) t) ls) (get_or ids i 0))))
    where
      by_test : (b : Bool) (c : ℕ) → cond b c 0 ≡ cond (b && leb 1 c) c 0
      by_test true zero = refl
      by_test true (suc c) = rw (le-leb 1 (suc c) (omega arith))
      by_test false c = refl

  -- who remains has a count
  pub remains_some : (d id : ℕ) → d ≤ later_count ls t → remains ls t d id ≡ true → 1 ≤ held_by (take (signatures (length ls) t + d) ls) id
  remains_some d id h e =
      let c = leb-true t (held_by (take (signatures (length ls) t + d) ls) id + (length ls - (signatures (length ls) t + d))) (sym (remains_closed ls t low high d id h) ∙ e) in
      omega arith

  -- the places with a count are those that remain
  pub remain_those : (d : ℕ) → d ≤ later_count ls t → (i : ℕ) → i < most_names → leb 1 (get_or (remain_table ids ls t d) i 0) ≡ remains_at ids ls t d i
  unfolding remain_table
  remain_those d h i l =
      ap (leb 1) (get_d_tabulate (λ (j : ℕ). cond (remains_at ids ls t d j) (held_by (take (signatures (length ls) t + d) ls) (get_or ids j 0)) 0) most_names i 0 l)
      ∙ by_test (remains_at ids ls t d i) refl
    where
      by_test : (b : Bool) → remains_at ids ls t d i ≡ b → leb 1 (cond b (held_by (take (signatures (length ls) t + d) ls) (get_or ids i 0)) 0) ≡ b
      by_test true e = le-leb 1 (held_by (take (signatures (length ls) t + d) ls) (get_or ids i 0)) (remains_some d (get_or ids i 0) h (at e))
        where
          at : remains_at ids ls t d i ≡ true → remains ls t d (get_or ids i 0) ≡ true
          at q = unfold remains_at in (and_parts (ltb i (length ids)) (remains ls t d (get_or ids i 0)) q).1
      by_test false e = refl

  -- how many remain is how many are met
  pub remain_count : (d : ℕ) → d ≤ later_count ls t → (met : List ℕ) (m : ℕ) → MetBy (remain_table ids ls t d) met m → m ≡ count_below most_names (remains_at ids ls t d)
  remain_count d h met m b =
      met_count (remain_table ids ls t d) met m b (unfold remain_table in (length_tabulate (λ (j : ℕ). cond (remains_at ids ls t d j) (held_by (take (signatures (length ls) t + d) ls) (get_or ids j 0)) 0) most_names))
      ∙ sum_below_ext most_names (λ (i : ℕ). cond (leb 1 (get_or (remain_table ids ls t d) i 0)) 1 0) (λ (i : ℕ). cond (remains_at ids ls t d i) 1 0)
      (λ i l. ap (λ (x : Bool). cond x 1 0) (remain_those d h i l))

  -- what is needed is there exactly if with `left` more it reaches t
  by_sum : (n needed left : ℕ) → needed + left ≡ t → (needed ≤ n) ⊎ (n < needed) → cond (ltb n needed) 0 n ≡ cond (leb t (n + left)) n 0
  by_sum n needed left e o =
      ⊎_elim
      (λ (k : needed ≤ n). rw (le-ltb n needed k, le-leb t (n + left) (omega arith)))
      (λ (k : n < needed). rw (lt-ltb n needed k, lt-leb t (n + left) (omega arith)))
      o

  remain_tested : (d needed : ℕ) → d < later_count ls t → needed + (length ls - (signatures (length ls) t + d) - 1) ≡ t
      → (i : ℕ) → i < most_names → (b : Bool) → remains_at ids ls t d i ≡ b
      → tested_at ids (get_or ls (signatures (length ls) t + d) []) needed (remain_table ids ls t d) i
      ≡ cond (remains_at ids ls t (d + 1) i) (held_by (take (signatures (length ls) t + (d + 1)) ls) (get_or ids i 0)) 0
  remain_tested d needed h e i l true q =
      let p = at_remains ids ls t d i q in
      let k : signatures (length ls) t + (d + 1) ≡ (signatures (length ls) t + d) + 1 = omega arith in
      let c = held_by (take (signatures (length ls) t + d) ls) (get_or ids i 0) in
      let n = held_by (take (signatures (length ls) t + (d + 1)) ls) (get_or ids i 0) in
      let x : n ≡ c + cond (member (get_or ids i 0) (get_or ls (signatures (length ls) t + d) [])) 1 0 =
      ap (λ (m : ℕ). held_by (take m ls) (get_or ids i 0)) k ∙ held_step ls (get_or ids i 0) (signatures (length ls) t + d) (omega arith)
      in
      let left = length ls - (signatures (length ls) t + d) - 1 in
      let z : length ls - (signatures (length ls) t + (d + 1)) ≡ left = omega arith in
      tested_some ids (get_or ls (signatures (length ls) t + d) []) needed (remain_table ids ls t d) i c n p.0 (remain_value ids ls t d i l ∙ (rw q)) (remains_some d (get_or ids i 0) (omega arith) p.1) x
      ∙ by_sum n needed left e (le_or_lt needed n)
      ∙ ap (λ (b : Bool). cond b n 0) (sym (at_stays ids ls t d i q ∙ ap (λ (m : ℕ). leb t (n + m)) z))
  remain_tested d needed h e i l false q =
      tested_none ids (get_or ls (signatures (length ls) t + d) []) needed (remain_table ids ls t d) i (remain_value ids ls t d i l ∙ (rw q))
      ∙ ap (λ (b : Bool). cond b (held_by (take (signatures (length ls) t + (d + 1)) ls) (get_or ids i 0)) 0) (sym (at_gone ids ls t d i q))

  -- the test against the next list
  pub remain_step : (d needed : ℕ) → d < later_count ls t → needed + (length ls - (signatures (length ls) t + d) - 1) ≡ t
      → tested ids (get_or ls (signatures (length ls) t + d) []) needed (remain_table ids ls t d) ≡ remain_table ids ls t (d + 1)
  unfolding tested remain_table
  remain_step d needed h e =
      tabulate_ext (tested_at ids (get_or ls (signatures (length ls) t + d) []) needed (remain_table ids ls t d))
      (λ (i : ℕ). cond (remains_at ids ls t (d + 1) i) (held_by (take (signatures (length ls) t + (d + 1)) ls) (get_or ids i 0)) 0) most_names
      (λ i l. remain_tested d needed h e i l (remains_at ids ls t d i) refl)

-- ---- the lists as the code cuts them

pub length_cut : (w keys starts : List ℕ) → length (cut_lists w keys starts) ≡ length keys
unfolding cut_lists
length_cut w keys starts = length_tabulate (cut_at w keys starts) (length keys)

pub get_d_cut : (w keys starts : List ℕ) (k : ℕ) → k < length keys → get_or (cut_lists w keys starts) k [] ≡ cut_at w keys starts k
unfolding cut_lists
get_d_cut w keys starts k h = get_d_tabulate (cut_at w keys starts) (length keys) k [] h

-- no count is above the number of lists
pub held_table_most : (ids : List ℕ) (ls : List (List ℕ)) (i : ℕ) → get_or (held_table ids ls) i 0 ≤ length ls
unfolding held_table held_by
held_table_most ids ls i =
    ⊎_elim
    (λ (q : most_names ≤ i).
    let z = get_or-eq_default (tabulate (λ (j : ℕ). cond (ltb j (length ids)) (count_of (λ (l : List ℕ). member (get_or ids j 0) l) ls) 0) most_names) 0 {n = i} (rw length_tabulate q) in
    omega arith)
    (λ (q : i < most_names).
    rw (get_d_tabulate (λ (j : ℕ). cond (ltb j (length ids)) (count_of (λ (l : List ℕ). member (get_or ids j 0) l) ls) 0) most_names i 0 q)
    (by_test (ltb i (length ids)) (count_le (λ (l : List ℕ). member (get_or ids i 0) l) ls)))
    (le_or_lt most_names i)
  where
    by_test : (b : Bool) {n : ℕ} → n ≤ length ls → cond b n 0 ≤ length ls
    by_test true k = k
    by_test false k = omega arith

-- a table of zeros holds 0 everywhere, past its end too
pub zero_table : (i : ℕ) → ◌≡◌ {A = ℕ} (get_or (tabulate (λ (j : ℕ). 0) most_names) i 0) 0
zero_table i =
    ⊎_elim
    (λ (q : most_names ≤ i). get_or-eq_default (tabulate (λ (j : ℕ). 0) most_names) 0 {n = i} (rw (length_tabulate {A = ℕ} (λ (j : ℕ). 0) most_names) q))
    (λ (q : i < most_names). get_d_tabulate (λ (j : ℕ). 0) most_names i 0 q)
    (le_or_lt most_names i)

-- ---- the counts of those that remain

pub length_remain : (ids : List ℕ) (ls : List (List ℕ)) (t d : ℕ) → length (remain_table ids ls t d) ≡ most_names
unfolding remain_table
length_remain ids ls t d =
    length_tabulate (λ (j : ℕ). cond (remains_at ids ls t d j) (held_by (take (signatures (length ls) t + d) ls) (get_or ids j 0)) 0) most_names

remain_past : (ids : List ℕ) (ls : List (List ℕ)) (t d i : ℕ) → most_names ≤ i → get_or (remain_table ids ls t d) i 0 ≡ 0
remain_past ids ls t d i q = get_or-eq_default (remain_table ids ls t d) 0 {n = i} (rw (length_remain ids ls t d) q)

held_most : (ls : List (List ℕ)) (n id : ℕ) → held_by (take n ls) id ≤ length ls
unfolding held_by
held_most ls n id =
    let c = count_le (λ (l : List ℕ). member id l) (take n ls) in
    let m = length-take n ls in
    omega arith

-- none is above the number of lists
pub remain_most : (ids : List ℕ) (ls : List (List ℕ)) (t d i : ℕ) → get_or (remain_table ids ls t d) i 0 ≤ length ls
remain_most ids ls t d i =
    ⊎_elim
    (λ (q : most_names ≤ i). let z = remain_past ids ls t d i q in omega arith)
    (λ (q : i < most_names). rw (remain_value ids ls t d i q) (by_test (remains_at ids ls t d i) (held_most ls (signatures (length ls) t + d) (get_or ids i 0))))
    (le_or_lt most_names i)
  where
    by_test : (b : Bool) {n : ℕ} → n ≤ length ls → cond b n 0 ≤ length ls
    by_test true k = k
    by_test false k = omega arith

-- only names have a count
pub remain_known : (ids : List ℕ) (ls : List (List ℕ)) (t d i : ℕ) → 1 ≤ get_or (remain_table ids ls t d) i 0 → i < length ids
remain_known ids ls t d i o =
    ⊎_elim
    (λ (q : most_names ≤ i). let z = remain_past ids ls t d i q in absurd (omega arith))
    (λ (q : i < most_names). by_test (remains_at ids ls t d i) refl (rw (remain_value ids ls t d i q) at o))
    (le_or_lt most_names i)
  where
    by_test : (b : Bool) → remains_at ids ls t d i ≡ b → 1 ≤ cond b (held_by (take (signatures (length ls) t + d) ls) (get_or ids i 0)) 0 → i < length ids
    by_test true e k = ltb-true i (length ids) (at_remains ids ls t d i e).0
    by_test false e k = absurd (omega arith)

pub later_step : (ids : List ℕ) (ls : List (List ℕ)) (t d : ℕ) → later_touches ids ls t (d + 1) ≡ later_touches ids ls t d + count_below most_names (remains_at ids ls t d)
unfolding later_touches
later_step ids ls t d = sum_below_step (λ (e : ℕ). count_below most_names (remains_at ids ls t e)) d

pub later_up : (ids : List ℕ) (ls : List (List ℕ)) (t d e : ℕ) → later_touches ids ls t d ≤ later_touches ids ls t (d + e)
unfolding later_touches
later_up ids ls t d e = sum_below_up d e (λ (f : ℕ). count_below most_names (remains_at ids ls t f))

pub later_nil : (ids : List ℕ) (ls : List (List ℕ)) (t : ℕ) → later_touches ids ls t 0 ≡ 0
unfolding later_touches sum_below
later_nil ids ls t = refl

pub zeros : replicate {A = ℕ} most_names 0 ≡ tabulate (λ (i : ℕ). 0) most_names
zeros = table_of (replicate most_names 0) most_names (λ (i : ℕ). 0) (length-replicate {A = ℕ} most_names 0) (λ i h. get_or-replicate most_names i 0 0 h)

-- a name that does not remain at its place does not remain
pub at_absent : (ids : List ℕ) (ls : List (List ℕ)) (t d i : ℕ) → ltb i (length ids) ≡ true → remains_at ids ls t d i ≡ false → remains ls t d (get_or ids i 0) ≡ false
unfolding remains_at
at_absent ids ls t d i b e = sym (ap (λ (x : Bool). x && remains ls t d (get_or ids i 0)) b) ∙ e
