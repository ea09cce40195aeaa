-- What one turn of each loop does, on plain lists.
-- Assumes nothing.
use mathlib.Core.Path.{◌≡◌, refl, sym, ap, ap₂, ◌∙◌}
use mathlib.Core.List.{List, [], ◌∷◌, ◌++◌, append-nil, append_assoc}
use Prim.Native.Nat.{ℕ, zero, suc, ◌+◌, ◌-◌, ◌≤◌, ◌<◌}
use native.Mathlib.Nat.{sub-zero, suc-sub-suc}
use native.Mathlib.Numerals.{add-one}
use native.Mathlib.Omega.{arith}
use lib.ListN.{length, get_or, take, drop, set, length-drop, take-append-drop, get_or-eq_default}
use lib.Seq.{paste, paste-suc, slice, slice_empty, take-length, drop-length, length_paste_head, length-take-le, take-nil, take-suc, drop-cons, take-take, take_at, drop_at, drop-drop, get_or-take, get_or-drop, take-append-le, drop-append-le}
use Rattle.laws.specs.Lists.{Ascending, AllAbove}
use Rattle.laws.specs.Sort.{AllFrom, Sorted}
use Rattle.laws.specs.Each.{Each}
use mathlib.Core.Logic.{⊎_elim}
use Rattle.laws.proofs.Order.{le_or_lt}
use Rattle.laws.proofs.Members.{each_at, each_of}
use Rattle.laws.proofs.Ascending.{ascending_at}
use Rattle.laws.proofs.Sort.{ascending_left}
use Rattle.splicing.specs.Splice.{put_at, put_in, take_out}
use Rattle.splicing.proofs.Laws.{length_put_in, length_take_out, take_put_in, take_out_append, take_out_left}

-- ---- places

-- what stands at a place that there is, whatever stands for none
pub get_d_there : (l : List ℕ) (i d e : ℕ) → i < length l → get_or l i d ≡ get_or l i e
get_d_there [] i d e h = absurd (omega arith)
get_d_there (x ∷ l) zero d e h = refl
get_d_there (x ∷ l) (suc i) d e h = get_d_there l i d e (omega arith)

-- a place is related to the next, or to the end after the last
next_place : (R : ℕ → ℕ → Type 0) (S : List ℕ → Type 0) → ((x y : ℕ) (l : List ℕ) → S (x ∷ y ∷ l) → R x y) → ((x : ℕ) (l : List ℕ) → S (x ∷ l) → S l)
    → (end : ℕ) (at : List ℕ) (j : ℕ) → S at → Each (λ (p : ℕ). R p end) at → j < length at → R (get_or at j end) (get_or at (suc j) end)
unfolding Each
next_place R S first rest end [] j s h b = absurd (omega arith)
next_place R S first rest end (x ∷ []) zero s h b = h.0
next_place R S first rest end (x ∷ y ∷ at) zero s h b = first x y at s
next_place R S first rest end (x ∷ at) (suc j) s h b = next_place R S first rest end at j (rest x at s) h.1 (omega arith)

pub sorted_next : (end : ℕ) (at : List ℕ) (j m : ℕ) → m ≡ suc j → Sorted at → Each (λ (p : ℕ). p ≤ end) at → j < length at → get_or at j end ≤ get_or at m end
unfolding Sorted AllFrom
sorted_next end at j m e s h b = rw e (next_place ◌≤◌ Sorted (λ x y l t. t.0.0) (λ x l t. t.1) end at j s h b)

pub ascending_next : (end : ℕ) (at : List ℕ) (j m : ℕ) → m ≡ suc j → Ascending at → Each (λ (p : ℕ). p < end) at → j < length at → get_or at j end < get_or at m end
unfolding Ascending AllAbove
ascending_next end at j m e s h b = rw e (next_place ◌<◌ Ascending (λ x y l t. t.0.0) (λ x l t. t.1) end at j s h b)

-- a place is not after the next, or the end after the last
pub block_before : (end : ℕ) (at : List ℕ) (j m to : ℕ) → m ≡ suc j → Sorted at → Each (λ (p : ℕ). p ≤ end) at → j < length at → to ≡ get_or at m end
    → get_or at j 0 ≤ to
block_before end at j m to d s h l q =
    let n = sorted_next end at j m d s h l in
    let e = get_d_there at j 0 end l in
    omega arith

-- and before it where places ascend
pub block_after : (end : ℕ) (at : List ℕ) (i to : ℕ) → Ascending at → Each (λ (p : ℕ). p < end) at → i < length at → to ≡ get_or at (i + 1) end
    → (get_or at i 0 + 1 ≤ to) × (to ≤ end)
block_after end at i to s h l q =
    let n = ascending_next end at i (i + 1) (add-one i) s h l in
    let e = get_d_there at i 0 end l in
    let m : get_or at (i + 1) end ≤ end =
    ⊎_elim
    (λ (b : length at ≤ i + 1). let d = get_or-eq_default at end b in omega arith)
    (λ (b : i + 1 < length at). let d = each_at (λ (p : ℕ). p < end) at (i + 1) end h b in omega arith)
    (le_or_lt (length at) (i + 1)) in
    (omega arith, omega arith)

-- no place from j on is below the place at j
places_from : (end : ℕ) (at : List ℕ) (j : ℕ) → Sorted at → AllFrom (get_or at j end) (drop j at)
unfolding Sorted AllFrom
places_from end [] zero s = tt
places_from end [] (suc j) s = tt
places_from end (x ∷ at) zero s = (omega arith, s.0)
places_from end (x ∷ at) (suc j) s = places_from end at j s.1

-- ---- a block of words

-- a block is what is left of a beginning
slice_take : (a b : ℕ) (l : List ℕ) → a ≤ b → slice a b l ≡ take (b - a) (drop a l)
slice_take zero b l h = rw sub-zero
slice_take (suc a) zero l h = absurd (omega arith)
slice_take (suc a) (suc b) [] h = sym (take-nil (suc b - suc a))
slice_take (suc a) (suc b) (x ∷ l) h = rw suc-sub-suc (slice_take a b l (omega arith))

-- the last of a beginning written over
set_last : (n v : ℕ) (l r : List ℕ) → n < length l → set (take (suc n) l ++ r) n v ≡ take n l ++ v ∷ r
set_last n v [] r h = absurd (omega arith)
set_last zero v (x ∷ l) r h = refl
set_last (suc n) v (x ∷ l) r h = ap (λ (k : List ℕ). x ∷ k) (set_last n v l r (omega arith))

-- what stands from place k on, where the list was changed before it
drop_behind : (n k : ℕ) (h l : List ℕ) → length h ≡ n → n ≤ k → drop k (h ++ drop n l) ≡ drop k l
drop_behind n k h l e b =
    let q : k ≡ n + (k - n) = omega arith in
    ap (λ (j : ℕ). drop j (h ++ drop n l)) q
    ∙ sym (drop-drop (k - n) n (h ++ drop n l))
    ∙ ap (drop (k - n)) (drop_at h (drop n l) n e)
    ∙ drop-drop (k - n) n l
    ∙ ap (λ (j : ℕ). drop j l) (sym q)

get_d_behind : (n k : ℕ) (h l : List ℕ) → length h ≡ n → n ≤ k → get_or (h ++ drop n l) k 0 ≡ get_or l k 0
get_d_behind n k h l e b =
    let q : k + 0 ≡ k = omega arith in
    let f = get_or-drop k (h ++ drop n l) 0 0 in
    let g = get_or-drop k l 0 0 in
    rw q at (sym f ∙ ap (λ (r : List ℕ). get_or r 0 0) (drop_behind n k h l e b) ∙ g)

-- one word more moves down: it stands after the moved ones
pub down_step : (l w : List ℕ) (k from by : ℕ) → by ≤ from → from ≤ k → k < length l → w ≡ paste l (from - by) (drop from l) (k - from)
    → set w (k - by) (get_or w k 0) ≡ paste l (from - by) (drop from l) (k + 1 - from)
down_step l w k from by b h n q =
    let d = length-drop from l in
    let e : from - by + (k - from) ≡ k - by = omega arith in
    let f : k + 1 - from ≡ suc (k - from) = omega arith in
    ap₂ (λ (r : List ℕ) (x : ℕ). set r (k - by) x) q value
    ∙ rw (← e, f) (paste-suc l (from - by) (drop from l) (k - from) 0 (omega arith) (omega arith))
  where
    value : get_or w k 0 ≡ get_or (drop from l) (k - from) 0
    value =
        let d = length-drop from l in
        let g : from + (k - from) ≡ k = omega arith in
        let p = length_paste_head l (from - by) (drop from l) (k - from) (omega arith) (omega arith) in
        ap (λ (r : List ℕ). get_or r k 0) q
        ∙ get_d_behind (from - by + (k - from)) k (take (from - by) l ++ take (k - from) (drop from l)) l p (omega arith)
        ∙ rw (get_or-drop, g)

-- ---- words put in

-- a block before y moves up to it, and v is put before the block
gap_step : (x y : List ℕ) (a to j v : ℕ) → a ≤ to → length x ≡ to + suc j
    → set (paste (x ++ y) (a + suc j) (drop a (x ++ y)) (to - a)) (a + j) v ≡ take (a + j) x ++ v ∷ (slice a to x ++ y)
gap_step x y a to j v h n =
    let e : a + suc j ≡ suc (a + j) = omega arith in
    let f : a + suc j + (to - a) ≡ to + suc j = omega arith in
    rw (f, e, take-append-le (suc (a + j)) x y (omega arith), block, drop_at x y (to + suc j) n, append_assoc)
    (set_last (a + j) v x (slice a to x ++ y) (omega arith))
  where
    block : take (to - a) (drop a (x ++ y)) ≡ slice a to x
    block =
        let d = length-drop a x in
        ap (take (to - a)) (drop-append-le a x y (omega arith)) ∙ take-append-le (to - a) (drop a x) y (omega arith) ∙ sym (slice_take a to x h)

drop_put_at : (a v to : ℕ) (l : List ℕ) → a ≤ to → to ≤ length l → drop a (put_at a v l) ≡ v ∷ (slice a to l ++ drop to l)
drop_put_at a v to l h n =
    let t = length-take-le to l n in
    drop_at (take a l) (v ∷ drop a l) a (length-take-le a l (omega arith))
    ∙ ap (λ (r : List ℕ). v ∷ r) (ap (drop a) (sym (take-append-drop to l)) ∙ drop-append-le a (take to l) (drop to l) (omega arith))

module _ (at vs old : List ℕ) (end : ℕ) where
  -- the values from j on put into the words in use
  abbrev putting_in : ℕ → List ℕ
  putting_in j = put_in (drop j at) (drop j vs) (take end old)

  -- the words when the values from j on are put in: those before place `to` have not moved, and those from there on stand where they stay
  abbrev pub putting : ℕ → ℕ → List ℕ
  putting j to = take (to + j) old ++ drop to (putting_in j) ++ drop (end + length at) old

  pub put_starts : putting (length at) end ≡ old
  unfolding put_in
  put_starts = rw (drop-length at, slice_empty end old, append-nil) (take-append-drop (end + length at) old)

  module _ (s : Sorted at) (h : Each (λ (p : ℕ). p ≤ end) at) (e : length at ≡ length vs) (room : end + length at ≤ length old) where
    -- nothing before place `to` has changed
    before : (j to : ℕ) → to ≡ get_or at j end → to ≤ end → take to (putting_in j) ≡ take to old
    before j to q b =
        let n = length-take-le end old (omega arith) in
        let k = length-drop j at in
        let m = length-drop j vs in
        take_put_in to (drop j at) (drop j vs) (take end old) (omega arith) (rw q (places_from end at j s)) (omega arith) ∙ take-take to end old b

    -- one value more
    more : (j a to : ℕ) → j < length at → a ≡ get_or at j end → to ≡ get_or at (suc j) end → a ≤ to → to ≤ end
        → drop a (putting_in j) ≡ get_or vs j 0 ∷ (slice a to old ++ drop to (putting_in (suc j)))
    unfolding put_in
    more j a to l p q b c =
        let n = length-take-le end old (omega arith) in
        let k = length-drop (suc j) at in
        let m = length-drop (suc j) vs in
        let o = length_put_in (drop (suc j) at) (drop (suc j) vs) (take end old) (omega arith) in
        rw (drop-cons at j end l, drop-cons vs j 0 (omega arith), ← p, ← before (suc j) to q c)
        (drop_put_at a (get_or vs j 0) to (putting_in (suc j)) b (omega arith))

    -- a block moves, and its value is put before it
    pub put_step : (w u : List ℕ) (j m a to : ℕ) → m ≡ suc j → j < length at → a ≡ get_or at j end → to ≡ get_or at m end → to ≤ end
        → w ≡ putting m to → u ≡ paste w (a + m) (drop a w) (to - a) → set u (a + j) (get_or vs j 0) ≡ putting j a
    put_step w u j m a to d l p q c f g =
        let r : to ≡ get_or at (suc j) end = rw d at q in
        let t = sorted_next end at j m d s h l in
        let b : a ≤ to = omega arith in
        let n = length-take-le (to + suc j) old (omega arith) in
        let x : List ℕ = take (to + suc j) old in
        let y : List ℕ = drop to (putting_in (suc j)) in
        let z : List ℕ = drop (end + length at) old in
        rw (g, f, d, append_assoc x y z)
        (gap_step x (y ++ z) a to j (get_or vs j 0) b n
        ∙ rw (take-take (a + j) (to + suc j) old (omega arith), take-take to (to + suc j) old (omega arith), more j a to l p r b c, append_assoc, append_assoc))

    pub put_ends : (to : ℕ) → to ≡ get_or at 0 end → to ≤ end → putting 0 to ≡ put_in at vs (take end old) ++ drop (end + length at) old
    put_ends to q b =
        let z : to + 0 ≡ to = omega arith in
        rw (z, ← before 0 to q b, take-append-drop)

-- ---- words taken out

module _ (at old : List ℕ) where
  -- the words when those at the first i places are taken out: the words before place `from` stand where they stay, and none has been put at or after them
  abbrev pub taking : ℕ → ℕ → List ℕ
  taking i from = take_out (take i at) (take from old) ++ drop (from - i) old

  pub take_starts : (from : ℕ) → taking 0 from ≡ old
  unfolding take_out
  take_starts from = rw (sub-zero, take-append-drop)

  pub take_ends : (end i from : ℕ) → i ≡ length at → from ≡ get_or at i end → taking i from ≡ take_out at (take end old) ++ drop (end - length at) old
  take_ends end i from e q =
      let f : from ≡ end = q ∙ get_or-eq_default at end (omega arith) in
      rw (f, e, take-length)

  module _ (end : ℕ) (s : Ascending at) (h : Each (λ (p : ℕ). p < end) at) (fits : end ≤ length old) (i a : ℕ) (l : i < length at) (p : a ≡ get_or at i end) where
    abbrev kept : List ℕ
    kept = take_out (take i at) (take a old)

    long : length (take a old) ≡ a
    long = let b = each_at (λ (q : ℕ). q < end) at i end h l in length-take-le a old (omega arith)

    upward : Ascending (take i at)
    upward = ascending_left (take i at) (drop i at) (rw take-append-drop s)

    below : Each (λ (q : ℕ). q < length (take a old)) (take i at)
    below =
        let n = length-take-le i at (omega arith) in
        each_of (λ (q : ℕ). q < length (take a old)) (take i at) 0 (λ k b.
        let t = get_or-take i at k 0 (omega arith) in
        let r = ascending_at at s k i (omega arith) l in
        let d = get_d_there at i 0 end l in
        let o = long in
        omega arith)

    pub length_kept : i + length kept ≡ a
    length_kept =
        let n = length-take-le i at (omega arith) in
        let o = long in
        let k = length_take_out (take i at) (take a old) upward below in
        omega arith

    module _ (to : ℕ) (q : to ≡ get_or at (i + 1) end) where
      next : a < to
      next = let t = ascending_next end at i (i + 1) (add-one i) s h l in omega arith

      more_out : take_out (take (i + 1) at) (take to old) ≡ kept ++ take (to - (a + 1)) (drop (a + 1) old)
      unfolding take_out
      more_out =
          let b = next in
          rw (add-one i, take-suc at i end l, ← p, take_out_append, take-take a to old (omega arith), slice_take (suc a) to old b)
          (rw (add-one a) (take_out_left (take i at) (take a old) (take (to - suc a) (drop (suc a) old)) upward below))

      pub take_step : (w u : List ℕ) → w ≡ taking i a → u ≡ paste w (a + 1 - (i + 1)) (drop (a + 1) w) (to - (a + 1)) → u ≡ taking (i + 1) to
      take_step w u f g =
          let n = length_kept in
          let b = next in
          let o : length kept ≡ a - i = omega arith in
          let t : a + 1 - (i + 1) ≡ a - i = omega arith in
          let c : a - i + (to - (a + 1)) ≡ to - (i + 1) = omega arith in
          g ∙ rw (f, t, c, take_at kept (drop (a - i) old) (a - i) o, drop_behind (a - i) (a + 1) kept old o (omega arith), drop_behind (a - i) (to - (i + 1)) kept old o (omega arith), more_out)
