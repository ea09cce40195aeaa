-- Laws of words put into and taken out of a list: lengths, a list in two parts, and that the one undoes the other.
-- Assumes nothing.
use mathlib.Core.Path.{◌≡◌, refl, ap, ◌∙◌}
use mathlib.Core.List.{List, [], ◌∷◌, ◌++◌, map, append_assoc}
use Prim.Native.Nat.{ℕ, zero, suc, ◌+◌, ◌≤◌, ◌<◌}
use native.Mathlib.Nat.{add-suc}
use native.Mathlib.Omega.{arith}
use lib.ListN.{length, take, length-map}
use lib.Seq.{take-append-le, drop-append-le, take-append-add, drop-append-add}
use Rattle.laws.specs.Lists.{Ascending, AllAbove}
use Rattle.laws.specs.Sort.{AllFrom, Sorted}
use Rattle.laws.specs.Each.{Each}
use Rattle.laws.proofs.Sort.{above_member, from_members, ascending_nil, ascending_cons}
use Rattle.laws.proofs.Images.{ascending_map}
use Rattle.splicing.specs.Splice.{put_at, taken_at, put_in, take_out, places_of}

-- ---- lengths

pub length_put_at : (a v : ℕ) (l : List ℕ) → length (put_at a v l) ≡ suc (length l)
length_put_at zero v l = refl
length_put_at (suc a) v [] = refl
length_put_at (suc a) v (x ∷ l) = ap suc (length_put_at a v l)

pub length_take_at : (a : ℕ) (l : List ℕ) → a < length l → suc (length (taken_at a l)) ≡ length l
length_take_at a [] h = absurd (omega arith)
length_take_at zero (x ∷ l) h = refl
length_take_at (suc a) (x ∷ l) h = ap suc (length_take_at a l (omega arith))

pub length_put_in : (at vs l : List ℕ) → length at ≡ length vs → length (put_in at vs l) ≡ length at + length l
unfolding put_in
length_put_in [] vs l e = omega arith
length_put_in (a ∷ at) [] l e = absurd (omega arith)
length_put_in (a ∷ at) (v ∷ vs) l e =
    let h = length_put_in at vs l (omega arith) in
    let k = length_put_at a v (put_in at vs l) in
    omega arith

-- the places that follow the first leave room for it
room : (a : ℕ) (at : List ℕ) (n : ℕ) → Ascending (a ∷ at) → Each (λ (p : ℕ). p < n) (a ∷ at) → a + length at < n
unfolding Ascending AllAbove Each
room a [] n s h = let k = h.0 in omega arith
room a (b ∷ at) n s h = let k = room b at n s.1 h.1 in let j = s.0.0 in omega arith

pub length_take_out : (at l : List ℕ) → Ascending at → Each (λ (p : ℕ). p < length l) at → length at + length (take_out at l) ≡ length l
unfolding take_out Ascending Each
length_take_out [] l s h = omega arith
length_take_out (a ∷ at) l s h =
    let r = room a at (length l) s h in
    let k = length_take_out at l s.1 h.1 in
    let j = length_take_at a (take_out at l) (omega arith) in
    omega arith

-- ---- before the first place

take_put_before : (b a v : ℕ) (l : List ℕ) → b ≤ a → b ≤ length l → take b (put_at a v l) ≡ take b l
take_put_before zero a v l h n = refl
take_put_before (suc b) zero v l h n = absurd (omega arith)
take_put_before (suc b) (suc a) v [] h n = absurd (omega arith)
take_put_before (suc b) (suc a) v (x ∷ l) h n = ap (λ (r : List ℕ). x ∷ r) (take_put_before b a v l (omega arith) (omega arith))

-- what stands before every place stays there
pub take_put_in : (b : ℕ) (at vs l : List ℕ) → length at ≡ length vs → AllFrom b at → b ≤ length l → take b (put_in at vs l) ≡ take b l
unfolding put_in AllFrom
take_put_in b [] vs l e h n = refl
take_put_in b (a ∷ at) [] l e h n = refl
take_put_in b (a ∷ at) (v ∷ vs) l e h n =
    let m = length_put_in at vs l (omega arith) in
    take_put_before b a v (put_in at vs l) h.0 (omega arith) ∙ take_put_in b at vs l (omega arith) h.1 n

-- ---- places of two lists

pub put_in_append : (at vs bt us l : List ℕ) → length at ≡ length vs → put_in (at ++ bt) (vs ++ us) l ≡ put_in at vs (put_in bt us l)
unfolding put_in
put_in_append [] [] bt us l e = refl
put_in_append [] (v ∷ vs) bt us l e = absurd (omega arith)
put_in_append (a ∷ at) [] bt us l e = absurd (omega arith)
put_in_append (a ∷ at) (v ∷ vs) bt us l e = ap (put_at a v) (put_in_append at vs bt us l (omega arith))

pub take_out_append : (at bt l : List ℕ) → take_out (at ++ bt) l ≡ take_out at (take_out bt l)
unfolding take_out
take_out_append [] bt l = refl
take_out_append (a ∷ at) bt l = ap (taken_at a) (take_out_append at bt l)

-- ---- a list in two parts: places of the first, places of the second, and of both

pub put_in_left : (at vs k l : List ℕ) → length at ≡ length vs → Each (λ (p : ℕ). p ≤ length k) at → put_in at vs (k ++ l) ≡ put_in at vs k ++ l
unfolding put_in Each
put_in_left [] vs k l e h = refl
put_in_left (a ∷ at) [] k l e h = refl
put_in_left (a ∷ at) (v ∷ vs) k l e h =
    let n = length_put_in at vs k (omega arith) in
    let b = h.0 in
    let m : a ≤ length (put_in at vs k) = omega arith in
    ap (put_at a v) (put_in_left at vs k l (omega arith) h.1) ∙ rw (take-append-le, drop-append-le, append_assoc)

pub put_in_right : (k bt us l : List ℕ) → put_in (map (λ (p : ℕ). length k + p) bt) us (k ++ l) ≡ k ++ put_in bt us l
unfolding put_in
put_in_right k [] us l = refl
put_in_right k (b ∷ bt) [] l = refl
put_in_right k (b ∷ bt) (u ∷ us) l =
    ap (put_at (length k + b) u) (put_in_right k bt us l) ∙ rw (take-append-add, drop-append-add, append_assoc)

pub put_in_parts : (at vs bt us k l : List ℕ) → length at ≡ length vs → Each (λ (p : ℕ). p ≤ length k) at
    → put_in (at ++ map (λ (p : ℕ). length k + p) bt) (vs ++ us) (k ++ l) ≡ put_in at vs k ++ put_in bt us l
put_in_parts at vs bt us k l e h =
    put_in_append at vs (map (λ (p : ℕ). length k + p) bt) us (k ++ l) e
    ∙ ap (put_in at vs) (put_in_right k bt us l)
    ∙ put_in_left at vs k (put_in bt us l) e h

pub take_out_left : (at k l : List ℕ) → Ascending at → Each (λ (p : ℕ). p < length k) at → take_out at (k ++ l) ≡ take_out at k ++ l
unfolding take_out Ascending Each
take_out_left [] k l s h = refl
take_out_left (a ∷ at) k l s h =
    let r = room a at (length k) s h in
    let n = length_take_out at k s.1 h.1 in
    let m : a ≤ length (take_out at k) = omega arith in
    let o : suc a ≤ length (take_out at k) = omega arith in
    ap (taken_at a) (take_out_left at k l s.1 h.1) ∙ rw (take-append-le, drop-append-le, append_assoc)

pub take_out_right : (k bt l : List ℕ) → take_out (map (λ (p : ℕ). length k + p) bt) (k ++ l) ≡ k ++ take_out bt l
unfolding take_out
take_out_right k [] l = refl
take_out_right k (b ∷ bt) l =
    ap (taken_at (length k + b)) (take_out_right k bt l) ∙ rw (← add-suc, take-append-add, drop-append-add, append_assoc)

pub take_out_parts : (at bt k l : List ℕ) → Ascending at → Each (λ (p : ℕ). p < length k) at
    → take_out (at ++ map (λ (p : ℕ). length k + p) bt) (k ++ l) ≡ take_out at k ++ take_out bt l
take_out_parts at bt k l s h =
    take_out_append at (map (λ (p : ℕ). length k + p) bt) (k ++ l)
    ∙ ap (take_out at) (take_out_right k bt l)
    ∙ take_out_left at k (take_out bt l) s h

-- ---- what was put in, taken out

take_put_at : (a v : ℕ) (l : List ℕ) → a ≤ length l → taken_at a (put_at a v l) ≡ l
take_put_at zero v l h = refl
take_put_at (suc a) v [] h = absurd (omega arith)
take_put_at (suc a) v (x ∷ l) h = ap (λ (r : List ℕ). x ∷ r) (take_put_at a v l (omega arith))

-- what stands at or after a new word is one place further on
take_put_after : (a v b : ℕ) (l : List ℕ) → a ≤ b → taken_at (suc b) (put_at a v l) ≡ put_at a v (taken_at b l)
take_put_after zero v b l h = refl
take_put_after (suc a) v zero l h = absurd (omega arith)
take_put_after (suc a) v (suc b) [] h = refl
take_put_after (suc a) v (suc b) (x ∷ l) h = ap (λ (r : List ℕ). x ∷ r) (take_put_after a v b l (omega arith))

take_out_after : (a v : ℕ) (bt l : List ℕ) → AllFrom a bt → take_out (map suc bt) (put_at a v l) ≡ put_at a v (take_out bt l)
unfolding take_out AllFrom
take_out_after a v [] l h = refl
take_out_after a v (b ∷ bt) l h = ap (taken_at (suc b)) (take_out_after a v bt l h.1) ∙ take_put_after a v b (take_out bt l) h.0

above_suc : (a : ℕ) (l : List ℕ) → AllFrom a l → AllAbove a (map suc l)
unfolding AllFrom AllAbove
above_suc a [] h = tt
above_suc a (x ∷ l) h = let k = h.0 in (omega arith, above_suc a l h.1)

places_from : (a : ℕ) (at : List ℕ) → AllFrom a at → AllFrom a (places_of at)
unfolding places_of AllFrom
places_from a [] h = tt
places_from a (x ∷ at) h =
    let k = above_suc a (places_of at) (places_from a at h.1) in
    (h.0, from_members a (map suc (places_of at)) (λ y m. let n = above_member a (map suc (places_of at)) k y m in omega arith))

pub take_out_put_in : (at vs l : List ℕ) → length at ≡ length vs → Sorted at → Each (λ (p : ℕ). p ≤ length l) at
    → take_out (places_of at) (put_in at vs l) ≡ l
unfolding take_out put_in places_of Sorted Each
take_out_put_in [] vs l e s h = refl
take_out_put_in (a ∷ at) [] l e s h = absurd (omega arith)
take_out_put_in (a ∷ at) (v ∷ vs) l e s h =
    ap (taken_at a)
    (take_out_after a v (places_of at) (put_in at vs l) (places_from a at s.0) ∙ ap (put_at a v) (take_out_put_in at vs l (omega arith) s.1 h.1))
    ∙ take_put_at a v l h.0

-- ---- the places of the new words

pub length_places : (at : List ℕ) → length (places_of at) ≡ length at
unfolding places_of
length_places [] = refl
length_places (a ∷ at) = ap suc (length-map (places_of at) suc ∙ length_places at)

pub ascending_places : (at : List ℕ) → Sorted at → Ascending (places_of at)
unfolding places_of Sorted
ascending_places [] s = ascending_nil
ascending_places (a ∷ at) s =
    ascending_cons a (map suc (places_of at)) (above_suc a (places_of at) (places_from a at s.0))
    (ascending_map suc (λ x y b. omega arith) (places_of at) (ascending_places at s.1))

-- they are places of the list with the new words
pub places_below : (at : List ℕ) (n : ℕ) → Each (λ (p : ℕ). p ≤ n) at → Each (λ (p : ℕ). p < length at + n) (places_of at)
unfolding places_of Each
places_below [] n h = tt
places_below (a ∷ at) n h = (let k = h.0 in omega arith, below (places_of at) (places_below at n h.1))
  where
    below : (l : List ℕ) → Each (λ (p : ℕ). p < length at + n) l → Each (λ (p : ℕ). p < suc (length at) + n) (map suc l)
    below [] g = tt
    below (x ∷ l) g = (let k = g.0 in omega arith, below l g.1)
