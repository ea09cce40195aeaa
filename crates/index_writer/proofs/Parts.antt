-- The words of an index put together from their parts.
-- Assumes nothing.
use mathlib.Core.Path.{◌≡◌, refl, sym, ap, ap₂, ◌∙◌}
use mathlib.Core.Bool.{true, false}
use mathlib.Core.List.{List, [], ◌∷◌, ◌++◌, map, append-nil, append_assoc}
use Prim.Native.Nat.{ℕ, suc, ◌+◌, ◌*◌, ◌-◌, ◌%◌, ◌≤◌}
use native.Mathlib.Omega.{arith}
use borrow.Rule.Slice.PartMut.{put_mid}
use lib.ListN.{length, take, drop, set, replicate, length-append, length-drop, length-map, drop_of_length-le}
use lib.Seq.{drop-drop, take-append-le, take_at, drop_at, length-take-le}
use Rattle.index_writer.specs.Built.{id_span, lists_of, runs_of, row_words, words_from}
use Rattle.index_writer.specs.Written.{blank, fits_in, pad_to, written_in}
use Rattle.index_writer.proofs.Runs.{lists_runs, length_runs}
use Rattle.index_writer.proofs.Read.{length_row_words}

pub mid_end : (a k : ℕ) (xs ys : List ℕ) → length xs ≤ a + k → put_mid a k xs ys ≡ take a xs ++ ys
mid_end a k xs ys h =
    ap (λ (t : List ℕ). take a xs ++ (ys ++ t)) (drop-drop k a xs ∙ drop_of_length-le xs {i = a + k} h)
    ∙ ap (λ (t : List ℕ). take a xs ++ t) (append-nil ys)

-- what is left of the words after the first a
pub length_mid : (a k : ℕ) (xs : List ℕ) → k ≡ length xs - a → length (take k (drop a xs)) ≡ length xs - a
length_mid a k xs e = let d = length-drop a xs in length-take-le k (drop a xs) (omega arith) ∙ e

-- a part put back leaves the length as it was
pub length_put : (a k : ℕ) (xs ys : List ℕ) → a ≤ length xs → k ≡ length xs - a → length ys ≡ length (take k (drop a xs)) → length (put_mid a k xs ys) ≡ length xs
length_put a k xs ys h e f =
    let p = ap length (mid_end a k xs ys (omega arith)) ∙ length-append (take a xs) ys in
    let q = length-take-le a xs h in
    let r = length_mid a k xs e in
    omega arith

-- three words and names put before the rest
pub head_put : (names words : List ℕ) (n d p k : ℕ) → 3 + length names ≤ length words → k ≡ length names
    → set (set (set (put_mid 3 k words names) 0 n) 1 d) 2 p ≡ n ∷ d ∷ p ∷ (names ++ drop (3 + length names) words)
head_put names [] n d p k h e = absurd (omega arith)
head_put names (x ∷ []) n d p k h e = absurd (omega arith)
head_put names (x ∷ y ∷ []) n d p k h e = absurd (omega arith)
head_put names (x ∷ y ∷ z ∷ rest) n d p k h e =
    let q : 3 + length names ≡ suc (suc (suc (length names))) = omega arith in
    ap (λ (j : ℕ). n ∷ d ∷ p ∷ (names ++ drop j rest)) e ∙ ap (λ (j : ℕ). n ∷ d ∷ p ∷ (names ++ drop j (x ∷ y ∷ z ∷ rest))) (sym q)

pub head_long : (names words : List ℕ) (k : ℕ) → 3 ≤ length words → 3 ≤ length (put_mid 3 k words names)
head_long names [] k h = absurd (omega arith)
head_long names (x ∷ []) k h = absurd (omega arith)
head_long names (x ∷ y ∷ []) k h = absurd (omega arith)
head_long names (x ∷ y ∷ z ∷ rest) k h = omega arith

pub length_from : (names ks : List ℕ) → length (words_from names (runs_of ks)) ≡ 3 + length names + 4 * length (runs_of ks) + length ks
unfolding words_from
length_from names ks =
    omega (
      arith,
      length-append names (row_words 0 (runs_of ks) ++ lists_of (runs_of ks)),
      length-append (row_words 0 (runs_of ks)) (lists_of (runs_of ks)),
      length_row_words 0 (runs_of ks),
      length_runs ks,
    )

pub from_parts : (names ks : List ℕ)
    → length names ∷ length (runs_of ks) ∷ length ks ∷ (names ++ (row_words 0 (runs_of ks) ++ map (λ (k : ℕ). k % id_span) ks)) ≡ words_from names (runs_of ks)
unfolding words_from
from_parts names ks =
    ap₂ (λ (p : ℕ) (l : List ℕ). length names ∷ length (runs_of ks) ∷ p ∷ (names ++ (row_words 0 (runs_of ks) ++ l))) (sym (length_runs ks)) (sym (lists_runs ks))

-- rows at the start of a part, lists after them, blanks after both
pub tail_put : (words r lists blanks : List ℕ) (room rows p k m : ℕ) → length r ≡ room → room + p ≡ length words → rows ≤ room → length lists ≡ p → k ≡ p
    → m ≡ length (put_mid rows k (r ++ drop room words) lists) - (rows + p)
    → blanks ≡ replicate (length (take m (drop (rows + p) (put_mid rows k (r ++ drop room words) lists)))) blank
    → put_mid (rows + p) m (put_mid rows k (r ++ drop room words) lists) blanks ≡ pad_to (length words) (take rows r ++ lists)
tail_put words r lists blanks room rows p k m hr hw h hl ek em eb =
    mid_end (rows + p) m (put_mid rows k (r ++ drop room words) lists) blanks (omega arith)
    ∙ ap₂ ◌++◌ front (eb ∙ ap (λ (n : ℕ). replicate n blank) (length_mid (rows + p) m (put_mid rows k (r ++ drop room words) lists) em ∙ rest))
  where
    whole : length (r ++ drop room words) ≡ length words
    whole = let a = length-append r (drop room words) in let b = length-drop room words in omega arith

    before : take rows (r ++ drop room words) ≡ take rows r
    before = take-append-le rows r (drop room words) (omega arith)

    short : length (take rows r ++ lists) ≡ rows + p
    short = let a = length-append (take rows r) lists in let b = length-take-le rows r (omega arith) in omega arith

    parted : put_mid rows k (r ++ drop room words) lists ≡ (take rows r ++ lists) ++ drop k (drop rows (r ++ drop room words))
    parted =
        ap (λ (t : List ℕ). t ++ (lists ++ drop k (drop rows (r ++ drop room words)))) before
        ∙ sym (append_assoc (take rows r) lists (drop k (drop rows (r ++ drop room words))))

    front : take (rows + p) (put_mid rows k (r ++ drop room words) lists) ≡ take rows r ++ lists
    front = ap (take (rows + p)) parted ∙ take_at (take rows r ++ lists) (drop k (drop rows (r ++ drop room words))) (rows + p) short

    rest : length (put_mid rows k (r ++ drop room words) lists) - (rows + p) ≡ length words - length (take rows r ++ lists)
    rest =
        let a = ap length parted ∙ length-append (take rows r ++ lists) (drop k (drop rows (r ++ drop room words))) in
        let b = length-drop k (drop rows (r ++ drop room words)) in
        let c = length-drop rows (r ++ drop room words) in
        let d = whole in
        let e = short in
        omega arith

-- rows, lists and blanks put after the names, and the head before these: the index and blanks
pub index_put : (names ts words tail : List ℕ) (d p m room : ℕ) → 3 + length names ≤ length words → m ≡ length words - (3 + length names) → d ≡ length (runs_of ts) → p ≡ length ts
    → room ≡ length words - (3 + length names) → tail ≡ pad_to room (row_words 0 (runs_of ts) ++ map (λ (k : ℕ). k % id_span) ts)
    → length names ∷ d ∷ p ∷ (names ++ drop (3 + length names) (put_mid (3 + length names) m words tail)) ≡ pad_to (length words) (words_from names (runs_of ts))
index_put names ts words tail d p m room h em ed ep er et =
    (λ i. length names ∷ ed i ∷ ep i ∷ (names ++ behind i))
    ∙ ap (λ (l : List ℕ). length names ∷ length (runs_of ts) ∷ length ts ∷ l) (sym (append_assoc names body (replicate (room - length body) blank)))
    ∙ ap₂ (λ (l : List ℕ) (n : ℕ). l ++ replicate n blank) (from_parts names ts) left
  where
    body : List ℕ
    body = row_words 0 (runs_of ts) ++ map (λ (k : ℕ). k % id_span) ts

    behind : drop (3 + length names) (put_mid (3 + length names) m words tail) ≡ body ++ replicate (room - length body) blank
    behind =
        ap (drop (3 + length names)) (mid_end (3 + length names) m words tail (omega arith))
        ∙ drop_at (take (3 + length names) words) tail (3 + length names) (length-take-le (3 + length names) words h)
        ∙ et

    left : room - length body ≡ length words - length (words_from names (runs_of ts))
    left =
        let a = length_from names ts in
        let b = length-append (row_words 0 (runs_of ts)) (map (λ (k : ℕ). k % id_span) ts) in
        let c = length_row_words 0 (runs_of ts) in
        let e = length-map ts (λ (k : ℕ). k % id_span) in
        omega arith

-- ---- the words lent

pub written_all : (room : ℕ) (index : List ℕ) → fits_in room index ≡ true → written_in room index ≡ pad_to room index
unfolding written_in
written_all room index f = rw f refl

pub written_none : (room : ℕ) (index : List ℕ) → fits_in room index ≡ false → written_in room index ≡ replicate room blank
unfolding written_in
written_none room index f = rw f refl
