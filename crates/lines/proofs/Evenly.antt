-- Texts of one length, one after the other, as they come to stand in a lent buffer: text k at w · k.
-- Cited by the crates that write lines of one kind: `answers` and `reports`. Assumes nothing.
use mathlib.Core.Path.{◌≡◌, sym, ap, ap₂, ◌∙◌}
use mathlib.Core.List.{List, [], ◌∷◌, ◌++◌, append-nil, append_assoc}
use Prim.Native.Nat.{ℕ, zero, suc, ◌+◌, ◌*◌, ◌≤◌}
use native.Mathlib.Omega.{arith}
use native.Mathlib.Numerals.{add-one}
use lib.ListN.{length, take, drop, length-append, length-drop, drop_of_length-le}
use lib.Seq.{drop-drop, take_at, drop-append-add}
use Rattle.laws.specs.Lists.{tabulate}
use Rattle.lines.specs.Lines.{joined}
use Rattle.lines.proofs.Cut.{joined_append}

pub texts_next : (f : ℕ → List ℕ) (k : ℕ) → joined (tabulate f (suc k)) ≡ joined (tabulate f k) ++ f k
unfolding tabulate joined
texts_next f k = joined_append (tabulate f k) (f k ∷ []) ∙ ap (λ (t : List ℕ). joined (tabulate f k) ++ t) (append-nil (f k))

module _ (f : ℕ → List ℕ) (w : ℕ) (even : (k : ℕ) → length (f k) ≡ w) where
  pub length_texts : (n : ℕ) → length (joined (tabulate f n)) ≡ w * n
  unfolding tabulate joined
  length_texts zero = omega arith
  length_texts (suc k) =
      let a = length-append (joined (tabulate f k)) (f k) in
      let b = ap length (texts_next f k) in
      let d = length_texts k in
      let e = even k in
      omega arith

  -- before the first
  pub texts_none : (out : List ℕ) → out ≡ joined (tabulate f 0) ++ drop (w * 0) out
  unfolding tabulate joined
  texts_none out = let z : w * 0 ≡ 0 = omega arith in rw z

  -- one more, put into its place
  pub texts_more : (out : List ℕ) (k : ℕ)
      → take (w * k) (joined (tabulate f k) ++ drop (w * k) out) ++ (f k ++ drop (w * k + w) (joined (tabulate f k) ++ drop (w * k) out))
      ≡ joined (tabulate f (k + 1)) ++ drop (w * (k + 1)) out
  texts_more out k =
      let t = joined (tabulate f k) in
      let n : length t ≡ w * k = length_texts k in
      let m : w * k + w ≡ w * (k + 1) = omega arith in
      ap₂ (λ (x y : List ℕ). x ++ (f k ++ y)) (take_at t (drop (w * k) out) (w * k) n)
      (ap (λ (j : ℕ). drop (j + w) (t ++ drop (w * k) out)) (sym n) ∙ drop-append-add t (drop (w * k) out) w ∙ drop-drop w (w * k) out ∙ ap (λ (j : ℕ). drop j out) m)
      ∙ sym (append_assoc t (f k) (drop (w * (k + 1)) out))
      ∙ ap (λ (x : List ℕ). x ++ drop (w * (k + 1)) out) (sym (ap (λ (j : ℕ). joined (tabulate f j)) (add-one k) ∙ texts_next f k))

  -- in a part that they fill
  pub texts_all : (out : List ℕ) (n : ℕ) → length out ≡ w * n → joined (tabulate f n) ++ drop (w * n) out ≡ joined (tabulate f n)
  texts_all out n e =
      ap (λ (t : List ℕ). joined (tabulate f n) ++ t) (drop_of_length-le out {i = w * n} (omega arith)) ∙ append-nil (joined (tabulate f n))

  -- they and what stands after them are as long as what stood there
  pub length_kept : (out : List ℕ) (k : ℕ) → w * k ≤ length out → length (joined (tabulate f k) ++ drop (w * k) out) ≡ length out
  length_kept out k h = simp (length-append, length-drop) (let n = length_texts k in omega arith)
