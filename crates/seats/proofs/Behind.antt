-- Words put behind others: a run of them, and the places and words of new rows, one feature after the other. Cited by the proofs of this crate.
-- Assumes nothing.
use mathlib.Core.Path.{◌≡◌, sym, ap, ◌∙◌}
use mathlib.Core.Bool.{true, false}
use mathlib.Core.List.{List, [], ◌∷◌, ◌++◌, map, map-append, append-nil, append_assoc}
use Prim.Native.Nat.{ℕ, ◌+◌, ◌*◌, ◌≤◌}
use native.Mathlib.Nat.{add-zero}
use native.Mathlib.Omega.{arith}
use lib.ListN.{length, take, drop, replicate, length-append}
use lib.Seq.{length-take-le, take_at, sets, sets-eq}
use Rattle.words.specs.Words.{row_width}
use Rattle.index_writer.specs.Built.{Row}
use Rattle.changes.specs.Cuts.{has_row, row_seat, row_cuts, new_rows}
use Rattle.changes.proofs.CutsAppend.{cuts_there, cuts_new, new_there, new_new, cuts_append, new_append}

-- a run of words
take_sets : (l : List ℕ) (n : ℕ) (vs : List ℕ) → n + length vs ≤ length l → take (n + length vs) (sets l n vs) ≡ take n l ++ vs
take_sets l n vs h =
    let a = length-take-le n l (omega arith) in
    let b = length-append (take n l) vs in
    ap (take (n + length vs)) (sets-eq vs l n h) ∙ take_at (take n l ++ vs) (drop (n + length vs) l) (n + length vs) (omega arith)

-- ---- the new rows of features, put behind n others of two lists

module _ (rows : List Row) (base size : ℕ) where
  -- at and values have m, the last of them those of the features fs, and had n as at₀ and values₀
  pub record Put (at₀ values₀ : List ℕ) (n : ℕ) (fs at values : List ℕ) (m : ℕ) : Type 0 where
    pub count : m ≡ n + length (row_cuts size rows fs)
    pub places : take m at ≡ take n at₀ ++ map (λ (p : ℕ). base + p) (row_cuts size rows fs)
    pub words : take m values ≡ take n values₀ ++ new_rows size rows fs

  module _ (at₀ values₀ : List ℕ) (n : ℕ) where
    pub put_none : Put at₀ values₀ n [] at₀ values₀ n
    unfolding row_cuts new_rows
    put_none = record { count = sym (add-zero n); places = sym (append-nil (take n at₀)); words = sym (append-nil (take n values₀)) }

    -- some features after the others
    pub put_more : (fs at values : List ℕ) (m : ℕ) (gs more next : List ℕ) (k : ℕ) → Put at₀ values₀ n fs at values m → Put at values m gs more next k
        → Put at₀ values₀ n (fs ++ gs) more next k
    put_more fs at values m gs more next k p q =
        let add : ℕ → ℕ = λ (x : ℕ). base + x in
        let a = ap length (cuts_append size rows fs gs) in
        let b = length-append (row_cuts size rows fs) (row_cuts size rows gs) in
        let c = p.count in
        let d = q.count in
        record {
          count = omega arith;
          places = q.places
              ∙ ap (λ (l : List ℕ). l ++ map add (row_cuts size rows gs)) p.places
              ∙ append_assoc (take n at₀) (map add (row_cuts size rows fs)) (map add (row_cuts size rows gs))
              ∙ ap (λ (l : List ℕ). take n at₀ ++ l) (sym (map-append add (row_cuts size rows fs) (row_cuts size rows gs)) ∙ ap (map add) (sym (cuts_append size rows fs gs)));
          words = q.words
              ∙ ap (λ (l : List ℕ). l ++ new_rows size rows gs) p.words
              ∙ append_assoc (take n values₀) (new_rows size rows fs) (new_rows size rows gs)
              ∙ ap (λ (l : List ℕ). take n values₀ ++ l) (sym (new_append size rows fs gs));
        }

  -- ---- one feature

  module _ (f : ℕ) (at values : List ℕ) (n : ℕ) where
    -- nothing, where it has a row
    pub put_there : has_row size rows f ≡ true → Put at values n (f ∷ []) at values n
    put_there h =
        let e = cuts_there size rows f h in
        let k = ap length e in
        record {
          count = omega arith;
          places = sym (append-nil (take n at)) ∙ ap (λ (l : List ℕ). take n at ++ map (λ (p : ℕ). base + p) l) (sym e);
          words = sym (append-nil (take n values)) ∙ ap (λ (l : List ℕ). take n values ++ l) (sym (new_there size rows f h));
        }

    -- four places and four words, where it has none
    pub put_new : (place : ℕ) (more next : List ℕ) → has_row size rows f ≡ false → place ≡ base + row_width * row_seat size rows f
        → n + row_width ≤ length at → n + row_width ≤ length values
        → more ≡ sets at n (replicate row_width place) → next ≡ sets values n (size ∷ f ∷ 0 ∷ 0 ∷ [])
        → Put at values n (f ∷ []) more next (n + row_width)
    put_new place more next h q room space a b =
        let e = cuts_new size rows f h in
        let k = ap length e in
        record {
          count = omega arith;
          places = ap (take (n + row_width)) a
              ∙ take_sets at n (replicate row_width place) room
              ∙ ap (λ (p : ℕ). take n at ++ replicate row_width p) q
              ∙ ap (λ (l : List ℕ). take n at ++ map (λ (p : ℕ). base + p) l) (sym e);
          words = ap (take (n + row_width)) b
              ∙ take_sets values n (size ∷ f ∷ 0 ∷ 0 ∷ []) space
              ∙ ap (λ (l : List ℕ). take n values ++ l) (sym (new_new size rows f h));
        }
