-- The cuts of a name more, feature by feature: those of one feature, of two lists of features end to end, and how many there are at most.
-- For whoever works them out one feature after the other.
-- Assumes nothing.
use mathlib.Core.Path.{◌≡◌, refl, sym, ap, ◌∙◌}
use mathlib.Core.Bool.{Bool, true, false, cond}
use mathlib.Core.List.{List, [], ◌∷◌, ◌++◌, append_assoc}
use Prim.Native.Nat.{ℕ, ◌*◌, ◌≤◌}
use native.Mathlib.Omega.{arith}
use lib.ListN.{length, replicate, length-append}
use Rattle.words.specs.Words.{row_width}
use Rattle.index_writer.specs.Built.{Row}
use Rattle.changes.specs.Cuts.{has_row, row_seat, row_cuts, new_rows}

module _ (size : ℕ) (rows : List Row) where
  -- ---- one feature

  module _ (f : ℕ) where
    pub cuts_there : has_row size rows f ≡ true → row_cuts size rows (f ∷ []) ≡ []
    unfolding row_cuts
    cuts_there e = rw e

    pub cuts_new : has_row size rows f ≡ false → row_cuts size rows (f ∷ []) ≡ replicate row_width (row_width * row_seat size rows f)
    unfolding row_cuts
    cuts_new e = rw e

    pub new_there : has_row size rows f ≡ true → new_rows size rows (f ∷ []) ≡ []
    unfolding new_rows
    new_there e = rw e

    pub new_new : has_row size rows f ≡ false → new_rows size rows (f ∷ []) ≡ size ∷ f ∷ 0 ∷ 0 ∷ []
    unfolding new_rows
    new_new e = rw e

  -- ---- features end to end

  pub cuts_append : (fs gs : List ℕ) → row_cuts size rows (fs ++ gs) ≡ row_cuts size rows fs ++ row_cuts size rows gs
  unfolding row_cuts
  cuts_append [] gs = refl
  cuts_append (f ∷ fs) gs =
      let own : List ℕ = cond (has_row size rows f) [] (replicate row_width (row_width * row_seat size rows f)) in
      ap (λ (l : List ℕ). own ++ l) (cuts_append fs gs) ∙ sym (append_assoc own (row_cuts size rows fs) (row_cuts size rows gs))

  pub new_append : (fs gs : List ℕ) → new_rows size rows (fs ++ gs) ≡ new_rows size rows fs ++ new_rows size rows gs
  unfolding new_rows
  new_append [] gs = refl
  new_append (f ∷ fs) gs =
      let own : List ℕ = cond (has_row size rows f) [] (size ∷ f ∷ 0 ∷ 0 ∷ []) in
      ap (λ (l : List ℕ). own ++ l) (new_append fs gs) ∙ sym (append_assoc own (new_rows size rows fs) (new_rows size rows gs))

  -- ---- at most four a feature

  pub cuts_most : (fs : List ℕ) → length (row_cuts size rows fs) ≤ row_width * length fs
  unfolding row_cuts
  cuts_most [] = omega arith
  cuts_most (f ∷ fs) =
      let a = length-append (own (has_row size rows f)) (row_cuts size rows fs) in
      let b = one (has_row size rows f) in
      let h = cuts_most fs in
      omega arith
    where
      own : Bool → List ℕ
      own b = cond b [] (replicate row_width (row_width * row_seat size rows f))

      one : (b : Bool) → length (own b) ≤ row_width
      one true = omega arith
      one false = omega arith
