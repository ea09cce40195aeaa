-- The places that the method lists: which they are, in which order, and what their columns hold.
-- Assumes nothing.
use mathlib.Core.Path.{◌≡◌, sym, ap, ◌∙◌}
use mathlib.Core.Bool.{true}
use mathlib.Core.List.{List, ◌++◌, map}
use Prim.Native.Nat.{ℕ, ◌≤◌, ◌<◌}
use native.Mathlib.Omega.{arith}
use lib.ListN.{length, get_or, take, drop, length-map, get_or-append}
use lib.Seq.{take-append_seam, drop-append_seam}
use Rattle.laws.specs.Lists.{member, Ascending}
use Rattle.laws.specs.Below.{passing_below}
use Rattle.laws.proofs.Tests.{same_test}
use Rattle.laws.proofs.Images.{get_d_map_lt}
use Rattle.laws.proofs.Passing.{passing_most, passing_member, member_passing, image_passing, ascending_passing}
use Rattle.laws.proofs.Members.{member_map}
use Rattle.words.specs.Words.{name_count, name_id}
use Rattle.index.specs.Good.{Good}
use Rattle.index.proofs.Laws.{good_ids, good_ids_apart}
use Rattle.sizes.specs.Method.{listed, answers_of}

-- ---- a column over lent entries

-- the given entries, then what stood behind them
pub over_taken : (l s : List ℕ) → take (length l) (l ++ drop (length l) s) ≡ l
over_taken l s = take-append_seam l (drop (length l) s)

pub over_beyond : (l s : List ℕ) → drop (length l) (l ++ drop (length l) s) ≡ drop (length l) s
over_beyond l s = drop-append_seam l (drop (length l) s)

pub over_at : (f : ℕ → ℕ) (l s : List ℕ) (j : ℕ) → j < length l
    → get_or (map f l ++ drop (length (map f l)) s) j 0 ≡ f (get_or l j 0)
over_at f l s j h =
    let n = length-map l f in
    get_or-append (map f l) (drop (length (map f l)) s) 0 j (omega arith) ∙ get_d_map_lt f l j 0 0 h

-- ---- the places

module _ (w : List ℕ) (m p q : ℕ) (query : List ℕ) where
  -- a place of the answers is a name's, and listed
  pub answer_place : (i : ℕ) → member i (answers_of w m p q query) ≡ true → (i < name_count w) × (listed w m p q query i ≡ true)
  unfolding answers_of
  answer_place i e = passing_member (listed w m p q query) (name_count w) i e

  pub answers_most : length (answers_of w m p q query) ≤ name_count w
  unfolding answers_of
  answers_most = passing_most (listed w m p q query) (name_count w)

  -- the ids ascend with the places
  pub answer_ids : Good w → Ascending (map (name_id w) (answers_of w m p q query))
  unfolding answers_of
  answer_ids good = ascending_passing (listed w m p q query) (name_id w) (name_count w) (λ i j l h a b. good_ids w good i j l h)

  -- a name's id is among the answers' exactly if it is listed
  pub answer_listed : Good w → (i : ℕ) → i < name_count w → member (name_id w i) (map (name_id w) (answers_of w m p q query)) ≡ listed w m p q query i
  unfolding answers_of
  answer_listed good i h =
      same_test (member (name_id w i) (map (name_id w) (passing_below (name_count w) (listed w m p q query)))) (listed w m p q query i)
      (λ e.
      let v = image_passing (listed w m p q query) (name_id w) (name_count w) (name_id w i) e in
      ap (listed w m p q query) (sym (good_ids_apart w good v.0 i v.1 h v.3)) ∙ v.2)
      (λ s. member_map (name_id w) i (passing_below (name_count w) (listed w m p q query)) (member_passing (listed w m p q query) (name_count w) i h s))
