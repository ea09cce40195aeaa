-- `sorted_features` meets its contract: the set's first items are the features, sorting keeps their number and their members, and each fits 32 bits.
use mathlib.Core.Path.{◌≡◌, refl, sym, ap, ap₂, ◌∙◌}
use mathlib.Core.Bool.{true}
use mathlib.Core.List.{List, ◌++◌}
use Prim.Native.Nat.{ℕ, ◌-◌, ◌^◌, ◌≤◌, ◌<◌}
use native.Mathlib.Omega.{arith}
use lib.ListN.{length, get_or, take, drop, replicate, length-append, length-drop, length-replicate}
use lib.Seq.{take-append_seam, take_at, length-take-le}
use Rattle.laws.specs.Lists.{member}
use Rattle.laws.specs.Sort.{sort_of}
use Rattle.laws.proofs.Members.{member_at, member_place}
use Rattle.laws.proofs.Sort.{length_sort, member_sort}
use Rattle.names.specs.Features.{characters, most_features, features_of}
use Rattle.names.specs.Set.{filled}
use Rattle.names.specs.declared.FeatureSet.{FeatureSet}
use Rattle.names.proofs.Laws.{size_most, feature_fits}
use Rattle.upkeep.proofs.sorted_features.Goals as goal

module _ {s : FeatureSet} (name : List ℕ) (e : s ≡ filled (features_of name)) where
  size : s.len ≡ length (features_of name)
  size = ap (λ (x : FeatureSet). x.len) e

  within : s.len ≤ most_features
  within = let n = size in omega (arith, size_most name)

  zeros : List ℕ
  zeros = replicate (most_features - length (features_of name)) 0

  held : s.items ≡ features_of name ++ zeros
  unfolding zeros
  held = ap (λ (x : FeatureSet). x.items) e

  all : length s.items ≡ most_features
  unfolding zeros
  all =
      let a = ap length held ∙ length-append (features_of name) zeros in
      let b = length-replicate {A = ℕ} (most_features - length (features_of name)) 0 in
      omega (arith, size_most name)

  -- so many of any list that is as long as the items
  cut : (l : List ℕ) → length l ≡ most_features → length (take s.len l) ≡ s.len
  cut l n = length-take-le s.len l (let b = within in omega arith)

  -- once they are sorted
  module _ {t : List ℕ} (u : t ≡ sort_of (take s.len s.items)) where
    ordered : t ≡ sort_of (features_of name)
    ordered = u ∙ ap sort_of (ap₂ take size held ∙ take-append_seam (features_of name) zeros)

    as_many : length t ≡ s.len
    as_many = ap length u ∙ length_sort (take s.len s.items) ∙ cut s.items all

    still-all : length (t ++ drop s.len s.items) ≡ most_features
    still-all =
        let a = length-append t (drop s.len s.items) in
        let b = length-drop s.len s.items in
        let c = as_many in
        let d = all in
        let w = within in
        omega arith

    -- and stand at the start of the items
    part : take s.len (t ++ drop s.len s.items) ≡ t
    part = take_at t (drop s.len s.items) s.len as_many

    fits : ((j : ℕ) → get_or name j 0 < characters) → (i : ℕ) → i < s.len → get_or t i 0 < 2 ^ 32
    fits bytes i h =
        let n = as_many in
        let m : member (get_or t i 0) (sort_of (features_of name)) ≡ true = ap (member (get_or t i 0)) (sym ordered) ∙ member_at t i (omega arith) in
        let p = member_place (get_or t i 0) (features_of name) (sym (member_sort (get_or t i 0) (features_of name)) ∙ m) in
        let q = feature_fits name bytes p.0 in
        let r = p.2 in
        omega arith

    -- copied to the start of a list
    copied : (v rest : List ℕ) → v ≡ take s.len (t ++ drop s.len s.items) → take s.len (v ++ rest) ≡ sort_of (features_of name)
    copied v rest c =
        let w = c ∙ part in
        take_at v rest s.len (ap length w ∙ as_many) ∙ w ∙ ordered

pub slice_bounds-items-end : goal.slice_bounds-items-end
slice_bounds-items-end c =
    let a = all _ c.features_good-set.ensures in
    let b = within _ c.features_good-set.ensures in
    omega arith

pub slice_bounds-sort-end : goal.slice_bounds-sort-end
slice_bounds-sort-end c =
    let e = c.features_good-set.ensures in
    sym (cut _ e c.features_good-set.result.items (all _ e))

pub slice_bounds-spare-end : goal.slice_bounds-spare-end
slice_bounds-spare-end c = within _ c.features_good-set.ensures

pub slice_bounds-sort-end-2 : goal.slice_bounds-sort-end-2
slice_bounds-sort-end-2 c = sym (cut _ c.features_good-set.ensures (replicate most_features 0) refl)

pub sort-requires : goal.sort-requires
sort-requires c =
    let e = c.features_good-set.ensures in
    cut _ e (replicate most_features 0) refl ∙ sym (cut _ e c.features_good-set.result.items (all _ e))

pub slice_bounds-narrow-end : goal.slice_bounds-narrow-end
slice_bounds-narrow-end c =
    let e = c.features_good-set.ensures in
    sym (ap length (part _ e c.sort.ensures) ∙ as_many _ e c.sort.ensures)

pub slice_bounds-narrow-end-2 : goal.slice_bounds-narrow-end-2
slice_bounds-narrow-end-2 c =
    let n = c.requires.1 in
    let w = within _ c.features_good-set.ensures in
    omega arith

pub slice_bounds-narrow-end-3 : goal.slice_bounds-narrow-end-3
slice_bounds-narrow-end-3 c = sym (cut _ c.features_good-set.ensures c.args.out.now c.requires.1)

pub narrow-requires : goal.narrow-requires
narrow-requires c =
    let e = c.features_good-set.ensures in
    let n = cut _ e c.args.out.now c.requires.1 in
    let p = part _ e c.sort.ensures in
    let m = ap length p ∙ as_many _ e c.sort.ensures in
    (n ∙ sym m, λ i h. rw p (fits _ e c.sort.ensures (λ j. (let q = c.type_inv.name j in omega arith)) i (omega arith)))

pub returns : goal.returns
returns c =
    let e = c.features_good-set.ensures in
    (size _ e, copied _ e c.sort.ensures c.narrow.new.out _ c.narrow.ensures)
