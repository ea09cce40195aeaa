-- `add_name` meets its contract: a good name has at most as many features as the set has places, and each fits 32 bits.
use mathlib.Core.Path.{◌≡◌, refl, ap, ap₂, ◌∙◌}
use mathlib.Core.List.{List, map}
use Prim.Native.Nat.{ℕ, ◌+◌, ◌*◌, ◌≤◌, ◌-◌}
use native.Mathlib.Omega.{arith}
use lib.ListN.{length, get_or, set, take, replicate, length-append, length-replicate}
use lib.Seq.{paste, take_at}
use Rattle.names.specs.Features.{features_of, most_features}
use Rattle.names.specs.Set.{filled}
use Rattle.names.specs.declared.FeatureSet.{FeatureSet}
use Rattle.names.proofs.Laws.{size_most, feature_fits}
use Rattle.index_writer.specs.Keys.{place_span}
use Rattle.register.proofs.add_name.Goals as goal

-- a set of features: how many, and that the first so many of its items are they
record Made (fs : List ℕ) (set : FeatureSet) : Type 0 where
  size : set.len ≡ length fs
  most : length fs ≤ most_features
  wide : length set.items ≡ most_features
  items : take set.len set.items ≡ fs

made : (name : List ℕ) (set : FeatureSet) → set ≡ filled (features_of name) → Made (features_of name) set
made name set e =
    let f = features_of name in
    let z = replicate {A = ℕ} (most_features - length f) 0 in
    let n = ap (λ (x : FeatureSet). x.len) e in
    let i = ap (λ (x : FeatureSet). x.items) e in
    let m = size_most name in
    let a = ap length i ∙ length-append f z in
    let r = length-replicate {A = ℕ} (most_features - length f) 0 in
    record { size = n; most = m; wide = omega arith; items = ap₂ take n i ∙ take_at f z (length f) refl }

pub overflow_cast-names : goal.overflow_cast-names
overflow_cast-names c = let s = made _ _ c.features_good-set.ensures in record { fits = omega arith }

pub overflow_add-names : goal.overflow_add-names
overflow_add-names c = let s = made _ _ c.features_good-set.ensures in let i = c.requires.1 in record { fits = omega arith }

pub slice_bounds-put_keys-end : goal.slice_bounds-put_keys-end
slice_bounds-put_keys-end c = let s = made _ _ c.features_good-set.ensures in omega arith

pub put_keys-requires : goal.put_keys-requires
put_keys-requires c =
    let s = made _ _ c.features_good-set.ensures in
    let l = ap length s.items in
    let few = c.requires.2 in
    let room = c.requires.4 in (
      λ j h.
          (let v = ap (λ (x : List ℕ). get_or x j 0) s.items in
          let w = feature_fits c.args.name.now (λ x. (let q = c.type_inv.name x in omega arith)) j in
          omega arith),
      omega arith,
      omega arith,
    )

pub overflow_add-result : goal.overflow_add-result
overflow_add-result c = let s = made _ _ c.features_good-set.ensures in let r = c.requires.4 in record { fits = omega arith }

pub returns : goal.returns
returns c =
    let s = made _ _ c.features_good-set.ensures in
    let a = c.args in (
      ap (λ (n : ℕ). a.p + n) s.size,
      ap (λ (n : ℕ). set a.names.now a.n (a.id * 256 + n)) s.size,
      c.put_keys.ensures ∙ ap (λ (l : List ℕ). paste a.keys.now a.p (map (λ (x : ℕ). x * place_span + a.n) l) (length l)) s.items,
    )
