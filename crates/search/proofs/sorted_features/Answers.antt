-- `sorted_features` meets its contract: the features stand in front of the set, and are sorted there.
use Rattle.std.proofs.Common.{◌≡◌, ◌∙◌, refl, sym, List, ℕ, ◌≤◌, length, take, replicate, arith}
use Rattle.std.proofs.lemmas.List.{length-take-le}
use Rattle.names.specs.declared.FeatureSet.{FeatureSet}
use Rattle.names.specs.Features.{features_of, most_features}
use Rattle.names.specs.Set.{filled}
use Rattle.names.proofs.Laws.{size_most}
use Rattle.search.proofs.AgainstMethod.{filled_facts, filled_sorted}
use Rattle.search.proofs.sorted_features.Goals as goal

-- so many of the set, and of a table that is as long
module _ (query : List ℕ) (r : FeatureSet) (e : r ≡ filled (features_of query)) where
  few : r.len ≤ most_features
  few = let h = size_most query in let n = (filled_facts r (features_of query) e h).0 in omega arith

  long : length r.items ≡ most_features
  long = (filled_facts r (features_of query) e (size_most query)).2

  cut : (l : List ℕ) → length l ≡ most_features → length (take r.len l) ≡ r.len
  cut l n = let h = few in length-take-le r.len l (omega arith)

pub slice_bounds-items-end : goal.slice_bounds-items-end
slice_bounds-items-end c =
    let h = few c.args.query.now c.features-set.result c.features-set.ensures in
    let n = long c.args.query.now c.features-set.result c.features-set.ensures in
    omega arith

pub slice_bounds-sort-end : goal.slice_bounds-sort-end
slice_bounds-sort-end c =
    sym (cut c.args.query.now c.features-set.result c.features-set.ensures c.features-set.result.items (long c.args.query.now c.features-set.result c.features-set.ensures))

pub slice_bounds-spare-end : goal.slice_bounds-spare-end
slice_bounds-spare-end c = few c.args.query.now c.features-set.result c.features-set.ensures

pub slice_bounds-sort-end-2 : goal.slice_bounds-sort-end-2
slice_bounds-sort-end-2 c = sym (cut c.args.query.now c.features-set.result c.features-set.ensures (replicate most_features 0) refl)

pub sort-requires : goal.sort-requires
sort-requires c =
    cut c.args.query.now c.features-set.result c.features-set.ensures (replicate most_features 0) refl
    ∙ sym (cut c.args.query.now c.features-set.result c.features-set.ensures c.features-set.result.items (long c.args.query.now c.features-set.result c.features-set.ensures))

pub returns : goal.returns
returns c = filled_sorted c.features-set.result (features_of c.args.query.now) c.sort.new.keys c.features-set.ensures c.sort.ensures
