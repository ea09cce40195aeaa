-- `all_sizes` meets its contract: the tables that it lends are as long as they should be, and 0.
use Rattle.std.proofs.Common.{◌≡◌, refl, sym, List, ℕ, ◌≤◌, length, take, replicate}
use Rattle.std.proofs.lemmas.List.{length-take-le}
use lib.ListN.{length-replicate}
use Rattle.names.specs.Features.{most_features}
use Rattle.index.specs.Good.{most_names}
use Rattle.candidates.proofs.Counts.{zeros}
use Rattle.sizes.proofs.all_sizes.Goals as goal

-- what is cut out of a table is as long as the features
cut : (features : List ℕ) → length features ≤ most_features → length (take (length features) (replicate {A = ℕ} most_features 0)) ≡ length features
cut features h = length-take-le {A = ℕ} (length features) (replicate most_features 0) h

pub slice_bounds-each_size-end-2 : goal.slice_bounds-each_size-end-2
slice_bounds-each_size-end-2 c = sym (cut c.args.features.now c.requires.2.few)

pub slice_bounds-each_size-end-3 : goal.slice_bounds-each_size-end-3
slice_bounds-each_size-end-3 c = sym (cut c.args.features.now c.requires.2.few)

pub each_size-requires : goal.each_size-requires
each_size-requires c =
    let x = cut c.args.features.now c.requires.2.few in
    record {
      good = c.requires;
      lent = (record { starting = refl; keyed = x; spared = x; cleared = zeros; meeting = length-replicate {A = ℕ} most_names 0 });
    }

pub returns : goal.returns
returns c = c.each_size.ensures
