-- `features_good` meets its contract: after i turns the set's places hold the first i features, and 0 after them, and each of their grams has its mark.
use mathlib.Core.Path.{◌≡◌, refl, sym, ap, ◌∙◌}
use mathlib.Core.List.{List, ◌++◌}
use Prim.Native.Nat.{ℕ, ◌+◌, ◌%◌, ◌-◌}
use native.Mathlib.Omega.{arith}
use lib.ListN.{length, replicate, length-set}
use Rattle.laws.specs.Lists.{tabulate}
use Rattle.laws.proofs.Lists.{tabulate_nil}
use Rattle.names.specs.Features.{gram_at, numbered, gram_length, characters, most_features}
use Rattle.names.specs.Set.{filled, marks}
use Rattle.names.specs.declared.FeatureSet.{FeatureSet}
use Rattle.names.proofs.Laws.{good_name, features_good}
use Rattle.names.proofs.Lemmas.{next_feature, filled_whole, marked_nil, marked_step, marked_none, ends_nil}
use Rattle.names.proofs.features_good.Goals as goal

pub loop-i-init : goal.loop-i-init
loop-i-init c =
    let name = c.args.name.now in
    let g = good_name name c.requires in (
      omega arith,
      ap (λ (a : FeatureSet). a.items) c.empty-set.ensures
          ∙ ap (λ (l : List ℕ). l ++ replicate most_features 0) (sym (tabulate_nil (numbered (gram_at gram_length characters name)))),
      refl,
      marked_nil (gram_at gram_length characters name) (replicate marks 0),
      ends_nil name,
    )

pub next_gram-gram-requires : goal.next_gram-gram-requires
next_gram-gram-requires c = (omega arith, c.loop-i.invariant.4)

pub times_marked-number-requires : goal.times_marked-number-requires
times_marked-number-requires c =
    let l = c.loop-i in
    let name = c.args.name.now in (
      omega arith,
      omega arith,
      l.invariant.2,
      marked_none (gram_at gram_length characters name) most_features l.i l.set.items l.marked c.next_gram-gram.result (omega arith) l.invariant.1 l.invariant.3,
    )

pub loop-i-preserved : goal.loop-i-preserved
loop-i-preserved c =
    let name = c.args.name.now in
    let g = c.next_gram-gram in
    let t = c.times_marked-number in (
      c.loop-i.invariant.0,
      next_feature (gram_at gram_length characters name) most_features c.loop-i.i c.loop-i.set.items g.result t.result (omega arith) (omega arith) c.loop-i.invariant.1 g.ensures.0 t.ensures.0,
      simp length-set c.loop-i.invariant.2,
      marked_step (gram_at gram_length characters name) c.loop-i.i c.loop-i.marked c.mark_place.result c.loop-i.invariant.2 (c.mark_place.ensures.0 ∙ ap (λ (x : ℕ). x % marks) g.ensures.0) c.loop-i.invariant.3,
      g.ensures.2,
    )

pub returns : goal.returns
returns c =
    let name = c.args.name.now in
    let e : c.loop-i.i ≡ length name + 2 = omega arith in
    filled_whole name c.loop-i.set (length name + 2) refl (c.loop-i.invariant.1 ∙ ap (λ (n : ℕ). tabulate (numbered (gram_at gram_length characters name)) n ++ replicate (most_features - n) 0) e)
    ∙ ap filled (sym (features_good name c.requires))
