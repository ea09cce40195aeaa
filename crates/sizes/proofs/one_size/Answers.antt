-- `one_size` meets its contract: where the least count is 0, or too few lists have ids, nothing is due; otherwise the lists in order are the
-- method's, and so are the touches of the two phases.
use mathlib.Core.Path.{◌≡◌, sym, subst, ◌∙◌}
use mathlib.Core.List.{List}
use Prim.Native.Nat.{ℕ, ◌≤◌}
use native.Mathlib.Omega.{arith}
use borrow.Author.Tests.{leb-false}
use lib.ListN.{length}
use Rattle.laws.specs.Lists.{Ascending}
use Rattle.names.specs.Features.{most_features}
use Rattle.index.specs.Good.{most_names}
use Rattle.candidates.specs.Tables.{Readable}
use Rattle.sizes.specs.Tables.{filled_of}
use Rattle.sizes.proofs.Size.{ids_few, ids_rise, length_keys, cut_readable, sized_none, sized_walked}
use Rattle.sizes.proofs.EmptySignatures.{sized_short}
use Rattle.sizes.proofs.one_size.Goals as goal

pub returns-then-least-eq0 : goal.returns-then-least-eq0
returns-then-least-eq0 c =
    let a = c.args in
    sized_none a.words.now a.size a.features.now a.least a.budget a.answers.now a.counts.now c.if-least-eq0.true c.requires.lent.cleared

pub order_lists-requires : goal.order_lists-requires
order_lists-requires c =
    let h = c.if-least-eq0.false in
    let rows = c.requires.from_value (omega arith) in
    let l = c.requires.lent in
    (c.requires.good.0, c.requires.good.2.few, c.requires.good.3, l.starting, l.keyed, l.spared, rows.0, rows.1)

pub returns-then-not-order_lists : goal.returns-then-not-order_lists
returns-then-not-order_lists c =
    let a = c.args in
    let h = c.if-least-eq0.false in
    let few = leb-false a.least (filled_of a.words.now a.size a.features.now (length a.features.now)) (sym c.order_lists.ensures.value ∙ c.if-not-order_lists.true) in
    sized_short a.words.now a.size a.features.now c.requires.good.2 a.least (omega arith) c.requires.good.3 few a.budget a.answers.now a.counts.now c.requires.good.4 c.requires.lent.cleared

-- where each list in order starts there is room for it
room : (features starts starts₀ : List ℕ) → length features ≤ most_features → length starts₀ ≡ most_features → length starts ≡ length starts₀ → length features ≤ length starts
room features starts starts₀ h e f = omega arith

pub walk_lists-requires : goal.walk_lists-requires
walk_lists-requires c =
    let w = c.args.words.now in
    let o = c.order_lists in
    let u = o.ensures.keys_after c.if-not-order_lists.false in
    let h = c.if-least-eq0.false in
    let good = c.requires.good.0 in
    let asked = c.requires.good.2 in
    let same = sym c.requires.good.1 in
    let r = room c.args.features.now o.new.starts c.args.starts.now asked.few c.requires.lent.starting o.auto.starts in
    let n = length_keys w good c.args.size c.args.features.now asked o.new.keys o.new.starts u.0 u.1 r in
    record {
      ids_len_bound = (
        subst (λ (l : List ℕ). length l ≤ most_names) same (ids_few w good),
        subst Ascending same (ids_rise w good),
        subst (λ (l : List ℕ). Readable w l o.new.keys o.new.starts) same (cut_readable w good c.args.size c.args.features.now asked o.new.keys o.new.starts u.0 u.1 r),
        (let q = asked.few in omega arith),
        omega arith,
        (let q = c.requires.good.3 in omega arith),
        c.requires.good.4,
      );
      counts_value =
          (c.requires.lent.cleared, c.requires.lent.meeting);
    }

pub returns : goal.returns
returns c =
    let o = c.order_lists in
    let u = o.ensures.keys_after c.if-not-order_lists.false in
    let h = c.if-least-eq0.false in
    let r = room c.args.features.now o.new.starts c.args.starts.now c.requires.good.2.few c.requires.lent.starting o.auto.starts in
    sized_walked c.args.words.now c.requires.good.0 c.args.size c.args.features.now c.requires.good.2 o.new.keys o.new.starts u.0 u.1 r
    c.requires.good.1 (omega arith) c.walk_lists.ensures
