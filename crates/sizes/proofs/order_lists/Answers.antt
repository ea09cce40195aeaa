-- `order_lists` meets its contract: the keys are sorted where enough lists have ids.
use mathlib.Core.Path.{◌≡◌, sym, ap, ◌∙◌}
use mathlib.Core.Bool.{true≢false}
use mathlib.Core.List.{List, ◌++◌, append-nil}
use Prim.Native.Nat.{ℕ}
use native.Mathlib.Omega.{arith}
use lib.ListN.{length, get_or, drop, drop_of_length-le, get_or-append}
use Rattle.laws.specs.Lists.{tabulate}
use Rattle.laws.specs.Sort.{sort_of}
use Rattle.laws.proofs.Lists.{length_tabulate, get_d_tabulate}
use Rattle.sizes.specs.Tables.{start_of, small_key}
use Rattle.sizes.proofs.order_lists.Goals as goal

pub returns-then-not-find_lists : goal.returns-then-not-find_lists
returns-then-not-find_lists c =
    let f = c.find_lists.ensures.value in
    let e = c.if-not-find_lists.true in
    record {
      value = sym e ∙ f;
      keys_after = λ q. absurd (true≢false (sym q));
    }

pub sort-requires : goal.sort-requires
sort-requires c =
    c.requires.5 ∙ sym (c.find_lists.auto.keys ∙ c.requires.4)

pub returns : goal.returns
returns c =
    let found = c.find_lists.ensures in
    let e = c.if-not-find_lists.false in
    let f = found.starts_after e in
    let x = length c.args.features.now in
    let ke = small_key c.args.words.now c.args.size c.args.features.now in
    let st = start_of c.args.words.now c.args.size c.args.features.now in
    let none : drop x c.args.keys.now ≡ _ = drop_of_length-le c.args.keys.now {i = x} (let q = c.requires.4 in omega arith) in
    record {
      value =
          sym e ∙ found.value;
      keys_after =
          λ q. (
            c.sort.ensures ∙ ap sort_of (f.1 ∙ ap (λ (l : List ℕ). tabulate ke x ++ l) none ∙ append-nil (tabulate ke x)),
            λ j h.
                ap (λ (l : List ℕ). get_or l j 0) f.0
                ∙ get_or-append (tabulate st x) (drop x c.args.starts.now) 0 j (rw (length_tabulate st x) h)
                ∙ get_d_tabulate st x j 0 h,
          );
    }
