-- `run` meets its contract: 7 where the sizes go past the allowance, 8 where the answers exceed the room, the rows otherwise.
use Rattle.std.proofs.Common.{◌≡◌, ◌∙◌, refl, sym, ap, ap₂, true, List, ◌++◌, ℕ, ◌≤◌, length, take, drop, get_or, replicate, Fits, w8, arith, length-append}
use Rattle.std.proofs.lemmas.List.{length-take-le}
use lib.ListN.{length-replicate}
use lib.Seq.{take_at}
use Rattle.laws.specs.Sort.{sort_of}
use Rattle.laws.proofs.Sort.{length_sort}
use Rattle.names.specs.declared.FeatureSet.{FeatureSet}
use Rattle.names.specs.Names.{judge_of}
use Rattle.names.specs.Features.{features_of}
use Rattle.names.specs.Set.{filled}
use Rattle.names.proofs.Laws.{size_most}
use Rattle.likeness.specs.Measures.{good_measure, good_threshold}
use Rattle.likeness.specs.declared.Threshold.{Threshold}
use Rattle.words.specs.Words.{name_count}
use Rattle.index.specs.Good.{Good, most_names, ids_in}
use Rattle.index.proofs.Laws.{good_three, good_names_most}
use Rattle.sizes.specs.Tables.{leasts_of}
use Rattle.sizes.proofs.Size.{length_ids}
use Rattle.search.specs.Places.{places_in}
use Rattle.search.specs.Answers.{as_columns, Found}
use Rattle.search.proofs.AgainstMethod.{filled_facts}
use Rattle.search.proofs.Rows.{places_most}
use Rattle.search.proofs.Running.{Prepared, ran_asked, ran_reachable, ran_past, ran_wide, ran_full, ran_found}
use Rattle.search.proofs.run.Goals as goal

pub name_count-n-requires : goal.name_count-n-requires
name_count-n-requires c = good_three _ c.requires.0

pub name_ids-requires : goal.name_ids-requires
name_ids-requires c =
    let h = good_names_most c.args.words.now c.requires.0 in
    let n = length-replicate {A = ℕ} most_names 0 in
    (c.requires.0, omega arith)

-- the table has room for the ids, and they stand in front
listed : (w table : List ℕ) (n : ℕ) → n ≡ name_count w → table ≡ ids_in w ++ drop (name_count w) (replicate most_names 0)
    → (n ≤ length table) × (take n table ≡ ids_in w)
listed w table n e h =
    let rest : List ℕ = drop (name_count w) (replicate most_names 0) in
    let l = length_ids w in
    let m = ap length h ∙ length-append (ids_in w) rest in
    (omega arith, ap₂ take e h ∙ take_at (ids_in w) rest (name_count w) l)

pub slice_bounds-table-end : goal.slice_bounds-table-end
slice_bounds-table-end c = (listed c.args.words.now c.name_ids.new.table c.name_count-n.result c.name_count-n.ensures.0 c.name_ids.ensures).0

pub slice_bounds-all_sizes-end : goal.slice_bounds-all_sizes-end
slice_bounds-all_sizes-end c =
    sym (length-take-le c.name_count-n.result c.name_ids.new.table
    (listed c.args.words.now c.name_ids.new.table c.name_count-n.result c.name_count-n.ensures.0 c.name_ids.ensures).0)

-- what all sizes are handed, of a good index and question: the sorted features stand in front of their set
prepared : (s : List ℕ) (m p q : ℕ) (w leasts : List ℕ) (r : FeatureSet) → Good w × (judge_of s ≡ 0) × (good_measure m ≡ true) × (good_threshold p q ≡ true)
    → ((j : ℕ) → Fits w8 (get_or s j 0)) → r ≡ filled (sort_of (features_of s)) → leasts ≡ leasts_of w m p q r.len
    → Prepared s m p q w (take r.len r.items) leasts
prepared s m p q w leasts r g b e l =
    let h = size_most s in
    let n = length_sort (features_of s) in
    let k = filled_facts r (sort_of (features_of s)) e (omega arith) in
    let len = k.0 in
    let all = k.2 in
    record {
      good = g.0;
      judged = g.1;
      known = g.2;
      exact = g.3;
      bytes = λ j. (let z = b j in omega arith);
      sorted = k.1;
      least = l ∙ ap (leasts_of w m p q) (sym (length-take-le r.len r.items (omega arith)));
    }

pub all_sizes-requires : goal.all_sizes-requires
all_sizes-requires c =
    let r = prepared c.args.query.now c.args.measure c.args.p c.args.q c.args.words.now c.least_counts-leasts.result c.sorted_features-set.result c.requires c.type_inv.query c.sorted_features-set.ensures c.least_counts-leasts.ensures in
    (r.good, (listed c.args.words.now c.name_ids.new.table c.name_count-n.result c.name_count-n.ensures.0 c.name_ids.ensures).1, ran_asked r, ran_reachable r, refl)

pub returns-in_default : goal.returns-in_default
returns-in_default c =
    let r = prepared c.args.query.now c.args.measure c.args.p c.args.q c.args.words.now c.least_counts-leasts.result c.sorted_features-set.result c.requires c.type_inv.query c.sorted_features-set.ensures c.least_counts-leasts.ensures in
    ran_past r c.in_default.ensures refl _

pub count_answers-rows-requires : goal.count_answers-rows-requires
count_answers-rows-requires c =
    let r = prepared c.args.query.now c.args.measure c.args.p c.args.q c.args.words.now c.least_counts-leasts.result c.sorted_features-set.result c.requires c.type_inv.query c.sorted_features-set.ensures c.least_counts-leasts.ensures in
    let h = ran_wide r c.in-Some.ensures refl in
    let g = good_names_most _ c.requires.0 in
    let e = c.name_count-n.ensures.0 in
    omega arith

-- how many answers there are
counted : (a : List ℕ) (rows n k : ℕ) → rows ≡ length (places_in a n) → n ≡ k → rows ≡ length (places_in a k)
counted a rows n k h e = h ∙ ap (λ (j : ℕ). length (places_in a j)) e

pub returns-then-room-rows : goal.returns-then-room-rows
returns-then-room-rows c =
    let a = c.args in
    let r = prepared a.query.now a.measure a.p a.q a.words.now c.least_counts-leasts.result c.sorted_features-set.result c.requires c.type_inv.query c.sorted_features-set.ensures c.least_counts-leasts.ensures in
    let e = counted _ _ _ (name_count a.words.now) c.count_answers-rows.ensures c.name_count-n.ensures.0 in
    ran_full r c.in-Some.ensures refl (as_columns a.ids.now a.shared.now a.sizes.now a.least.now) (omega arith)

pub write_rows-requires : goal.write_rows-requires
write_rows-requires c =
    let a = c.args in
    let r = prepared a.query.now a.measure a.p a.q a.words.now c.least_counts-leasts.result c.sorted_features-set.result c.requires c.type_inv.query c.sorted_features-set.ensures c.least_counts-leasts.ensures in
    let h = ran_wide r c.in-Some.ensures refl in
    let g = good_names_most _ c.requires.0 in
    (r.good, omega arith, (ran_reachable r).long, counted _ _ _ (name_count a.words.now) c.count_answers-rows.ensures c.name_count-n.ensures.0, omega arith, omega arith, omega arith, omega arith)

pub overflow_cast-result : goal.overflow_cast-result
overflow_cast-result c =
    let g = good_names_most _ c.requires.0 in
    let e = c.count_answers-rows.ensures in
    let n = c.name_count-n.ensures.0 in
    let y = places_most c.all_sizes.new.answers c.name_count-n.result in
    omega arith

pub returns : goal.returns
returns c =
    let a = c.args in
    let r = prepared a.query.now a.measure a.p a.q a.words.now c.least_counts-leasts.result c.sorted_features-set.result c.requires c.type_inv.query c.sorted_features-set.ensures c.least_counts-leasts.ensures in
    let wr = c.write_rows.ensures in
    let rows = c.count_answers-rows.result in
    let e = counted _ _ _ (name_count a.words.now) c.count_answers-rows.ensures c.name_count-n.ensures.0 in
    let f = ran_found r c.in-Some.ensures refl (as_columns a.ids.now a.shared.now a.sizes.now a.least.now) _ rows e (omega arith) (λ t. as_columns (wr.ids_after t) (wr.shared_after t) (wr.sizes_after t) (wr.least_after t)) in
    record {
      answer = ap (λ (t : Threshold). Found rows c.in-Some.spent t.p t.q) c.lowest-t.ensures ∙ f.answer;
      columns = f.columns;
    }
