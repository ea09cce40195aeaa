-- `write_rows` meets its contract: after i names, the rows of the answers among them stand in front; where they are as many as all, the rest has none.
use Rattle.std.proofs.Common.{◌≡◌, ◌∙◌, refl, sym, ap, ℕ, ◌≤◌, ◌<◌, List, [], ◌∷◌, length, get_or, arith, length-append}
use Rattle.words.specs.Words.{name_count, name_id, name_size}
use Rattle.index.proofs.Laws.{good_within_lem, good_name_within}
use Rattle.search.specs.Places.{places_in}
use Rattle.search.proofs.Rows.{places_nil, places_met, places_passed, places_before, written_nil, written_met, written_passed, written_all}
use Rattle.search.proofs.write_rows.Goals as goal
use Rattle.search.proofs.write_rows.Goals.{then-count-gt0, else-count-gt0}

pub loop-i-init : goal.loop-i-init
loop-i-init c =
    let a = c.args in
    let w = a.words.now in
    let t = a.answers.now in
    record {
      named = omega arith;
      written = sym (ap length (places_nil t));
      few = omega arith;
      ids = written_nil t (name_id w) a.ids.now;
      shared = written_nil t (λ (j : ℕ). get_or t j 0) a.shared.now;
      sizes = written_nil t (name_size w) a.sizes.now;
      least = written_nil t (λ (j : ℕ). get_or a.leasts.now (name_size w j) 0) a.least.now;
    }

-- while rows are missing, there is a name
named : (a : List ℕ) (i n k rows : ℕ) → i ≤ n → k ≡ length (places_in a i) → rows ≡ length (places_in a n) → k ≤ rows → (k ≡ rows → ⊥) → i < n
named a i n k rows h e f m d = places_before a i n h (omega arith)

pub name_size-size-requires : goal.name_size-size-requires
name_size-size-requires c =
    let w = good_within_lem c.args.words.now c.requires.0 in
    let i = c.loop-i.invariant in
    let h = named c.args.answers.now c.loop-i.i (name_count c.args.words.now) _ _ i.named i.written c.requires.3 i.few c.if-k-rows.false in
    omega arith

pub name_id-requires : goal.name_id-requires
name_id-requires c =
    let w = good_within_lem c.args.words.now c.requires.0 in
    let i = c.loop-i.invariant in
    let h = named c.args.answers.now c.loop-i.i (name_count c.args.words.now) _ _ i.named i.written c.requires.3 i.few c.if-k-rows.false in
    omega arith

pub bounds-leasts-size : goal.bounds-leasts-size
bounds-leasts-size c =
    let w = c.args.words.now in
    let i = c.loop-i.invariant in
    let h = named c.args.answers.now c.loop-i.i (name_count w) _ _ i.named i.written c.requires.3 i.few c.if-k-rows.false in
    let g = (good_name_within w c.requires.0 c.loop-i.i h).2 in
    let e = c.name_size-size.ensures in
    omega arith

pub loop-i-preserved : goal.loop-i-preserved
loop-i-preserved c =
    let a = c.args in
    let w = a.words.now in
    let t = a.answers.now in
    let l = c.loop-i in
    let v = l.invariant in
    let h = named t l.i (name_count w) _ _ v.named v.written c.requires.3 v.few c.if-k-rows.false in
    elim c.if-count-gt0.branch [
      | then-count-gt0 s ↦ (let y = s.if-count-gt0.true in
          let e = ap length (places_met t l.i y) in
          let f = length-append (places_in t l.i) (l.i ∷ []) in
          record {
            named = omega arith;
            written = omega arith;
            few = omega arith;
            ids = written_met t (name_id w) a.ids.now l.ids _ l.i l.k _ s.ids-is y v.written (omega arith) s.name_id.ensures v.ids;
            shared = written_met t (λ (j : ℕ). get_or t j 0) a.shared.now l.shared _ l.i l.k _ s.shared-is y v.written (omega arith) refl v.shared;
            sizes = written_met t (name_size w) a.sizes.now l.sizes _ l.i l.k _ s.sizes-is y v.written (omega arith) s.name_size-size.ensures v.sizes;
            least = written_met t (λ (j : ℕ). get_or a.leasts.now (name_size w j) 0) a.least.now l.least _ l.i l.k _ s.least-is y v.written (omega arith)
                (ap (λ (z : ℕ). get_or a.leasts.now z 0) s.name_size-size.ensures) v.least;
          })
      | else-count-gt0 s ↦ (let n = s.if-count-gt0.false in
          record {
            named = omega arith;
            written = s.k-is ∙ v.written ∙ ap length (sym (places_passed t l.i n));
            few = omega arith;
            ids = written_passed t (name_id w) a.ids.now l.ids _ l.i s.ids-is n v.ids;
            shared = written_passed t (λ (j : ℕ). get_or t j 0) a.shared.now l.shared _ l.i s.shared-is n v.shared;
            sizes = written_passed t (name_size w) a.sizes.now l.sizes _ l.i s.sizes-is n v.sizes;
            least = written_passed t (λ (j : ℕ). get_or a.leasts.now (name_size w j) 0) a.least.now l.least _ l.i s.least-is n v.least;
          })
    ]

pub returns-then-k-rows : goal.returns-then-k-rows
returns-then-k-rows c =
    let a = c.args in
    let w = a.words.now in
    let t = a.answers.now in
    let l = c.loop-i in
    let v = l.invariant in
    let m : length (places_in t (name_count w)) ≤ length (places_in t l.i) = omega arith in
    record {
      ids_after = written_all t (name_id w) a.ids.now l.ids l.i (name_count w) v.named m v.ids;
      shared_after = written_all t (λ (j : ℕ). get_or t j 0) a.shared.now l.shared l.i (name_count w) v.named m v.shared;
      sizes_after = written_all t (name_size w) a.sizes.now l.sizes l.i (name_count w) v.named m v.sizes;
      least_after = written_all t (λ (j : ℕ). get_or a.leasts.now (name_size w j) 0) a.least.now l.least l.i (name_count w) v.named m v.least;
    }

pub returns-after-loop-i : goal.returns-after-loop-i
returns-after-loop-i c =
    let a = c.args in
    let w = a.words.now in
    let t = a.answers.now in
    let l = c.loop-i in
    let v = l.invariant in
    let e : l.i ≡ name_count w = omega arith in
    let d = ap (λ (j : ℕ). length (places_in t j)) e in
    let m : length (places_in t (name_count w)) ≤ length (places_in t l.i) = omega arith in
    record {
      ids_after = written_all t (name_id w) a.ids.now l.ids l.i (name_count w) v.named m v.ids;
      shared_after = written_all t (λ (j : ℕ). get_or t j 0) a.shared.now l.shared l.i (name_count w) v.named m v.shared;
      sizes_after = written_all t (name_size w) a.sizes.now l.sizes l.i (name_count w) v.named m v.sizes;
      least_after = written_all t (λ (j : ℕ). get_or a.leasts.now (name_size w j) 0) a.least.now l.least l.i (name_count w) v.named m v.least;
    }
