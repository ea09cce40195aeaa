-- `build_with` meets its contract: the first bad line decides, then the room.
use mathlib.Core.Path.{refl, sym, ap, ◌∙◌}
use mathlib.Core.List.{List}
use Prim.Native.Nat.{ℕ}
use native.Mathlib.Omega.{arith}
use lib.Dec.{leb}
use lib.ListN.{length}
use lib.Seq.{length-take-le}
use Rattle.index_writer.specs.Written.{written_in}
use Rattle.refusals.proofs.Refusals.{refused}
use Rattle.register.proofs.Ending.{held, in_order, built_bad, built_over, built_in, words_of_lem, keyed_of}
use Rattle.register.proofs.build_with.Goals as goal

pub returns-in-Err : goal.returns-in-Err
returns-in-Err c =
    let h = c.in-Err.ensures in
    let r = built_bad c.args.register.now c.args.words.now (λ q. refused c.in-Err.refusal.refusal (h.number ∙ q)) in
    ((λ i. record { number = h.number i; line = h.line i }) ∙ r.0, c.fill.ensures ∙ r.1)

pub order-requires : goal.order-requires
order-requires c =
    let t = c.in-Ok.taken in
    let x = c.take_lines in
    let h = held (c.in-Ok.ensures.tables refl) c.args.ordered.now (x.auto.names ∙ c.requires.1) (c.requires.3 ∙ sym x.auto.keys) in
    let k = length-take-le t.postings x.new.keys h.keys_within in
    let m = h.most in
    (h.sizes ∙ sym k, omega arith, length-take-le t.postings c.args.ordered.now h.ordered_within ∙ sym k)

pub write_index-requires : goal.write_index-requires
write_index-requires c =
    let x = c.take_lines in
    let t = c.in-Ok.ensures.tables refl in
    let h = held t c.args.ordered.now (x.auto.names ∙ c.requires.1) (c.requires.3 ∙ sym x.auto.keys) in
    keyed_of _ t.fit _ _ t.words (in_order h c.order.new.out c.order.auto.out c.order.ensures)

pub returns-then-not-write_index : goal.returns-then-not-write_index
returns-then-not-write_index c =
    let x = c.take_lines in
    let y = c.write_index.ensures in
    let t = c.in-Ok.ensures.tables refl in
    let h = held t c.args.ordered.now (x.auto.names ∙ c.requires.1) (c.requires.3 ∙ sym x.auto.keys) in
    let w = words_of_lem _ t.fit _ _ t.words (in_order h c.order.new.out c.order.auto.out c.order.ensures) in
    let room = length c.args.words.now in
    let r = built_over c.args.register.now c.args.words.now (sym c.in-Ok.ensures.number) (ap (λ (l : List ℕ). leb (length l) room) (sym w) ∙ sym y.0 ∙ c.if-not-write_index.true) in
    (r.0, y.1 ∙ ap (written_in room) w ∙ r.1)

pub returns : goal.returns
returns c =
    let x = c.take_lines in
    let y = c.write_index.ensures in
    let t = c.in-Ok.ensures.tables refl in
    let h = held t c.args.ordered.now (x.auto.names ∙ c.requires.1) (c.requires.3 ∙ sym x.auto.keys) in
    let w = words_of_lem _ t.fit _ _ t.words (in_order h c.order.new.out c.order.auto.out c.order.ensures) in
    let room = length c.args.words.now in
    let r = built_in c.args.register.now c.args.words.now (sym c.in-Ok.ensures.number) (ap (λ (l : List ℕ). leb (length l) room) (sym w) ∙ sym y.0 ∙ c.if-not-write_index.false) in
    (r.0, y.1 ∙ ap (written_in room) w ∙ r.1)
