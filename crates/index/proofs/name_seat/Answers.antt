-- `name_seat` meets its contract: the words of ids below one come before the least word of that id.
use Rattle.std.proofs.Common.{◌≡◌, ◌∙◌, arith}
use Rattle.binary_search.specs.Seats.{place_of}
use Rattle.index.specs.Good.{ids_in}
use Rattle.index.proofs.Facts.{head_facts}
use Rattle.index.proofs.Names.{names_within, names_searched, place_words, place_large, seat_name, seat_no_name}
use Rattle.index.proofs.name_seat.Goals as goal
use Rattle.index.proofs.name_seat.Goals.{else-at-names-via-then-at-names+else-name_id-id, else-at-names-via-else-at-names}

pub name_count-names-requires : goal.name_count-names-requires
name_count-names-requires c = (head_facts c.args.words.now c.requires.head).three

pub returns-then-id-gt-LARGEST_ID : goal.returns-then-id-gt-LARGEST_ID
returns-then-id-gt-LARGEST_ID c =
    let n = c.name_count-names.ensures.0 in
    seat_no_name c.args.words.now c.requires c.args.id c.name_count-names.result (n ∙ place_large c.args.words.now c.requires c.args.id c.if-id-gt-LARGEST_ID.true) (λ l e. omega arith)

pub place_in_column-at-requires : goal.place_in_column-at-requires
place_in_column-at-requires c =
    let n = c.name_count-names in
    names_searched c.args.words.now c.requires n.result n.ensures.0

pub name_id-requires : goal.name_id-requires
name_id-requires c = omega (arith, names_within c.args.words.now c.requires, c.name_count-names.ensures.0)

pub returns-then-name_id-id : goal.returns-then-name_id-id
returns-then-name_id-id c =
    let e = c.name_count-names.ensures.0 in
    seat_name c.args.words.now c.requires c.args.id c.place_in_column-at.result (omega arith) (omega arith)

pub returns-else-at-names : goal.returns-else-at-names
returns-else-at-names c =
    let w = c.args.words.now in
    let at = c.place_in_column-at.result in
    let n = c.name_count-names in
    let e = n.ensures.0 in
    -- what the search has found
    let place : at ≡ place_of c.args.id (ids_in w) =
    place_words w c.requires n.result c.args.id at n.ensures.0 (rw (c.from.ensures, c.from-2.ensures) at c.place_in_column-at.ensures)
    in
    seat_no_name w c.requires c.args.id at place
    (λ l q.
    elim c.else-at-names.branch [
      | else-at-names-via-then-at-names+else-name_id-id v ↦ (let a = v.name_id.ensures in let f = v.if-name_id-id.false in omega arith)
      | else-at-names-via-else-at-names v ↦ (let f = v.if-at-names.false in omega arith)
    ])
