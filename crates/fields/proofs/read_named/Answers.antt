-- `read_named` meets its contract: a reading that is accepted is that of a frame whose name fits, and then the name is copied.
-- Assumes nothing.
use Rattle.std.proofs.Common.{◌≡◌, ℕ, ◌≤◌, List, Ok, true, length, sym, ap, ◌∙◌, arith}
use Rattle.refusals.proofs.Refusals.{refused}
use Rattle.hex_digits.proofs.Lines.{well_formed_length}
use Rattle.fields.specs.declared.Layout.{Layout}
use Rattle.fields.specs.declared.Parts.{Parts}
use Rattle.fields.specs.Layouts.{Reading, is_frame, name_in, read_of, reading_in}
use Rattle.fields.proofs.Layouts.{frame_well_formed, length_name, read_zero, read_good, buffer_kept, name_copied}
use Rattle.fields.proofs.read_named.Goals as goal

-- a refused reading leaves the buffer as it was
pub returns-in_default-clause-name_after : goal.returns-in_default-clause-name_after
returns-in_default-clause-name_after c =
    let a = c.args in
    let r = c.in_default.field-0 in
    sym (buffer_kept a.layout a.line.now a.name.now (λ z. refused r (ap (λ (x : Reading). x.number) c.in_default.ensures ∙ z)))

-- an accepted reading: the line is a frame whose name fits, and its length is what was read
accepted : (y : Layout) (line : List ℕ) (room : ℕ) (p : Parts)
    → reading_in y (Ok p) ≡ read_of y line room
    → (is_frame y line ≡ true) × (length (name_in y line) ≤ room) × (p.len ≡ length (name_in y line)) × ((read_of y line room).number ≡ 0)
accepted y line room p e =
    let n = sym (ap (λ (x : Reading). x.number) e) in
    let h = read_zero y line room n in
    (h.0, h.1, ap (λ (x : Reading). x.len) (e ∙ read_good y line room h.0 h.1), n)

pub copy_bytes-requires : goal.copy_bytes-requires
copy_bytes-requires c =
    let y = c.args.layout in
    let l = c.args.line.now in
    let h = accepted y l (length c.args.name.now) c.in-Ok.parts c.in-Ok.ensures in
    let w = frame_well_formed y l h.0 in
    let m = well_formed_length l w in
    let k = length_name y l h.0 c.requires.1 in
    let e = c.head_size.ensures.0 in
    (w, omega arith, omega arith)

pub returns-clause-name_after : goal.returns-clause-name_after
returns-clause-name_after c =
    let a = c.args in
    let h = accepted a.layout a.line.now (length a.name.now) c.in-Ok.parts c.in-Ok.ensures in
    c.copy_bytes.ensures ∙ rw (c.head_size.ensures.0, h.2) (name_copied a.layout a.line.now a.name.now h.3 c.requires.1)
