-- The laws of frames that other layers cite, over every layout: both round trips, at most one reading, and no line of two kinds.
-- For the five frames they are in `frames`, Five.antt; that a line has one line feed, at its end, is `feed_last` and `last_feed` in `hex_digits`, Lines.antt.
-- Assumes nothing.
use mathlib.Core.Path.{◌≡◌, refl, sym, ap, ◌∙◌}
use mathlib.Core.Bool.{Bool, true, false, cond, true≢false}
use mathlib.Core.List.{List, [], ◌∷◌, ◌++◌, append-nil, append_assoc}
use Prim.Native.Nat.{ℕ, zero, suc, ◌+◌, ◌≤◌, ◌<◌}
use native.Mathlib.Numerals.{one-add}
use native.Mathlib.Omega.{arith}
use lib.ListN.{length, get_or, take, drop, length-append, length-drop}
use lib.Seq.{take_at, drop_at, take_all, take-add, length-take-le, get_or_at, drop-drop, split_at}
use borrow.Author.Tests.{eq-eqb}
use Rattle.laws.specs.Lists.{sum_of}
use Rattle.hex_digits.specs.Lines.{Bytes, well_formed, bytes_of}
use Rattle.hex_digits.specs.Numbers.{number_of, bytes_for}
use Rattle.hex_digits.proofs.Lines.{take_bytes, drop_bytes, length_bytes, well_formed_bytes, well_formed_hex, bytes_hex, hex_bytes}
use Rattle.hex_digits.proofs.Numbers.{length_bytes_for, bytes_for_bytes, number_bytes, bytes_number}
use Rattle.fields.specs.declared.Layout.{Layout}
use Rattle.fields.specs.Layouts.{Reading}
use Rattle.fields.specs.Layouts.{head_size, field_bytes, name_bytes, line_of, FieldsFit, Fitting, tail_size, laid_out, is_frame, fields_of, fields_in, name_in, accepted_as, refused_with, read_of, buffer_of, longest_name}
use Rattle.fields.proofs.Layouts.{length_field_bytes, fields_fit, size_named, frame_well_formed, frame_kind, frame_length, name_plain, name_named, length_name, read_zero, read_malformed, read_good, buffer_good}

-- ---- what fits

-- the fields of a layout with a name, and any name that is not too long
pub fitting_named : (y : Layout) (f name : List ℕ) → y.named ≡ true → y.kind < 256 → FieldsFit y.widths f → Bytes name → length name ≤ longest_name → Fitting y f name
fitting_named y f name n k h b s = record { kind = k; fields = h; bytes = b; short = s; plain = λ e. absurd (true≢false (sym n ∙ e)) }

-- the fields of a layout without one
pub fitting_plain : (y : Layout) (f : List ℕ) → y.kind < 256 → FieldsFit y.widths f → Fitting y f []
fitting_plain y f k h = record { kind = k; fields = h; bytes = λ i. omega arith; short = omega arith; plain = λ e. refl }

-- ---- the fields, both ways

fields_back : (ws f t : List ℕ) → FieldsFit ws f → fields_of ws (field_bytes ws f ++ t) ≡ f
unfolding fields_of field_bytes
fields_back [] [] t h = refl
fields_back [] (n ∷ f) t h = absurd h
fields_back (w ∷ ws) [] t h = absurd h
fields_back (w ∷ ws) (n ∷ f) t h =
    let b : List ℕ = bytes_for w n in
    let r : List ℕ = field_bytes ws f ++ t in
    let l : length b ≡ w = length_bytes_for w n in
    let e : (b ++ field_bytes ws f) ++ t ≡ b ++ r = append_assoc b (field_bytes ws f) t in
    rw (e, take_at b r w l, drop_at b r w l, number_bytes w n h.0) (ap (λ (q : List ℕ). n ∷ q) (fields_back ws f t h.1))

bytes_read : (ws t : List ℕ) → Bytes t → sum_of ws ≤ length t → field_bytes ws (fields_of ws t) ≡ take (sum_of ws) t
unfolding fields_of field_bytes sum_of
bytes_read [] t b h = refl
bytes_read (w ∷ ws) t b h =
    let l : length (take w t) ≡ w = length-take-le w t (omega arith) in
    let k : sum_of ws ≤ length (drop w t) = rw length-drop (omega arith) in
    let n : bytes_for w (number_of (take w t)) ≡ take w t = rw l at (bytes_number (take w t) (take_bytes w t b)) in
    rw (n, bytes_read ws (drop w t) (drop_bytes w t b) k) (sym (take-add w (sum_of ws) t))

-- ---- lists of bytes

append_bytes : (s t : List ℕ) → Bytes s → Bytes t → Bytes (s ++ t)
append_bytes [] t p q k = q k
append_bytes (b ∷ s) t p q zero = p 0
append_bytes (b ∷ s) t p q (suc k) = append_bytes s t (λ i. p (suc i)) q k

field_bytes_bytes : (ws f : List ℕ) → Bytes (field_bytes ws f)
unfolding field_bytes
field_bytes_bytes [] f k = omega arith
field_bytes_bytes (w ∷ ws) f k =
    append_bytes (bytes_for w (get_or f 0 0)) (field_bytes ws (drop 1 f)) (bytes_for_bytes w (get_or f 0 0)) (field_bytes_bytes ws (drop 1 f)) k

name_bytes_bytes : (named : Bool) (name : List ℕ) → Bytes name → length name ≤ longest_name → Bytes (name_bytes named name)
unfolding name_bytes
name_bytes_bytes true name b h zero = omega arith
name_bytes_bytes true name b h (suc k) = b k
name_bytes_bytes false name b h k = omega arith

-- ---- writing and then reading

-- after k and b, which end at place n, the name's length byte says how many bytes are left
sized : (k n : ℕ) (b : List ℕ) (named : Bool) (name : List ℕ) → length b ≡ n
    → length (k ∷ (b ++ name_bytes named name)) ≡ (1 + n) + cond named (1 + get_or (k ∷ (b ++ name_bytes named name)) (1 + n) 0) 0
unfolding name_bytes
sized k n b true name e =
    let m = length-append b (length name ∷ name) in
    let g : get_or (b ++ (length name ∷ name)) n 0 ≡ length name = get_or_at b (length name) name 0 n e in
    let o : 1 + n ≡ suc n = one-add n in
    rw (o, g) (omega arith)
sized k n b false name e = let m = length-append b [] in omega arith

-- and the name stands after it
behind : (k n : ℕ) (b : List ℕ) (named : Bool) (name : List ℕ) → length b ≡ n → (named ≡ false → name ≡ [])
    → cond named (drop (1 + n + 1) (k ∷ (b ++ name_bytes named name))) [] ≡ name
unfolding name_bytes
behind k n b true name e p =
    let t : List ℕ = length name ∷ name in
    let o : 1 + n + 1 ≡ suc (n + 1) = omega arith in
    rw o (sym (drop-drop 1 n (b ++ t)) ∙ ap (λ (l : List ℕ). drop 1 l) (drop_at b t n e))
behind k n b false name e p = sym (p refl)

-- fields that do not fit their bytes are cut to them, so the line is a frame all the same
module _ (y : Layout) (f name : List ℕ) (kind : y.kind < 256) (bytes : Bytes name) (short : length name ≤ longest_name) where
  line_bytes : Bytes (y.kind ∷ (field_bytes y.widths f ++ name_bytes y.named name))
  line_bytes zero = kind
  line_bytes (suc k) =
      append_bytes (field_bytes y.widths f) (name_bytes y.named name) (field_bytes_bytes y.widths f)
      (name_bytes_bytes y.named name bytes short)
      k

  -- the bytes of the line are those that it was made of
  bytes_line : bytes_of (line_of y f name) ≡ y.kind ∷ (field_bytes y.widths f ++ name_bytes y.named name)
  unfolding line_of
  bytes_line = bytes_hex _ line_bytes

  well_formed_line : well_formed (line_of y f name) ≡ true
  unfolding line_of
  well_formed_line = well_formed_hex _ line_bytes

  pub frame_line : is_frame y (line_of y f name) ≡ true
  unfolding is_frame laid_out head_size tail_size
  frame_line =
      rw (well_formed_line, bytes_line, eq-eqb y.kind y.kind refl)
      (eq-eqb _ _ (sized y.kind (sum_of y.widths) (field_bytes y.widths f) y.named name (length_field_bytes y.widths f)))

module _ (y : Layout) (f name : List ℕ) (h : Fitting y f name) where
  bytes_written : bytes_of (line_of y f name) ≡ y.kind ∷ (field_bytes y.widths f ++ name_bytes y.named name)
  bytes_written = bytes_line y f name h.kind h.bytes h.short

  pub frame_written : is_frame y (line_of y f name) ≡ true
  frame_written = frame_line y f name h.kind h.bytes h.short

  pub fields_written : fields_in y (line_of y f name) ≡ f
  unfolding fields_in
  fields_written = rw bytes_written (fields_back y.widths f (name_bytes y.named name) h.fields)

  pub name_written : name_in y (line_of y f name) ≡ name
  unfolding name_in head_size
  name_written =
      rw bytes_written
      (behind y.kind (sum_of y.widths) (field_bytes y.widths f) y.named name (length_field_bytes y.widths f) h.plain)

  -- reading what was written gives the same fields and the same name
  pub read_write : (room : ℕ) → length name ≤ room → read_of y (line_of y f name) room ≡ record { number = 0; fields = f; len = length name }
  read_write room r =
      rw (read_good y (line_of y f name) room frame_written (rw name_written r), fields_written, name_written)

  pub buffer_write : (buffer : List ℕ) → length name ≤ length buffer → buffer_of y (line_of y f name) buffer ≡ name ++ drop (length name) buffer
  buffer_write buffer r =
      rw (buffer_good y (line_of y f name) buffer (ap (λ (x : Reading). x.number) (read_write (length buffer) r)), name_written)

-- ---- reading and then writing

-- the bytes t after k, of which n are fields, are the fields and the name with its length
name_parts : (k n : ℕ) (t : List ℕ) (named : Bool) → suc (length t) ≡ (1 + n) + cond named (1 + get_or (k ∷ t) (1 + n) 0) 0
    → take n t ++ name_bytes named (cond named (drop (1 + n + 1) (k ∷ t)) []) ≡ t
unfolding name_bytes
name_parts k n t true q =
    let o : 1 + n ≡ suc n = one-add n in
    let p : 1 + n + 1 ≡ suc (suc n) = omega arith in
    let g : get_or (k ∷ t) (1 + n) 0 ≡ get_or t n 0 = rw o in
    let m : length (drop (suc n) t) ≡ get_or t n 0 = rw length-drop (omega arith) in
    rw (p, m) (sym (split_at t n 0 (omega arith)))
name_parts k n t false q = append-nil (take n t) ∙ take_all n t (omega arith)

-- bytes that are just as many as the layout has are the first of them, the fields and the name
parts : (s ws : List ℕ) (named : Bool) → Bytes s → length s ≡ (1 + sum_of ws) + cond named (1 + get_or s (1 + sum_of ws) 0) 0
    → get_or s 0 0 ∷ (field_bytes ws (fields_of ws (drop 1 s)) ++ name_bytes named (cond named (drop (1 + sum_of ws + 1) s) [])) ≡ s
parts [] ws named b e = absurd (omega arith)
parts (k ∷ t) ws named b e =
    ap (λ (l : List ℕ). k ∷ l) (rw (bytes_read ws t (λ i. b (suc i)) (omega arith)) (name_parts k (sum_of ws) t named e))

module _ (y : Layout) (l : List ℕ) (e : is_frame y l ≡ true) where
  -- the line of the fields and the name that were read is the line
  pub write_read : line_of y (fields_in y l) (name_in y l) ≡ l
  unfolding line_of fields_in name_in head_size tail_size
  write_read =
      let w = frame_well_formed y l e in
      rw (← frame_kind y l e, parts (bytes_of l) y.widths y.named (well_formed_bytes l w) (frame_length y l e)) (hex_bytes l w)

  name_fits : (d : Bool) → y.named ≡ d → Bytes (name_in y l) × (length (name_in y l) ≤ longest_name)
  name_fits true q =
      let b = well_formed_bytes l (frame_well_formed y l e) in
      let n = length_name y l e q in
      let m = frame_length y l e in
      let z = size_named y (bytes_of l) q in
      let h = b (head_size y) in
      let t = length_bytes l in
      (rw (name_named y l q) (drop_bytes (head_size y + 1) (bytes_of l) b), omega arith)
  name_fits false q = (rw (name_plain y l q) (λ k. omega arith), rw (name_plain y l q) (omega arith))

  -- what was read fits the layout
  pub read_fits : Fitting y (fields_in y l) (name_in y l)
  unfolding fields_in
  read_fits =
      let b = well_formed_bytes l (frame_well_formed y l e) in
      let k = frame_kind y l e in
      let z = b 0 in
      record {
        kind = omega arith;
        fields = fields_fit y.widths (drop 1 (bytes_of l)) (drop_bytes 1 (bytes_of l) b);
        bytes = (name_fits y.named refl).0;
        short = (name_fits y.named refl).1;
        plain = name_plain y l;
      }

-- so the line of what an accepted reading reports is the line
pub write_reading : (y : Layout) (l : List ℕ) (room : ℕ) (r : Reading) → r ≡ read_of y l room → r.number ≡ 0 → line_of y r.fields (name_in y l) ≡ l
write_reading y l room r e z =
    let h = read_zero y l room (sym (ap (λ (x : Reading). x.number) e) ∙ z) in
    let f : r.fields ≡ fields_in y l = ap (λ (x : Reading). x.fields) (e ∙ read_good y l room h.0 h.1) in
    rw f (write_read y l h.0)

-- a buffer of the longest name is room for every name, so that such a reading is 0 or 11
pub read_roomy : (y : Layout) (l : List ℕ) (room : ℕ) → longest_name ≤ room → read_of y l room ≡ cond (is_frame y l) (accepted_as y l) (refused_with y 11)
read_roomy y l room h = by_test (is_frame y l) refl
  where
    by_test : (f : Bool) → is_frame y l ≡ f → read_of y l room ≡ cond f (accepted_as y l) (refused_with y 11)
    by_test true e = let s = (read_fits y l e).short in read_good y l room e (omega arith)
    by_test false e = read_malformed y l room e

-- ---- at most one reading

-- a line is of one kind
pub kind_unique : (y z : Layout) (l : List ℕ) → is_frame y l ≡ true → is_frame z l ≡ true → y.kind ≡ z.kind
kind_unique y z l p q = sym (frame_kind y l p) ∙ frame_kind z l q

-- a line has one reading
pub read_unique : (y : Layout) (f name g other : List ℕ) → Fitting y f name → Fitting y g other → line_of y f name ≡ line_of y g other
    → (f ≡ g) × (name ≡ other)
read_unique y f name g other p q e = (
  sym (fields_written y f name p) ∙ ap (fields_in y) e ∙ fields_written y g other q,
  sym (name_written y f name p) ∙ ap (name_in y) e ∙ name_written y g other q,
)
