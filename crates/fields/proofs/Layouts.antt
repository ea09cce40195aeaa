-- Laws of layouts, once for all of them. Cited by the proofs of the crate, by Laws.antt and Coded.antt, and by the layers above.
-- Assumes nothing.
use mathlib.Core.Path.{◌≡◌, refl, sym, ap, ◌∙◌}
use mathlib.Core.Bool.{Bool, true, false, cond, and-false}
use mathlib.Core.List.{List, [], ◌∷◌, ◌++◌, append-nil, append_assoc}
use Prim.Native.Nat.{ℕ, zero, suc, ◌+◌, ◌*◌, ◌/◌, ◌^◌, ◌≤◌, ◌<◌}
use native.Mathlib.Nat.{add-zero, one-le-pow, pow-le-pow_right, lt_of_lt_of_le}
use native.Mathlib.Numerals.{one-add}
use native.Mathlib.Omega.{arith}
use lib.ListN.{length, get_or, take, drop, set, replicate, length-replicate, length-append, length-take, length-drop, drop_of_length-le}
use lib.Seq.{sets, sets-eq, length-take-le, take-length, drop-drop, get_or-drop}
use lib.Dec.{leb, eqb}
use borrow.Author.Tests.{eq-eqb, ne_eqb, eqb-true, leb-true, leb-false, le-leb, lt-leb, lt-ltb, le-ltb}
use Rattle.laws.specs.Lists.{sum_of}
use Rattle.laws.proofs.Below.{and_left, and_right}
use Rattle.hex_digits.specs.Lines.{Bytes, hex_of, hex_line, well_formed, bytes_of}
use Rattle.hex_digits.specs.Numbers.{number_of, bytes_for}
use Rattle.hex_digits.proofs.Lines.{take_bytes, drop_bytes, length_bytes, well_formed_length, well_formed_bytes, length_hex, sets_append, sets_hex}
use Rattle.hex_digits.proofs.Numbers.{number_below, length_bytes_for}
use Rattle.fields.specs.declared.Layout.{Layout}
use Rattle.fields.specs.Layouts.{Reading}
use Rattle.fields.specs.Layouts.{head_size, narrow, field_bytes, FieldsFit, tail_size, laid_out, is_frame, fields_of, fields_in, name_in, accepted_as, refused_with, read_of, buffer_of, name_bytes, line_of, written_of, out_of, longest_name}

-- how many widths a layout has in the code, `Layout::FIELDS`
abbrev pub most : ℕ
most = 4

-- ---- the widths, one after the other

pub sum_more : (l : List ℕ) (k : ℕ) → k < length l → sum_of (take (k + 1) l) ≡ sum_of (take k l) + get_or l k 0
unfolding sum_of
sum_more [] k h = absurd (omega arith)
sum_more (w ∷ l) zero h = omega arith
sum_more (w ∷ l) (suc k) h =
    let e : suc k + 1 ≡ suc (k + 1) = omega arith in
    let r = sum_more l k (omega arith) in
    rw e (omega arith)

pub sum_take_le : (l : List ℕ) (k : ℕ) → sum_of (take k l) ≤ sum_of l
unfolding sum_of
sum_take_le l zero = omega arith
sum_take_le [] (suc k) = omega arith
sum_take_le (w ∷ l) (suc k) = let h = sum_take_le l k in omega arith

pub narrow_at : (l : List ℕ) → narrow l ≡ true → (k : ℕ) → get_or l k 0 ≤ 4
narrow_at [] e k = omega arith
narrow_at (w ∷ l) e zero = leb-true _ _ (and_left _ _ e)
narrow_at (w ∷ l) e (suc k) = narrow_at l (and_right (leb w 4) _ e) k

pub length_fields : (ws t : List ℕ) → length (fields_of ws t) ≡ length ws
unfolding fields_of
length_fields [] t = refl
length_fields (w ∷ ws) t = ap suc (length_fields ws (drop w t))

pub length_field_bytes : (ws f : List ℕ) → length (field_bytes ws f) ≡ sum_of ws
unfolding field_bytes sum_of
length_field_bytes [] f = refl
length_field_bytes (w ∷ ws) f = rw (length-append, length_bytes_for, length_field_bytes ws (drop 1 f))

-- each field that is read fits its width
pub fields_fit : (ws t : List ℕ) → Bytes t → FieldsFit ws (fields_of ws t)
unfolding fields_of
fields_fit [] t b = tt
fields_fit (w ∷ ws) t b =
    let n : length (take w t) ≤ w = rw length-take (omega arith) in (
      lt_of_lt_of_le (number_below (take w t) (take_bytes w t b)) (pow-le-pow_right (omega arith) n),
      fields_fit ws (drop w t) (drop_bytes w t b),
    )

pub fit_at : (ws f : List ℕ) → FieldsFit ws f → (k : ℕ) → get_or f k 0 < 256 ^ get_or ws k 0
fit_at [] [] h k = omega arith
fit_at [] (n ∷ f) h k = absurd h
fit_at (w ∷ ws) [] h k = absurd h
fit_at (w ∷ ws) (n ∷ f) h zero = h.0
fit_at (w ∷ ws) (n ∷ f) h (suc k) = fit_at ws f h.1 k

zeros_below : (n k w : ℕ) → get_or (replicate n 0) k 0 < 256 ^ w
zeros_below zero k w = one-le-pow w 256 (omega arith)
zeros_below (suc n) zero w = one-le-pow w 256 (omega arith)
zeros_below (suc n) (suc k) w = zeros_below n k w

-- one field more
pub fields_more : (ws t : List ℕ) (k : ℕ) → k < length ws
    → fields_of (take (k + 1) ws) t ≡ fields_of (take k ws) t ++ (number_of (take (get_or ws k 0) (drop (sum_of (take k ws)) t)) ∷ [])
unfolding fields_of sum_of
fields_more [] t k h = absurd (omega arith)
fields_more (w ∷ ws) t zero h = refl
fields_more (w ∷ ws) t (suc k) h =
    let e : suc k + 1 ≡ suc (k + 1) = omega arith in
    rw (e, ← drop-drop (sum_of (take k ws)) w t) (ap (λ (r : List ℕ). number_of (take w t) ∷ r) (fields_more ws (drop w t) k (omega arith)))

pub field_bytes_more : (ws f : List ℕ) (k : ℕ) → k < length ws
    → field_bytes (take (k + 1) ws) f ≡ field_bytes (take k ws) f ++ bytes_for (get_or ws k 0) (get_or f k 0)
unfolding field_bytes
field_bytes_more [] f k h = absurd (omega arith)
field_bytes_more (w ∷ ws) f zero h = append-nil _
field_bytes_more (w ∷ ws) f (suc k) h =
    let e : suc k + 1 ≡ suc (k + 1) = omega arith in
    let d : get_or f (suc k) 0 ≡ get_or (drop 1 f) k 0 = sym (get_or-drop 1 f k 0 ∙ ap (λ (x : ℕ). get_or f x 0) (one-add k)) in
    rw (e, d, append_assoc) (ap (λ (r : List ℕ). bytes_for w (get_or f 0 0) ++ r) (field_bytes_more ws (drop 1 f) k (omega arith)))

-- ---- stores, one after the other

pub sets_snoc : (l s : List ℕ) (k v : ℕ) → length s ≡ k → set (sets l 0 s) k v ≡ sets l 0 (s ++ (v ∷ []))
sets_snoc l s k v e =
    let z : 0 + length s ≡ k = omega arith in
    rw (sets_append, z)

-- a turn of the loop that reads the fields: its store takes the first k to the first k + 1
pub fields_turn : (z ws s read : List ℕ) (k at n : ℕ) → k < length ws → read ≡ sets z 0 (fields_of (take k ws) (drop 1 s))
    → at ≡ 1 + sum_of (take k ws) → n ≡ number_of (take (get_or ws k 0) (drop at s)) → set read k n ≡ sets z 0 (fields_of (take (k + 1) ws) (drop 1 s))
fields_turn z ws s read k at n h r a e =
    let f : List ℕ = fields_of (take k ws) (drop 1 s) in
    let l : length f ≡ k = length_fields (take k ws) (drop 1 s) ∙ length-take-le k ws (omega arith) in
    let d : drop at s ≡ drop (sum_of (take k ws)) (drop 1 s) = rw (a, drop-drop) in
    rw (fields_more ws (drop 1 s) k h, r, e, d) (sets_snoc z f k _ l)

-- a turn of the loop that writes the fields, in the same way
pub field_bytes_turn : (l ws f out : List ℕ) (k at : ℕ) → k < length ws → out ≡ sets l 2 (hex_of (field_bytes (take k ws) f))
    → at ≡ 2 + 2 * sum_of (take k ws)
    → sets out at (hex_of (bytes_for (get_or ws k 0) (get_or f k 0))) ≡ sets l 2 (hex_of (field_bytes (take (k + 1) ws) f))
field_bytes_turn l ws f out k at h r a =
    let b : List ℕ = field_bytes (take k ws) f in
    let n : sum_of (take k ws) ≡ length b = sym (length_field_bytes (take k ws) f) in
    rw (field_bytes_more ws f k h, r, a, n) (sets_hex l 2 b (bytes_for (get_or ws k 0) (get_or f k 0)))

-- stores from the start on leave what stood beyond them
pub sets_front : (l s : List ℕ) → length s ≤ length l → sets l 0 s ≡ s ++ drop (length s) l
sets_front l s h =
    let z : 0 + length s ≡ length s = omega arith in
    rw z at (sets-eq s l 0 (omega arith))

pub sets_all : (l s : List ℕ) → length s ≡ length l → sets l 0 s ≡ s
sets_all l s e =
    let z : length l ≤ length s = omega arith in
    sets_front l s (omega arith) ∙ rw (drop_of_length-le l z) (append-nil s)

-- ---- whether a line is a frame

pub size_plain : (y : Layout) (s : List ℕ) → y.named ≡ false → tail_size y s ≡ 0
unfolding tail_size
size_plain y s e = rw e

pub size_named : (y : Layout) (s : List ℕ) → y.named ≡ true → tail_size y s ≡ 1 + get_or s (head_size y) 0
unfolding tail_size
size_named y s e = rw e

module _ (y : Layout) (l : List ℕ) where
  pub frame_damaged : well_formed l ≡ false → is_frame y l ≡ false
  unfolding is_frame
  frame_damaged e = rw e

  pub frame_other : (get_or (bytes_of l) 0 0 ≡ y.kind → ⊥) → is_frame y l ≡ false
  unfolding is_frame laid_out
  frame_other n = rw (ne_eqb _ _ n) (and-false (well_formed l))

  pub frame_short : length l / 2 < head_size y + tail_size y (bytes_of l) → is_frame y l ≡ false
  unfolding is_frame laid_out
  frame_short h =
      let n = length_bytes l in
      let e : eqb (length (bytes_of l)) (head_size y + tail_size y (bytes_of l)) ≡ false =
      ne_eqb _ _ (λ (q : length (bytes_of l) ≡ head_size y + tail_size y (bytes_of l)). omega arith)
      in
      rw (e, and-false (eqb (get_or (bytes_of l) 0 0) y.kind)) (and-false (well_formed l))

  pub frame_sized : well_formed l ≡ true → get_or (bytes_of l) 0 0 ≡ y.kind → is_frame y l ≡ eqb (length l / 2) (head_size y + tail_size y (bytes_of l))
  unfolding is_frame laid_out
  frame_sized e k = rw (e, eq-eqb _ _ k, length_bytes)

  pub frame_plain : well_formed l ≡ true → get_or (bytes_of l) 0 0 ≡ y.kind → y.named ≡ false → is_frame y l ≡ eqb (length l / 2) (head_size y)
  frame_plain e k n = frame_sized e k ∙ rw (size_plain y (bytes_of l) n, add-zero)

  -- ---- what a frame has

  pub frame_well_formed : is_frame y l ≡ true → well_formed l ≡ true
  unfolding is_frame
  frame_well_formed e = and_left _ _ e

  pub frame_kind : is_frame y l ≡ true → get_or (bytes_of l) 0 0 ≡ y.kind
  unfolding is_frame laid_out
  frame_kind e = eqb-true _ _ (and_left _ _ (and_right (well_formed l) _ e))

  pub frame_length : is_frame y l ≡ true → length (bytes_of l) ≡ head_size y + tail_size y (bytes_of l)
  unfolding is_frame laid_out
  frame_length e = eqb-true _ _ (and_right (eqb (get_or (bytes_of l) 0 0) y.kind) _ (and_right (well_formed l) _ e))

  -- the line is long enough for the head
  pub frame_head : is_frame y l ≡ true → 2 * head_size y ≤ length l
  frame_head e =
      let n = frame_length e in
      let m = well_formed_length l (frame_well_formed e) in
      omega arith

  pub name_plain : y.named ≡ false → name_in y l ≡ []
  unfolding name_in
  name_plain e = rw e

  pub name_named : y.named ≡ true → name_in y l ≡ drop (head_size y + 1) (bytes_of l)
  unfolding name_in
  name_named e = rw e

  -- the name is what the line has beyond its head and the length byte
  pub length_name : is_frame y l ≡ true → y.named ≡ true → length (name_in y l) + 1 + head_size y ≡ length l / 2
  length_name e n =
      let m = frame_length e in
      let k = size_named y (bytes_of l) n in
      let b = length_bytes l in
      rw (name_named n, length-drop) (omega arith)

-- ---- reading

module _ (y : Layout) (l : List ℕ) (room : ℕ) where
  pub read_malformed : is_frame y l ≡ false → read_of y l room ≡ refused_with y 11
  unfolding read_of
  read_malformed e = rw e

  pub read_long : is_frame y l ≡ true → room < length (name_in y l) → read_of y l room ≡ refused_with y 8
  unfolding read_of
  read_long e h = rw (e, lt-leb _ _ h)

  pub read_good : is_frame y l ≡ true → length (name_in y l) ≤ room → read_of y l room ≡ accepted_as y l
  unfolding read_of
  read_good e h = rw (e, le-leb _ _ h)

  -- a reading is accepted, where the line is a frame whose name fits, or refused with 8 or with 11
  pub read_cases : (P : Reading → Type 0) → (is_frame y l ≡ true → length (name_in y l) ≤ room → P (accepted_as y l))
      → (is_frame y l ≡ true → room < length (name_in y l) → P (refused_with y 8))
      → (is_frame y l ≡ false → P (refused_with y 11))
      → P (read_of y l room)
  unfolding read_of
  read_cases P good long malformed = by_test (is_frame y l) (leb (length (name_in y l)) room) refl refl
    where
      by_test : (f t : Bool) → is_frame y l ≡ f → leb (length (name_in y l)) room ≡ t
          → P (cond f (cond t (accepted_as y l) (refused_with y 8)) (refused_with y 11))
      by_test true true p q = good p (leb-true _ _ q)
      by_test true false p q = long p (leb-false _ _ q)
      by_test false t p q = malformed p

  pub read_zero : (read_of y l room).number ≡ 0 → (is_frame y l ≡ true) × (length (name_in y l) ≤ room)
  read_zero =
      read_cases (λ r. r.number ≡ 0 → (is_frame y l ≡ true) × (length (name_in y l) ≤ room)) (λ e h z. (e, h)) (λ e h z. absurd (omega arith))
      (λ e z. absurd (omega arith))

  -- every reading has as many fields as the layout has widths
  pub length_read : length (read_of y l room).fields ≡ length y.widths
  unfolding fields_in
  length_read =
      read_cases (λ r. length r.fields ≡ length y.widths) (λ e h. length_fields y.widths (drop 1 (bytes_of l)))
      (λ e h. length-replicate (length y.widths) 0)
      (λ e. length-replicate (length y.widths) 0)

  -- and each fits its width, refused or not
  pub field_below : (r : Reading) → r ≡ read_of y l room → (k : ℕ) → get_or r.fields k 0 < 256 ^ get_or y.widths k 0
  unfolding fields_in
  field_below r q k =
      let n : ℕ = length y.widths in
      let t : List ℕ = drop 1 (bytes_of l) in
      rw q
      (read_cases (λ r. get_or r.fields k 0 < 256 ^ get_or y.widths k 0)
      (λ e h.
      fit_at y.widths (fields_of y.widths t) (fields_fit y.widths t (drop_bytes 1 (bytes_of l) (well_formed_bytes l (frame_well_formed y l e)))) k)
      (λ e h. zeros_below n k (get_or y.widths k 0))
      (λ e. zeros_below n k (get_or y.widths k 0)))

  -- of a layout without a name a reading has no length, and one that is refused is refused with 11
  pub plain_len : y.named ≡ false → (read_of y l room).len ≡ 0
  plain_len p = read_cases (λ r. r.len ≡ 0) (λ e h. ap length (name_plain y l p)) (λ e h. refl) (λ e. refl)

  pub plain_eleven : y.named ≡ false → ((read_of y l room).number ≡ 0 → ⊥) → read_of y l room ≡ refused_with y 11
  plain_eleven p =
      let n = ap length (name_plain y l p) in
      read_cases (λ r. (r.number ≡ 0 → ⊥) → r ≡ refused_with y 11) (λ e h q. absurd (q refl)) (λ e h q. absurd (omega arith)) (λ e q. refl)

module _ (y : Layout) (l buffer : List ℕ) where
  pub buffer_good : (read_of y l (length buffer)).number ≡ 0 → buffer_of y l buffer ≡ name_in y l ++ drop (length (name_in y l)) buffer
  unfolding buffer_of
  buffer_good z = rw (eq-eqb _ _ z)

  -- a refused reading leaves the buffer as it was
  pub buffer_kept : ((read_of y l (length buffer)).number ≡ 0 → ⊥) → buffer_of y l buffer ≡ buffer
  unfolding buffer_of
  buffer_kept n = rw (ne_eqb _ _ n)

  -- copying the bytes after the length byte to the start of the buffer leaves just what it should
  pub name_copied : (read_of y l (length buffer)).number ≡ 0 → y.named ≡ true
      → sets buffer 0 (take (length (name_in y l)) (drop (head_size y + 1) (bytes_of l))) ≡ buffer_of y l buffer
  name_copied z n =
      rw (← name_named y l n, take-length (name_in y l))
      (sets_front buffer (name_in y l) (read_zero y l (length buffer) z).1 ∙ sym (buffer_good z))

-- ---- writing

pub length_name_bytes : (named : Bool) (name : List ℕ) → length (name_bytes named name) ≡ cond named (1 + length name) 0
unfolding name_bytes
length_name_bytes true name = omega arith
length_name_bytes false name = refl

module _ (y : Layout) (f name : List ℕ) where
  pub length_line : length (line_of y f name) ≡ 2 * (head_size y + cond y.named (1 + length name) 0) + 1
  unfolding line_of hex_line head_size
  length_line =
      let b : List ℕ = field_bytes y.widths f in
      let n : List ℕ = name_bytes y.named name in
      let p = length_hex (y.kind ∷ (b ++ n)) in
      let q = length-append b n in
      let r = length_field_bytes y.widths f in
      let t = length_name_bytes y.named name in
      rw length-append (omega arith)

  -- the kind, the fields and the name, put one after the other, and the line feed after them, are the line
  pub line_put : (out : List ℕ)
      → set
      (sets (sets (sets out 0 (hex_of (y.kind ∷ []))) 2 (hex_of (field_bytes y.widths f))) (2 * head_size y) (hex_of (name_bytes y.named name)))
      (2 * (head_size y + cond y.named (1 + length name) 0))
      10
      ≡ sets out 0 (line_of y f name)
  unfolding line_of hex_line head_size
  line_put out =
      let k : List ℕ = y.kind ∷ [] in
      let b : List ℕ = field_bytes y.widths f in
      let n : List ℕ = name_bytes y.named name in
      let r = length_field_bytes y.widths f in
      let t = length_name_bytes y.named name in
      let p : 2 * (1 + sum_of y.widths) ≡ 0 + 2 * length (k ++ b) = omega arith in
      let z : length (hex_of ((k ++ b) ++ n)) ≡ 2 * (1 + sum_of y.widths + cond y.named (1 + length name) 0) =
      let h = length_hex ((k ++ b) ++ n) in
      let q = length-append b n in
      omega arith
      in
      rw (sets_hex out 0 k b, p, sets_hex out 0 (k ++ b) n) (sets_snoc out (hex_of ((k ++ b) ++ n)) _ 10 z)

  module _ (room : ℕ) where
    pub written_long : longest_name < length name → written_of y f name room ≡ record { number = 2; len = 0 }
    unfolding written_of
    written_long h = rw (lt-ltb _ _ h)

    pub written_full : length name ≤ longest_name → room < length (line_of y f name) → written_of y f name room ≡ record { number = 8; len = 0 }
    unfolding written_of
    written_full h r = rw (le-ltb _ _ h, lt-leb _ _ r)

    pub written_good : length name ≤ longest_name → length (line_of y f name) ≤ room → written_of y f name room ≡ record { number = 0; len = length (line_of y f name) }
    unfolding written_of
    written_good h r = rw (le-ltb _ _ h, le-leb _ _ r)

  module _ (out : List ℕ) where
    pub out_good : length name ≤ longest_name → length (line_of y f name) ≤ length out → out_of y f name out ≡ sets out 0 (line_of y f name)
    unfolding out_of
    out_good h r = rw (written_good (length out) h r) (sym (sets_front out (line_of y f name) r))

    -- a refused writing leaves the buffer as it was
    pub out_kept : ((written_of y f name (length out)).number ≡ 0 → ⊥) → out_of y f name out ≡ out
    unfolding out_of
    out_kept n = rw (ne_eqb _ _ n)
