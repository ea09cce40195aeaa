-- A layout in the code has one number of widths, of which the last may be 0 and stand for no field. These laws take its readings to those
-- of the layout without them. Cited by the proofs of the five readers in `frames`.
-- Assumes nothing.
use mathlib.Core.Path.{◌≡◌, refl, sym, ap, ◌∙◌}
use mathlib.Core.Bool.{Bool, true, false, cond}
use mathlib.Core.List.{List, [], ◌∷◌, ◌++◌}
use Prim.Native.Nat.{ℕ, zero, suc, ◌+◌, ◌-◌}
use native.Mathlib.Omega.{arith}
use lib.ListN.{length, get_or, take, drop, replicate, length-append, length-replicate, replicate-append-replicate}
use lib.Dec.{leb}
use Rattle.laws.specs.Lists.{sum_of}
use Rattle.hex_digits.specs.Lines.{bytes_of}
use Rattle.hex_digits.specs.Numbers.{number_of}
use Rattle.fields.specs.declared.Layout.{Layout}
use Rattle.fields.specs.Layouts.{Reading}
use Rattle.fields.specs.Layouts.{head_size, tail_size, laid_out, is_frame, fields_of, fields_in, name_in, accepted_as, refused_with, read_of, buffer_of}
use Rattle.fields.proofs.Layouts.{most, length_read, plain_len, plain_eleven}

-- the layout with k widths of 0 more
abbrev pub wider : ℕ → Layout → Layout
wider k y = record { kind = y.kind; widths = y.widths ++ replicate k 0; named = y.named }

-- the layout as the code has it
abbrev pub coded : Layout → Layout
coded y = wider (most - length y.widths) y

-- the reading with k fields of 0 more
abbrev pub wider_reading : ℕ → Reading → Reading
wider_reading k r = record { number = r.number; fields = r.fields ++ replicate k 0; len = r.len }

-- ---- a width of 0 changes nothing

sum_wider : (k : ℕ) (ws : List ℕ) → sum_of (ws ++ replicate k 0) ≡ sum_of ws
unfolding sum_of
sum_wider zero [] = refl
sum_wider (suc k) [] = let h = sum_wider k [] in omega arith
sum_wider k (w ∷ ws) = let h = sum_wider k ws in omega arith

fields_wider : (k : ℕ) (ws s : List ℕ) → fields_of (ws ++ replicate k 0) s ≡ fields_of ws s ++ replicate k 0
unfolding fields_of number_of
fields_wider zero [] s = refl
fields_wider (suc k) [] s = ap (λ (l : List ℕ). 0 ∷ l) (fields_wider k [] s)
fields_wider k (w ∷ ws) s = ap (λ (l : List ℕ). number_of (take w s) ∷ l) (fields_wider k ws (drop w s))

module _ (k : ℕ) (y : Layout) where
  head_wider : head_size (wider k y) ≡ head_size y
  unfolding head_size
  head_wider = ap (λ (n : ℕ). 1 + n) (sum_wider k y.widths)

  refused_wider : (n : ℕ) → refused_with (wider k y) n ≡ wider_reading k (refused_with y n)
  refused_wider n = rw (length-append, length-replicate, replicate-append-replicate)

  module _ (l : List ℕ) where
    frame_wider : is_frame (wider k y) l ≡ is_frame y l
    unfolding is_frame laid_out tail_size
    frame_wider = rw head_wider

    name_wider : name_in (wider k y) l ≡ name_in y l
    unfolding name_in
    name_wider = rw head_wider

    read_wider : (room : ℕ) → read_of (wider k y) l room ≡ wider_reading k (read_of y l room)
    unfolding read_of fields_in
    read_wider room =
        rw (frame_wider, name_wider, refused_wider 8, refused_wider 11, fields_wider k y.widths (drop 1 (bytes_of l)))
        (by_test (is_frame y l) (leb (length (name_in y l)) room) (accepted_as y l) (refused_with y 8) (refused_with y 11))
      where
        by_test : (f t : Bool) (a b c : Reading)
            → cond f (cond t (wider_reading k a) (wider_reading k b)) (wider_reading k c) ≡ wider_reading k (cond f (cond t a b) c)
        by_test true true a b c = refl
        by_test true false a b c = refl
        by_test false t a b c = refl

    buffer_wider : (buffer : List ℕ) → buffer_of (wider k y) l buffer ≡ buffer_of y l buffer
    unfolding buffer_of
    buffer_wider buffer = rw (read_wider (length buffer), name_wider)

-- ---- what a reader takes out of a reading

-- the elements of the list from place i on, n of them
abbrev pub picked : ℕ → ℕ → List ℕ → List ℕ
picked i zero l = []
picked i (suc n) l = get_or l i 0 ∷ picked (suc i) n l

picked_tail : (i n x : ℕ) (l : List ℕ) → picked (suc i) n (x ∷ l) ≡ picked i n l
picked_tail i zero x l = refl
picked_tail i (suc n) x l = ap (λ (t : List ℕ). get_or l i 0 ∷ t) (picked_tail (suc i) n x l)

picked_front : (l m : List ℕ) → picked 0 (length l) (l ++ m) ≡ l
picked_front [] m = refl
picked_front (x ∷ l) m = ap (λ (t : List ℕ). x ∷ t) (picked_tail 0 (length l) x (l ++ m) ∙ picked_front l m)

-- the first n fields of a reading with k fields of 0 more are its own
own : (k n : ℕ) (q : Reading) → length q.fields ≡ n → record { number = q.number; fields = picked 0 n (q.fields ++ replicate k 0); len = q.len } ≡ q
own k n q e = rw (← e, picked_front q.fields (replicate k 0))

module _ (y : Layout) (l : List ℕ) where
  pub buffer_as : (buffer : List ℕ) → buffer_of (coded y) l buffer ≡ buffer_of y l buffer
  buffer_as = buffer_wider (most - length y.widths) y l

  module _ (room : ℕ) (r : Reading) (e : r ≡ read_of (coded y) l room) where
    -- the number, the layout's own fields and the length are the reading
    pub read_as : record { number = r.number; fields = picked 0 (length y.widths) r.fields; len = r.len } ≡ read_of y l room
    read_as =
        let k : ℕ = most - length y.widths in
        rw (e ∙ read_wider k y l room) (own k (length y.widths) (read_of y l room) (length_read y l room))

    -- so also of a layout without a name where the number is 0, and otherwise it is refused with 11
    pub plain_read : y.named ≡ false → r.number ≡ 0 → record { number = 0; fields = picked 0 (length y.widths) r.fields; len = 0 } ≡ read_of y l room
    plain_read p z =
        let n : r.len ≡ 0 = ap (λ (x : Reading). x.len) read_as ∙ plain_len y l room p in
        rw (z, n) at read_as

    pub plain_refused : y.named ≡ false → (r.number ≡ 0 → ⊥) → refused_with y 11 ≡ read_of y l room
    plain_refused p n = sym (plain_eleven y l room p (λ z. n (ap (λ (x : Reading). x.number) read_as ∙ z)))
