-- Texts and the lines of frames in a lent buffer: what fits and what does not, and one line put into its place among others.
-- Cited by the crates that write lines. Assumes nothing.
use mathlib.Core.Path.{◌≡◌, refl, sym, ap, ap₂, ◌∙◌}
use mathlib.Core.Bool.{Bool, true, false, cond}
use mathlib.Core.List.{List, [], ◌∷◌, ◌++◌, append-nil, append_assoc}
use Prim.Native.Nat.{ℕ, zero, suc, ◌+◌, ◌-◌, ◌*◌, ◌/◌, ◌%◌, ◌≤◌, ◌<◌}
use native.Mathlib.Omega.{arith}
use lib.ListN.{length, get_or, take, drop, length-append, length-drop, drop_of_length-le}
use lib.Seq.{drop-drop, take_at, drop_at, length-take-le}
use lib.Dec.{eqb, leb}
use borrow.Author.Tests.{le-leb, lt-leb, leb-true}
use borrow.Rule.Slice.PartMut.{put_mid}
use Rattle.lines.specs.Lines.{line_feed}
use Rattle.lines.proofs.Cut.{NoFeed, Line}
use Rattle.hex_digits.specs.Lines.{digits, digit_of, hex_of, hex_line}
use Rattle.fields.specs.Layouts.{field_bytes, name_bytes, line_of, written_of, out_of}
use Rattle.fields.specs.Fitted.{fitting_of, fitted_of}
use Rattle.fields.specs.Layouts.{Written}
use Rattle.fields.specs.declared.Layout.{Layout}

-- ---- texts that fit, and texts that don't

pub fitting_none : (text : List ℕ) (room : ℕ) → room < length text → record { number = 8; len = 0 } ≡ fitting_of text room
unfolding fitting_of
fitting_none text room h = rw (lt-leb (length text) room h)

pub fitted_none : (text out : List ℕ) → length out < length text → out ≡ fitted_of text out
unfolding fitted_of
fitted_none text out h = rw (lt-leb (length text) (length out) h)

pub fitting_all : (text : List ℕ) (room n : ℕ) → length text ≡ n → n ≤ room → record { number = 0; len = n } ≡ fitting_of text room
unfolding fitting_of
fitting_all text room n e h = rw (le-leb (length text) room (omega arith)) (ap (λ (k : ℕ). record { number = 0; len = k }) (sym e))

pub fitted_all : (text out : List ℕ) (n : ℕ) → length text ≡ n → n ≤ length out → text ++ drop n out ≡ fitted_of text out
unfolding fitted_of
fitted_all text out n e h = rw (le-leb (length text) (length out) (omega arith)) (ap (λ (k : ℕ). text ++ drop k out) (sym e))

-- in a buffer that has the room
pub fitting_whole : (text : List ℕ) (room : ℕ) → length text ≤ room → fitting_of text room ≡ record { number = 0; len = length text }
fitting_whole text room h = sym (fitting_all text room (length text) refl h)

pub fitted_whole : (text out : List ℕ) → length text ≤ length out → take (length text) (fitted_of text out) ≡ text
fitted_whole text out h = ap (take (length text)) (sym (fitted_all text out (length text) refl h)) ∙ take_at text (drop (length text) out) (length text) refl

-- what was written lies within the buffer
pub fitting_within : (text : List ℕ) (room : ℕ) → (fitting_of text room).len ≤ room
unfolding fitting_of
fitting_within text room = by_room (leb (length text) room) refl
  where
    written : Bool → Written
    written b = cond b (record { number = 0; len = length text }) (record { number = 8; len = 0 })

    by_room : (b : Bool) → leb (length text) room ≡ b → (written b).len ≤ room
    by_room true e = leb-true (length text) room e
    by_room false e = omega arith

pub length_fitted : (text out : List ℕ) → length (fitted_of text out) ≡ length out
unfolding fitted_of
length_fitted text out = by_room (leb (length text) (length out)) refl
  where
    by_room : (b : Bool) → leb (length text) (length out) ≡ b → length (cond b (text ++ drop (length text) out) out) ≡ length out
    by_room true e =
        let h = leb-true (length text) (length out) e in
        let a = length-append text (drop (length text) out) in
        let b = length-drop (length text) out in
        omega arith
    by_room false e = refl

-- ---- a frame without a name

-- its writer answers and leaves what its line does
pub written_plain : (y : Layout) (f : List ℕ) (room : ℕ) → written_of y f [] room ≡ fitting_of (line_of y f []) room
unfolding written_of fitting_of
written_plain y f room = refl

pub out_plain : (y : Layout) (f out : List ℕ) → out_of y f [] out ≡ fitted_of (line_of y f []) out
unfolding out_of written_of fitted_of
out_plain y f out = by_room (leb (length (line_of y f [])) (length out))
  where
    written : Bool → Written
    written b = cond b (record { number = 0; len = length (line_of y f []) }) (record { number = 8; len = 0 })

    by_room : (b : Bool) → cond (eqb (written b).number 0) (line_of y f [] ++ drop (length (line_of y f [])) out) out
        ≡ cond b (line_of y f [] ++ drop (length (line_of y f [])) out) out
    by_room true = refl
    by_room false = refl

-- and fills a part that is just as long
pub out_exact : (y : Layout) (f out : List ℕ) → length (line_of y f []) ≡ length out → out_of y f [] out ≡ line_of y f []
out_exact y f out e =
    out_plain y f out
    ∙ sym (fitted_all (line_of y f []) out (length out) e (omega arith))
    ∙ ap (λ (t : List ℕ). line_of y f [] ++ t) (drop_of_length-le out {i = length out} (omega arith))
    ∙ append-nil (line_of y f [])

-- ---- a line in its place

put_line : (w at k : ℕ) (xs part line : List ℕ) → k ≡ w → part ≡ line → put_mid at k xs part ≡ take at xs ++ (line ++ drop (at + w) xs)
put_line w at k xs part line e p =
    ap₂ (λ (t : List ℕ) (n : ℕ). take at xs ++ (t ++ drop n (drop at xs))) p e
    ∙ ap (λ (t : List ℕ). take at xs ++ (line ++ t)) (drop-drop w at xs)

-- the writer of a part, handed place k of places that are w bytes each, where what it writes there is the line
pub put_at_lem : (w k : ℕ) (xs part line : List ℕ) (written : List ℕ → List ℕ) → w * k + w ≤ length xs → part ≡ written (take ((w * k + w) - w * k) (drop (w * k) xs))
    → ((room : List ℕ) → length room ≡ w → written room ≡ line) → put_mid (w * k) ((w * k + w) - w * k) xs part ≡ take (w * k) xs ++ (line ++ drop (w * k + w) xs)
put_at_lem w k xs part line written h e f =
    let n : (w * k + w) - w * k ≡ w = omega arith in
    let d = length-drop (w * k) xs in
    let l = length-take-le ((w * k + w) - w * k) (drop (w * k) xs) (omega arith) in
    put_line w (w * k) ((w * k + w) - w * k) xs part line n (e ∙ f (take ((w * k + w) - w * k) (drop (w * k) xs)) (l ∙ n))

-- after a text that fills the front
pub put_behind : (text out part line : List ℕ) (n k w : ℕ) → length text ≡ n → k ≡ w → part ≡ line
    → put_mid n k (text ++ drop n out) part ≡ (text ++ line) ++ drop (n + w) out
put_behind text out part line n k w l e p =
    ap₂ (λ (t : List ℕ) (m : ℕ). take n (text ++ drop n out) ++ (t ++ drop m (drop n (text ++ drop n out)))) p e
    ∙ ap₂ (λ (x y : List ℕ). x ++ (line ++ drop w y)) (take_at text (drop n out) n l) (drop_at text (drop n out) n l)
    ∙ ap (λ (y : List ℕ). text ++ (line ++ y)) (drop-drop w n out)
    ∙ sym (append_assoc text line (drop (n + w) out))

-- ---- the line of a frame is one line: a line feed stands at its end alone

digit_no_feed : (n : ℕ) → digit_of n ≡ line_feed → ⊥
unfolding digit_of
digit_no_feed n e = none digits (tt_all) n e
  where
    above : List ℕ → Type 0
    above [] = Unit {0}
    above (b ∷ l) = (10 < b) × above l

    tt_all : above digits
    tt_all = (omega arith, (omega arith, (omega arith, (omega arith, (omega arith, (omega arith, (omega arith, (omega arith, (omega arith, (omega arith, (omega arith, (omega arith, (omega arith, (omega arith, (omega arith, (omega arith, tt))))))))))))))))

    none : (l : List ℕ) → above l → (n : ℕ) → get_or l n 0 ≡ 10 → ⊥
    none [] a n e = omega arith
    none (b ∷ l) a zero e = let h = a.0 in omega arith
    none (b ∷ l) a (suc n) e = none l a.1 n e

hex_no_feed : (s : List ℕ) → NoFeed (hex_of s)
unfolding hex_of
hex_no_feed [] = tt
hex_no_feed (b ∷ s) = (digit_no_feed (b / 16), (digit_no_feed (b % 16), hex_no_feed s))

pub one_line : (y : Layout) (f : List ℕ) → Line (line_of y f [])
unfolding line_of hex_line
one_line y f =
    record {
      text = hex_of (y.kind ∷ (field_bytes y.widths f ++ name_bytes y.named []));
      plain = hex_no_feed (y.kind ∷ (field_bytes y.widths f ++ name_bytes y.named []));
      ended = refl;
    }
