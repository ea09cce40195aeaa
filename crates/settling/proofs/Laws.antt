-- One turn of `place_rows`, and what `settle` leaves, on plain lists.
-- Assumes nothing.
use mathlib.Core.Path.{◌≡◌, refl, sym, ap, ap₂, ◌∙◌}
use mathlib.Core.Bool.{cond, ◌&&◌}
use mathlib.Core.List.{List, [], ◌∷◌, ◌++◌, append_assoc}
use Prim.Native.Nat.{ℕ, suc, ◌+◌, ◌*◌, ◌-◌, ◌/◌, ◌%◌, ◌^◌, ◌≤◌, ◌<◌}
use native.Mathlib.Omega.{arith}
use borrow.Rule.Slice.PartMut.{put_mid}
use lib.ListN.{length, take, drop, set, replicate, length-append, length-set}
use lib.Seq.{get_or-append-add, drop-set-lt, length-take-le}
use lib.Dec.{eqb}
use Rattle.laws.specs.Lists.{member}
use Rattle.words.specs.Words.{head_width, name_count_at, row_count_at, posting_count_at, name_start, row_width, place_column, length_column, feature_span}
use Rattle.index_writer.specs.Built.{Row, lists_of}
use Rattle.index_writer.specs.Written.{blank, pad_to}
use Rattle.index_writer.proofs.Parts.{mid_end, length_mid}
use Rattle.changes.specs.Cuts.{RowsShort, of_features, placed_from, settled}
use Rattle.changes.proofs.Placed.{short_length}
use Rattle.settling.specs.Counts.{count_at}

-- ---- one row after others

row_count : (done more : List ℕ) (s f p c size : ℕ) (fs : List ℕ)
    → count_at (done ++ s ∷ f ∷ p ∷ c ∷ more) (length done) size fs ≡ c + cond (eqb s size && member f fs) 1 0
unfolding count_at
row_count done more s f p c size fs =
    let l : List ℕ = s ∷ f ∷ p ∷ c ∷ more in
    rw (get_or-append-add done l 3 0, get_or-append-add done l 0 0, get_or-append-add done l 1 0)

row_set : (done more : List ℕ) (s f p c place m : ℕ)
    → set (set (done ++ s ∷ f ∷ p ∷ c ∷ more) (length done + 2) place) (length done + 3) m ≡ done ++ s ∷ f ∷ place ∷ m ∷ more
row_set [] more s f p c place m = refl
row_set (x ∷ done) more s f p c place m =
    let a : suc (length done) + 2 ≡ suc (length done + 2) = omega arith in
    let b : suc (length done) + 3 ≡ suc (length done + 3) = omega arith in
    rw (a, b) (ap (λ (l : List ℕ). x ∷ l) (row_set done more s f p c place m))

-- ---- the rows' words while they are worked out

-- those that are done, those that are left with their rows, the place that is next, and what all of it comes to
pub record Placing (size : ℕ) (fs end rows : List ℕ) (place at : ℕ) : Type 0 where
  pub done : List ℕ
  pub left : List ℕ
  pub rest : List Row
  pub parts : rows ≡ done ++ left
  pub width : length done ≡ at
  pub short : RowsShort (of_features size fs) rest left
  pub fits : place + length (lists_of rest) < 2 ^ 32
  pub comes : done ++ placed_from (length rest) place size fs left ≡ end

-- what a turn needs, and what it leaves
abbrev pub Turn : ℕ → List ℕ → List ℕ → List ℕ → ℕ → ℕ → Type 0
Turn size fs end rows place at =
    (at + row_width ≤ length rows)
    × (place + count_at rows at size fs < 2 ^ 32)
    × Placing size fs end (set (set rows (at + place_column) place) (at + length_column) (count_at rows at size fs)) (place + count_at rows at size fs) (at + row_width)

-- what is to be left of them
abbrev pub all_placed : ℕ → List ℕ → List ℕ → List ℕ
all_placed size fs rows = placed_from (length rows / row_width) 0 size fs rows

module _ (size : ℕ) (fs : List ℕ) where
  pub placing_nil : (rs : List Row) (rows : List ℕ) → RowsShort (of_features size fs) rs rows → length (lists_of rs) < 2 ^ 32
      → Placing size fs (all_placed size fs rows) rows 0 0
  placing_nil rs rows h f =
      let n = short_length (of_features size fs) rs rows h in
      let e : length rs ≡ length rows / row_width = omega arith in
      record { done = []; left = rows; rest = rs; parts = refl; width = refl; short = h; fits = omega arith; comes = ap (λ (k : ℕ). placed_from k 0 size fs rows) e }

  -- a row more: it is whole, the place after its list fits, and its words are set
  pub placing_step : (end rows : List ℕ) (place at : ℕ) → Placing size fs end rows place at → at < length rows → Turn size fs end rows place at
  unfolding RowsShort lists_of placed_from
  placing_step end rows place at p b = by_rows p.done p.left p.rest p.parts p.width p.short p.fits p.comes
    where
      by_rows : (done left : List ℕ) (rest : List Row) → rows ≡ done ++ left → length done ≡ at → RowsShort (of_features size fs) rest left
          → place + length (lists_of rest) < 2 ^ 32 → done ++ placed_from (length rest) place size fs left ≡ end
          → Turn size fs end rows place at
      by_rows done left [] e w h f q = absurd (omega (arith, ap length e, length-append done left, ap length h))
      by_rows done left (r ∷ rs) e w h f q =
          let s = r.key / feature_span in
          let g = r.key % feature_span in
          let m = length r.list in
          let four : List ℕ = s ∷ g ∷ place ∷ m ∷ [] in
          let n = length-append r.list (lists_of rs) in
          rw (e, h.3, ← w, row_count done h.2 s g h.0 h.1 size fs, ← h.4, row_set done h.2 s g h.0 h.1 place m) (
            omega (arith, length-append done (s ∷ g ∷ h.0 ∷ h.1 ∷ h.2)),
            omega arith,
            record {
              done = done ++ four;
              left = h.2;
              rest = rs;
              parts = sym (append_assoc done four h.2);
              width = length-append done four;
              short = h.5;
              fits = omega arith;
              comes =
                  append_assoc done four (placed_from (length rs) (place + m) size fs h.2)
                  ∙ ap (λ (k : ℕ). done ++ s ∷ g ∷ place ∷ k ∷ placed_from (length rs) (place + k) size fs h.2) h.4
                  ∙ ap (λ (l : List ℕ). done ++ placed_from (suc (length rs)) place size fs l) (sym h.3)
                  ∙ q;
            },
          )

  pub placing_end : (end rows : List ℕ) (place at : ℕ) → Placing size fs end rows place at → length rows < at + row_width → rows ≡ end
  unfolding placed_from
  placing_end end rows place at p b =
      let w = p.width in
      let n = short_length (of_features size fs) p.rest p.left p.short in
      let z : length p.rest ≡ 0 = omega (arith, ap length p.parts, length-append p.done p.left) in
      p.parts ∙ ap (λ (k : ℕ). p.done ++ placed_from k place size fs p.left) (sym z) ∙ p.comes

-- ---- the whole

-- the words with the three head words set
abbrev pub headed : ℕ → ℕ → ℕ → List ℕ → List ℕ
headed n d p ws = set (set (set ws name_count_at n) row_count_at d) posting_count_at p

pub length_headed : (n d p : ℕ) (ws : List ℕ) → length (headed n d p ws) ≡ length ws
length_headed n d p ws = simp length-set

drop_headed : (n d p k : ℕ) (ws : List ℕ) → head_width ≤ k → drop k (headed n d p ws) ≡ drop k ws
drop_headed n d p k ws h =
    drop-set-lt k (set (set ws name_count_at n) row_count_at d) posting_count_at p (omega arith)
    ∙ drop-set-lt k (set ws name_count_at n) row_count_at d (omega arith)
    ∙ drop-set-lt k ws name_count_at n (omega arith)

-- the part of the words that `settle` hands on as the rows' words: how long it is, and what it is
abbrev pub rows_wide : ℕ → ℕ → ℕ
rows_wide n d = (name_start n + row_width * d) - name_start n

abbrev pub rows_part : ℕ → ℕ → List ℕ → List ℕ
rows_part n d ws = take (rows_wide n d) (drop (name_start n) ws)

module _ (n d size : ℕ) (fs ws : List ℕ) (rs : List Row) (short : RowsShort (of_features size fs) rs (take (row_width * d) (drop (name_start n) ws))) where
  wide : rows_wide n d ≡ row_width * d
  wide = omega arith

  -- whatever stands in the head
  pub part_short : (a b c : ℕ) → RowsShort (of_features size fs) rs (rows_part n d (headed a b c ws))
  part_short a b c = rw (wide, drop_headed a b c (name_start n) ws (omega arith)) short

  -- the part put back
  pub part_put : (p : ℕ) (rows : List ℕ) → length rs ≡ d
      → rows ≡ all_placed size fs (rows_part n d (headed n d p ws))
      → put_mid (name_start n) (rows_wide n d) (headed n d p ws) rows ≡ settled n d p size fs ws
  part_put p rows c e =
      let m = short_length (of_features size fs) rs (rows_part n d (headed n d p ws)) (part_short n d p) in
      let q : length (rows_part n d (headed n d p ws)) / row_width ≡ d = omega arith in
      let on : List ℕ = drop (name_start n) (headed n d p ws) in
      ap₂ (λ (l : List ℕ) (k : ℕ). take (name_start n) (headed n d p ws) ++ (l ++ drop k on))
      (e ∙ ap₂ (λ (j k : ℕ). placed_from j 0 size fs (take k on)) q wide)
      wide

-- blanks put from a place on
pub blanks_put : (room end m : ℕ) (ws blanks : List ℕ) → length ws ≡ room → end ≤ room → m ≡ length ws - end → blanks ≡ replicate (length (take m (drop end ws))) blank
    → put_mid end m ws blanks ≡ pad_to room (take end ws)
blanks_put room end m ws blanks w h e b =
    let t = length-take-le end ws (omega arith) in
    let k : length ws - end ≡ room - length (take end ws) = omega arith in
    mid_end end m ws blanks (omega arith)
    ∙ ap (λ (l : List ℕ). take end ws ++ l) (b ∙ ap (λ (j : ℕ). replicate j blank) (length_mid end m ws e ∙ k))
