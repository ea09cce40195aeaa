-- Laws of rows as cells: rows are put into cells one after the other, and read back. Cited by the proofs of `put_cells` and `find_rows`.
-- Assumes nothing.
use mathlib.Core.Path.{◌≡◌, refl, sym, ap, ◌∙◌}
use mathlib.Core.List.{List, [], ◌∷◌, ◌++◌}
use Prim.Native.Nat.{ℕ, zero, suc, ◌+◌, ◌*◌, ◌≤◌, ◌<◌}
use native.Mathlib.Numerals.{add-one}
use native.Mathlib.Omega.{arith}
use lib.ListN.{length, get_or, drop, set, length-append, length-drop}
use lib.Seq.{sets, sets-eq, take_at, drop-append-add, drop-drop, get_or-append-add}
use Rattle.laws.specs.Lists.{tabulate}
use Rattle.laws.proofs.Lists.{length_tabulate}
use Rattle.laws.proofs.Images.{tabulate_of}
use Rattle.search.specs.Answers.{rows_in, over, Answer}
use Rattle.rows.specs.declared.Row.{Row}
use Rattle.rows.specs.Rows.{row_cells, cells_in, cells_of, row_in, Filled}
use Rattle.rows.proofs.Lists.{no_row}

-- ---- the cells of rows

length_cells : (l : List Row) → length (cells_of l) ≡ row_cells * length l
unfolding cells_of
length_cells [] = refl
length_cells (r ∷ l) = let h = length_cells l in omega arith

cells_snoc : (l : List Row) (r : Row) → cells_of (l ++ (r ∷ [])) ≡ cells_of l ++ cells_in r
unfolding cells_of
cells_snoc [] r = refl
cells_snoc (x ∷ l) r = ap (λ (t : List ℕ). cells_in x ++ t) (cells_snoc l r)

-- ---- rows put into cells, one after the other

-- the cells of the first k rows over the list s
abbrev pub cells_over : (ℕ → Row) → ℕ → List ℕ → List ℕ
cells_over f k s = over (cells_of (tabulate f k)) s

length_rows : (f : ℕ → Row) (k : ℕ) → length (cells_of (tabulate f k)) ≡ row_cells * k
length_rows f k = length_cells (tabulate f k) ∙ ap (λ (n : ℕ). row_cells * n) (length_tabulate f k)

pub cells_over_nil : (f : ℕ → Row) (s : List ℕ) → s ≡ cells_over f 0 s
unfolding tabulate cells_of
cells_over_nil f s = refl

-- a run of stores behind what is given
over_sets : (p v s : List ℕ) (at : ℕ) → length p ≡ at → at + length v ≤ length s → sets (over p s) at v ≡ over (p ++ v) s
over_sets p v s at e h =
    let a = length-append p (drop (length p) s) in
    let b = length-drop (length p) s in
    let c : length p + length v ≡ length (p ++ v) = sym (length-append p v) in
    sets-eq v (over p s) at (let g : at + length v ≤ length (over p s) = omega arith in g)
    ∙ ap (λ (t : List ℕ). t ++ v ++ drop (at + length v) (over p s)) (take_at p (drop (length p) s) at e)
    ∙ ap (λ (t : List ℕ). p ++ v ++ t)
    (ap (λ (n : ℕ). drop (n + length v) (over p s)) (sym e) ∙ drop-append-add p (drop (length p) s) (length v) ∙ drop-drop (length v) (length p) s ∙ ap (λ (n : ℕ). drop n s) c)

-- row k put in, cell by cell
pub cells_over_step : (f : ℕ → Row) (k : ℕ) (l s : List ℕ) → l ≡ cells_over f k s → row_cells * k + row_cells ≤ length s
    → set (set (set (set l (row_cells * k) (f k).id) (row_cells * k + 1) (f k).shared) (row_cells * k + 2) (f k).size) (row_cells * k + 3) (f k).least ≡ cells_over f (k + 1) s
unfolding tabulate
cells_over_step f k l s e h =
    let p : row_cells * k + 1 ≡ suc (row_cells * k) = omega arith in
    let q : row_cells * k + 2 ≡ suc (suc (row_cells * k)) = omega arith in
    let r : row_cells * k + 3 ≡ suc (suc (suc (row_cells * k))) = omega arith in
    (λ t. set (set (set (set (e t) (row_cells * k) (f k).id) (p t) (f k).shared) (q t) (f k).size) (r t) (f k).least)
    ∙ over_sets (cells_of (tabulate f k)) (cells_in (f k)) s (row_cells * k) (length_rows f k) h
    ∙ ap (λ (t : List ℕ). over t s) (sym (cells_snoc (tabulate f k) (f k)))
    ∙ ap (λ (n : ℕ). cells_over f n s) (sym (add-one k))

-- ---- rows read back

-- a cell behind the first row's
cell_behind : (r : Row) (t : List ℕ) (i j : ℕ) → i ≡ row_cells + j → get_or (cells_in r ++ t) i 0 ≡ get_or t j 0
cell_behind r t i j e = ap (λ (n : ℕ). get_or (cells_in r ++ t) n 0) e ∙ get_or-append-add (cells_in r) t j 0

row_in_cells : (l : List Row) (rest : List ℕ) (k : ℕ) → k < length l → row_in (cells_of l ++ rest) k ≡ get_or l k no_row
unfolding cells_of
row_in_cells [] rest k h = absurd (let n : ⊥ = omega arith in n)
row_in_cells (r ∷ l) rest zero h = refl
row_in_cells (r ∷ l) rest (suc k) h =
    let t = cells_of l ++ rest in
    let at = row_cells * k in
    let next = row_cells * suc k in
    let e : next ≡ row_cells + at = omega arith in
    let e₁ : next + 1 ≡ row_cells + (at + 1) = omega arith in
    let e₂ : next + 2 ≡ row_cells + (at + 2) = omega arith in
    let e₃ : next + 3 ≡ row_cells + (at + 3) = omega arith in
    (λ i. record {
      id = cell_behind r t next at e i;
      shared = cell_behind r t (next + 1) (at + 1) e₁ i;
      size = cell_behind r t (next + 2) (at + 2) e₂ i;
      least = cell_behind r t (next + 3) (at + 3) e₃ i;
    })
    ∙ row_in_cells l rest k (let g : k < length l = omega arith in g)

-- the rows of the cells are the rows that were put in
pub rows_of_cells : (f : ℕ → Row) (n : ℕ) (s : List ℕ) → tabulate (row_in (cells_over f n s)) n ≡ tabulate f n
rows_of_cells f n s =
    sym (tabulate_of (row_in (cells_over f n s)) n no_row (tabulate f n) (length_tabulate f n)
    (λ k h. sym (row_in_cells (tabulate f n) (drop (length (cells_of (tabulate f n))) s) k (let e = length_tabulate f n in let g : k < length (tabulate f n) = omega arith in g))))

-- what is filled stays so as its rows are put into cells
pub filled_cells : {query : List ℕ} {m p q allowance : ℕ} {w : List ℕ} {room : ℕ} {r : Answer} {row : ℕ → Row} (n : ℕ) (cells s : List ℕ)
    → Filled query m p q allowance w room r row → n ≡ rows_in r → cells ≡ cells_over row n s → Filled query m p q allowance w room r (row_in cells)
filled_cells {r = r} {row = row} n cells s f count e = record {
  answer = f.answer;
  rows = (λ t. tabulate (row_in (e t)) (rows_in r)) ∙ ap (λ (k : ℕ). tabulate (row_in (cells_over row k s)) (rows_in r)) count ∙ rows_of_cells row (rows_in r) s ∙ f.rows;
  few = f.few;
  within = f.within;
}
