-- Laws of a lent list of rows after a search: its length, its given rows, what stood after them, and that their fields are the columns of `search`.
-- For callers of `search_rows`. Assumes nothing.
use mathlib.Core.Path.{◌≡◌, refl, sym, ap, ◌∙◌}
use mathlib.Core.List.{List, [], ◌∷◌, ◌++◌, map, map-append}
use Prim.Native.Nat.{ℕ, zero, suc, ◌+◌, ◌-◌, ◌≤◌, ◌<◌}
use native.Mathlib.Omega.{arith}
use lib.ListN.{length, get_or, drop, length-append, length-drop, length-map, get_or-append}
use lib.Seq.{get_or-drop, get_or-append-add}
use Rattle.names.specs.Features.{features_of}
use Rattle.words.specs.Words.{name_id, name_size}
use Rattle.sizes.specs.Method.{shared_with, answers_of}
use Rattle.search.specs.Answers.{number_in, search_of, Columns, least_for, columns_of, over, columns_over}
use Rattle.search.proofs.Outcomes.{refused_gives}
use Rattle.rows.specs.declared.Row.{Row}
use Rattle.rows.specs.Rows.{row_of, records_of, over_rows, rows_after, columns_in}

-- the list is as long as it was
pub length_over_rows : (given l : List Row) → length given ≤ length l → length (over_rows given l) ≡ length l
length_over_rows given l h =
    let a = length-append given (drop (length given) l) in
    let b = length-drop (length given) l in
    omega arith

-- a given row stands at its place
pub row_given : (given l : List Row) (k : ℕ) (d : Row) → k < length given → get_or (over_rows given l) k d ≡ get_or given k d
row_given given l k d h = get_or-append given (drop (length given) l) d k h

-- a row after the given ones keeps its contents
pub row_kept : (given l : List Row) (k : ℕ) (d : Row) → length given ≤ k → get_or (over_rows given l) k d ≡ get_or l k d
row_kept given l k d h =
    let e : length given + (k - length given) ≡ k = omega arith in
    ap (λ (i : ℕ). get_or (over_rows given l) i d) (sym e)
    ∙ get_or-append-add given (drop (length given) l) (k - length given) d
    ∙ get_or-drop (length given) l (k - length given) d
    ∙ ap (λ (i : ℕ). get_or l i d) e

-- a refusal writes no row
pub rows_refused : (query : List ℕ) (m p q allowance : ℕ) (w : List ℕ) (l : List Row) → (number_in (search_of query m p q allowance w (length l)) ≡ 0 → ⊥)
    → rows_after query m p q allowance w l ≡ l
rows_refused query m p q allowance w l n =
    ap (λ (places : List ℕ). over_rows (records_of w m p q (features_of query) places) l) (refused_gives (search_of query m p q allowance w (length l)) (answers_of w m p q (features_of query)) n)

-- the records' fields are the columns
fields : (f : Row → ℕ) (g : ℕ → ℕ) (row : ℕ → Row) → ((i : ℕ) → f (row i) ≡ g i) → (places : List ℕ) → map f (map row places) ≡ map g places
fields f g row e [] = refl
fields f g row e (i ∷ places) = λ t. e i t ∷ fields f g row e places t

pub rows_columns : (w : List ℕ) (m p q : ℕ) (query places : List ℕ) → columns_in (records_of w m p q query places) ≡ columns_of w m p q query places
rows_columns w m p q query places = λ t. record {
  ids = fields (λ r. r.id) (name_id w) (row_of w m p q query) (λ i. refl) places t;
  shared = fields (λ r. r.shared) (shared_with w query) (row_of w m p q query) (λ i. refl) places t;
  sizes = fields (λ r. r.size) (name_size w) (row_of w m p q query) (λ i. refl) places t;
  least = fields (λ r. r.least) (least_for w m p q query) (row_of w m p q query) (λ i. refl) places t;
}

-- ---- the rows over a lent list

map_drop : (f : Row → ℕ) (n : ℕ) (l : List Row) → map f (drop n l) ≡ drop n (map f l)
map_drop f zero l = refl
map_drop f (suc n) [] = refl
map_drop f (suc n) (r ∷ l) = map_drop f n l

-- the fields of the list afterwards are those given over the fields that it had
over_fields : (f : Row → ℕ) (given l : List Row) → map f (over_rows given l) ≡ over (map f given) (map f l)
over_fields f given l =
    map-append f given (drop (length given) l)
    ∙ ap (λ (t : List ℕ). map f given ++ t) (map_drop f (length given) l ∙ ap (λ (n : ℕ). drop n (map f l)) (sym (length-map given f)))

pub over_columns : (w : List ℕ) (m p q : ℕ) (query places : List ℕ) (l : List Row)
    → columns_in (over_rows (records_of w m p q query places) l) ≡ columns_over (columns_of w m p q query places) (columns_in l)
over_columns w m p q query places l =
    (λ t. record {
      ids = over_fields (λ r. r.id) (records_of w m p q query places) l t;
      shared = over_fields (λ r. r.shared) (records_of w m p q query places) l t;
      sizes = over_fields (λ r. r.size) (records_of w m p q query places) l t;
      least = over_fields (λ r. r.least) (records_of w m p q query places) l t;
    })
    ∙ ap (λ (c : Columns). columns_over c (columns_in l)) (rows_columns w m p q query places)
