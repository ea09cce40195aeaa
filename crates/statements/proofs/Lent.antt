-- What the demands take from a way to lend rows, and that columns and records have it: written rows are the columns of `search`, over what stood there.
-- Assumes nothing.
use mathlib.Core.Path.{◌≡◌, refl, sym, ap, ap₂, ◌∙◌}
use mathlib.Core.Bool.{true}
use mathlib.Core.List.{List, [], ◌∷◌, map}
use Prim.Native.Nat.{ℕ}
use lib.ListN.{length, drop, length-map}
use lib.Seq.{drop-append_seam}
use Rattle.laws.specs.Lists.{member}
use Rattle.laws.proofs.Members.{member_head, member_tail}
use Rattle.words.specs.Words.{name_id, name_size}
use Rattle.sizes.specs.Method.{shared_with}
use Rattle.search.specs.Answers.{over, least_for, columns_of, columns_over}
use Rattle.search.proofs.Listed.{over_beyond}
use Rattle.rows.specs.Rows.{row_of, records_of, over_rows}
use Rattle.rows.specs.declared.Row.{Row}
use Rattle.rows.proofs.Laws.{over_columns}
use Rattle.statements.specs.Demands.{Lending, columns, records}

pub record Lends {A : Type 0} (s : Lending A) : Type 0 where
  pub rows : (w : List ℕ) (m p q : ℕ) (query places : List ℕ) (l : A)
      → s.rows (s.written w m p q query places l) ≡ columns_over (columns_of w m p q query places) (s.rows l)
  pub behind : (w : List ℕ) (m p q : ℕ) (query places : List ℕ) (l : A)
      → s.behind (length places) (s.written w m p q query places l) ≡ s.behind (length places) l
  pub none : (w : List ℕ) (m p q : ℕ) (query : List ℕ) (l : A) → s.written w m p q query [] l ≡ l
  -- names with the same rows are written alike, from other words or at another threshold
  pub alike : (w v : List ℕ) (m p q p' q' : ℕ) (query places : List ℕ) (l : A)
      → ((i : ℕ) → member i places ≡ true → row_of w m p q query i ≡ row_of v m p' q' query i)
      → s.written w m p q query places l ≡ s.written v m p' q' query places l

map_members : {B : Type 0} (f g : ℕ → B) (l : List ℕ) → ((x : ℕ) → member x l ≡ true → f x ≡ g x) → map f l ≡ map g l
map_members f g [] e = refl
map_members {B} f g (x ∷ l) e = ap₂ (λ (y : B) (k : List B). y ∷ k) (e x (member_head x l)) (map_members f g l (λ y m. e y (member_tail x y l m)))

-- after as many entries as there are places
beyond : (f : ℕ → ℕ) (places l : List ℕ) → drop (length places) (over (map f places) l) ≡ drop (length places) l
beyond f places l =
    let n : length (map f places) ≡ length places = length-map places f in
    ap (λ (m : ℕ). drop m (over (map f places) l)) (sym n) ∙ over_beyond (map f places) l ∙ ap (λ (m : ℕ). drop m l) n

pub columns_lend : Lends columns
columns_lend =
    record {
      rows = λ w m p q query places l. refl;
      behind = λ w m p q query places l t.
          record {
            ids = beyond (name_id w) places l.ids t;
            shared = beyond (shared_with w query) places l.shared t;
            sizes = beyond (name_size w) places l.sizes t;
            least = beyond (least_for w m p q query) places l.least t;
          };
      none = λ w m p q query l. refl;
      alike = λ w v m p q p' q' query places l e t.
          record {
            ids = over (map_members (name_id w) (name_id v) places (λ i m. ap (λ (r : Row). r.id) (e i m)) t) l.ids;
            shared = over (map_members (shared_with w query) (shared_with v query) places (λ i m. ap (λ (r : Row). r.shared) (e i m)) t) l.shared;
            sizes = over (map_members (name_size w) (name_size v) places (λ i m. ap (λ (r : Row). r.size) (e i m)) t) l.sizes;
            least = over (map_members (least_for w m p q query) (least_for v m p' q' query) places (λ i m. ap (λ (r : Row). r.least) (e i m)) t) l.least;
          };
    }

pub records_lend : Lends records
records_lend =
    record {
      rows = over_columns;
      behind = λ w m p q query places l.
          let n : length (records_of w m p q query places) ≡ length places = length-map places (row_of w m p q query) in
          ap (λ (k : ℕ). drop k (records.written w m p q query places l)) (sym n)
          ∙ drop-append_seam (records_of w m p q query places) (drop (length (records_of w m p q query places)) l)
          ∙ ap (λ (k : ℕ). drop k l) n;
      none = λ w m p q query l. refl;
      alike = λ w v m p q p' q' query places l e. ap (λ (rows : List Row). over_rows rows l) (map_members (row_of w m p q query) (row_of v m p' q' query) places e);
    }
