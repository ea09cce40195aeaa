-- The laws for each of the five frames: both round trips, that a reader's answer is fixed by its contract, and that no line is read as two
-- of them. Each cites the law over every layout in `fields`, Laws.antt.
-- Assumes nothing.
use mathlib.Core.Path.{◌≡◌, refl, sym, ap, ◌∙◌}
use mathlib.Core.Bool.{true, cond, ◌||◌, not}
use mathlib.Core.List.{List, [], ◌∷◌}
use Prim.Native.Nat.{ℕ, ◌≤◌, ◌<◌}
use native.Mathlib.Omega.{arith}
use lib.ListN.{length, get_or}
use lib.Dec.{eqb}
use borrow.Author.Tests.{eq-eqb, eqb-true}
use Rattle.laws.specs.Below.{all_below}
use Rattle.laws.proofs.Below.{all_at}
use Rattle.hex_digits.specs.Lines.{Bytes}
use Rattle.fields.specs.Layouts.{Reading}
use Rattle.fields.specs.Layouts.{line_of, is_frame, name_in, read_of, longest_name}
use Rattle.fields.proofs.Laws.{fitting_named, fitting_plain, read_write, write_reading, kind_unique}
use Rattle.std.proofs.Common.{Result, Ok, Err}
use Rattle.refusals.specs.declared.Refusal.{Refusal}
use Rattle.refusals.proofs.Refusals.{refusal_with, with_back}
use Rattle.frames.specs.declared.Name.{Name}
use Rattle.frames.specs.declared.Query.{Query}
use Rattle.frames.specs.declared.Row.{Row}
use Rattle.frames.specs.declared.End.{End}
use Rattle.frames.specs.declared.Refused.{Refused}
use Rattle.frames.specs.Frames.{name_frame, query_frame, row_frame, end_frame, refusal_frame, layouts, name_out, query_out, row_out, end_out, refusal_out, a_name, a_query, a_row, an_end, a_refusal}

-- ---- writing and then reading

pub read_write_name : (id : ℕ) (name : List ℕ) (room : ℕ) → id < 65536 → Bytes name → length name ≤ longest_name → length name ≤ room
    → read_of name_frame (line_of name_frame (id ∷ []) name) room ≡ name_out (a_name id (length name))
read_write_name id name room i b h r = read_write name_frame (id ∷ []) name (fitting_named name_frame (id ∷ []) name refl (omega arith) (i, tt) b h) room r

pub read_write_query : (measure p q allowance : ℕ) (query : List ℕ) (room : ℕ) → measure < 256 → p < 65536 → q < 65536 → allowance < 4294967296
    → Bytes query → length query ≤ longest_name → length query ≤ room
    → read_of query_frame (line_of query_frame (measure ∷ p ∷ q ∷ allowance ∷ []) query) room
    ≡ query_out (a_query measure p q allowance (length query))
read_write_query measure p q allowance query room i j k a b h r =
    let f : List ℕ = measure ∷ p ∷ q ∷ allowance ∷ [] in
    read_write query_frame f query (fitting_named query_frame f query refl (omega arith) (i, (j, (k, (a, tt)))) b h) room r

pub read_write_row : (id shared size least : ℕ) → id < 65536 → shared < 256 → size < 256 → least < 256
    → read_of row_frame (line_of row_frame (id ∷ shared ∷ size ∷ least ∷ []) []) 0 ≡ row_out (a_row id shared size least)
read_write_row id shared size least i j k m =
    let f : List ℕ = id ∷ shared ∷ size ∷ least ∷ [] in
    read_write row_frame f [] (fitting_plain row_frame f (omega arith) (i, (j, (k, (m, tt))))) 0 (omega arith)

pub read_write_end : (rows touches p q : ℕ) → rows < 65536 → touches < 4294967296 → p < 65536 → q < 65536
    → read_of end_frame (line_of end_frame (rows ∷ touches ∷ p ∷ q ∷ []) []) 0 ≡ end_out (an_end rows touches p q)
read_write_end rows touches p q i j k m =
    let f : List ℕ = rows ∷ touches ∷ p ∷ q ∷ [] in
    read_write end_frame f [] (fitting_plain end_frame f (omega arith) (i, (j, (k, (m, tt))))) 0 (omega arith)

pub read_write_refusal : (number touches : ℕ) → number < 256 → touches < 4294967296
    → read_of refusal_frame (line_of refusal_frame (number ∷ touches ∷ []) []) 0 ≡ refusal_out (a_refusal number touches)
read_write_refusal number touches i j =
    let f : List ℕ = number ∷ touches ∷ [] in
    read_write refusal_frame f [] (fitting_plain refusal_frame f (omega arith) (i, (j, tt))) 0 (omega arith)

-- ---- reading and then writing

pub write_read_name : (l : List ℕ) (room : ℕ) (r : Name) → name_out (Ok r) ≡ read_of name_frame l room
    → line_of name_frame (r.id ∷ []) (name_in name_frame l) ≡ l
write_read_name l room r e = write_reading name_frame l room (name_out (Ok r)) e refl

pub write_read_query : (l : List ℕ) (room : ℕ) (r : Query) → query_out (Ok r) ≡ read_of query_frame l room
    → line_of query_frame (r.measure ∷ r.p ∷ r.q ∷ r.allowance ∷ []) (name_in query_frame l) ≡ l
write_read_query l room r e = write_reading query_frame l room (query_out (Ok r)) e refl

pub write_read_row : (l : List ℕ) (id shared size least : ℕ) → row_out (a_row id shared size least) ≡ read_of row_frame l 0
    → line_of row_frame (id ∷ shared ∷ size ∷ least ∷ []) [] ≡ l
unfolding name_in
write_read_row l id shared size least e = write_reading row_frame l 0 (row_out (a_row id shared size least)) e refl

pub write_read_end : (l : List ℕ) (rows touches p q : ℕ) → end_out (an_end rows touches p q) ≡ read_of end_frame l 0
    → line_of end_frame (rows ∷ touches ∷ p ∷ q ∷ []) [] ≡ l
unfolding name_in
write_read_end l rows touches p q e = write_reading end_frame l 0 (end_out (an_end rows touches p q)) e refl

pub write_read_refusal : (l : List ℕ) (number touches : ℕ) → refusal_out (a_refusal number touches) ≡ read_of refusal_frame l 0
    → line_of refusal_frame (number ∷ touches ∷ []) [] ≡ l
unfolding name_in
write_read_refusal l number touches e = write_reading refusal_frame l 0 (refusal_out (a_refusal number touches)) e refl

-- ---- no line is read as two of the five

-- the kinds of two layouts of the five differ, by one computed test
pub kinds_differ : (i j : ℕ) → i < 5 → j < 5 → (get_or layouts i row_frame).kind ≡ (get_or layouts j row_frame).kind → i ≡ j
unfolding all_below
kinds_differ i j h k e =
    let t = all_at 5 (λ (m : ℕ). all_below 5 (λ (n : ℕ). not (eqb (get_or layouts m row_frame).kind (get_or layouts n row_frame).kind) || eqb m n)) refl i h in
    let u = all_at 5 (λ (n : ℕ). not (eqb (get_or layouts i row_frame).kind (get_or layouts n row_frame).kind) || eqb i n) t j k in
    eqb-true i j (rw (eq-eqb _ _ e) at u)

pub layout_unique : (l : List ℕ) (i j : ℕ) → i < 5 → j < 5 → is_frame (get_or layouts i row_frame) l ≡ true → is_frame (get_or layouts j row_frame) l ≡ true
    → i ≡ j
layout_unique l i j h k p q = kinds_differ i j h k (kind_unique (get_or layouts i row_frame) (get_or layouts j row_frame) l p q)

-- ---- a contract fixes the answer: each way of setting one out can be undone

name_read_back : Reading → Result Name Refusal
name_read_back x =
    cond (eqb x.number 0)
    (Ok (record { id = get_or x.fields 0 0; len = x.len }))
    (Err (refusal_with x.number))

name_back : (r : Result Name Refusal) → name_read_back (name_out r) ≡ r
unfolding name_read_back
name_back (Ok x) = refl
name_back (Err r) = with_back r _

pub name_out_unique : (r s : Result Name Refusal) → name_out r ≡ name_out s → r ≡ s
name_out_unique r s e = sym (name_back r) ∙ ap name_read_back e ∙ name_back s

query_read_back : Reading → Result Query Refusal
query_read_back x =
    cond (eqb x.number 0)
    (Ok (record { measure = get_or x.fields 0 0; p = get_or x.fields 1 0; q = get_or x.fields 2 0; allowance = get_or x.fields 3 0; len = x.len }))
    (Err (refusal_with x.number))

query_back : (r : Result Query Refusal) → query_read_back (query_out r) ≡ r
unfolding query_read_back
query_back (Ok x) = refl
query_back (Err r) = with_back r _

pub query_out_unique : (r s : Result Query Refusal) → query_out r ≡ query_out s → r ≡ s
query_out_unique r s e = sym (query_back r) ∙ ap query_read_back e ∙ query_back s

row_read_back : Reading → Result Row Refusal
row_read_back x =
    cond (eqb x.number 0)
    (Ok (record { id = get_or x.fields 0 0; shared = get_or x.fields 1 0; size = get_or x.fields 2 0; least = get_or x.fields 3 0 }))
    (Err (refusal_with x.number))

row_back : (r : Result Row Refusal) → row_read_back (row_out r) ≡ r
unfolding row_read_back
row_back (Ok x) = refl
row_back (Err r) = with_back r _

pub row_out_unique : (r s : Result Row Refusal) → row_out r ≡ row_out s → r ≡ s
row_out_unique r s e = sym (row_back r) ∙ ap row_read_back e ∙ row_back s

end_read_back : Reading → Result End Refusal
end_read_back x =
    cond (eqb x.number 0)
    (Ok (record { rows = get_or x.fields 0 0; touches = get_or x.fields 1 0; p = get_or x.fields 2 0; q = get_or x.fields 3 0 }))
    (Err (refusal_with x.number))

end_back : (r : Result End Refusal) → end_read_back (end_out r) ≡ r
unfolding end_read_back
end_back (Ok x) = refl
end_back (Err r) = with_back r _

pub end_out_unique : (r s : Result End Refusal) → end_out r ≡ end_out s → r ≡ s
end_out_unique r s e = sym (end_back r) ∙ ap end_read_back e ∙ end_back s

refusal_read_back : Reading → Result Refused Refusal
refusal_read_back x =
    cond (eqb x.number 0)
    (Ok (record { number = get_or x.fields 0 0; touches = get_or x.fields 1 0 }))
    (Err (refusal_with x.number))

refusal_back : (r : Result Refused Refusal) → refusal_read_back (refusal_out r) ≡ r
unfolding refusal_read_back
refusal_back (Ok x) = refl
refusal_back (Err r) = with_back r _

pub refusal_out_unique : (r s : Result Refused Refusal) → refusal_out r ≡ refusal_out s → r ≡ s
refusal_out_unique r s e = sym (refusal_back r) ∙ ap refusal_read_back e ∙ refusal_back s
