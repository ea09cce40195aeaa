-- The rows with one name less (`rows_withdrawn`), and their lists. The idea: both sides are the runs of the postings of other ids.
-- Assumes nothing.
use mathlib.Core.Path.{◌≡◌, refl, sym, ap, ap₂, ◌∙◌}
use mathlib.Core.Logic.{⊎_elim}
use mathlib.Core.Bool.{Bool, true, not}
use mathlib.Core.List.{List, [], ◌∷◌, ◌++◌, map}
use Prim.Native.Nat.{ℕ, ◌+◌, ◌*◌, ◌%◌, ◌<◌}
use native.Mathlib.Omega.{arith}
use lib.ListN.{length, get_or, take, drop}
use lib.Dec.{eqb}
use borrow.Author.Tests.{eq-eqb, ne_eqb}
use Rattle.laws.specs.Lists.{member, AllAbove, Ascending}
use Rattle.laws.specs.Each.{Each}
use Rattle.laws.specs.Filter.{filter_of}
use Rattle.laws.specs.Sort.{sort_of}
use Rattle.laws.proofs.Below.{and_left}
use Rattle.laws.proofs.Filter.{filter_nil, filter_append, filter_all, filter_none, member_filter}
use Rattle.laws.proofs.Lists.{length_nil}
use Rattle.laws.proofs.Members.{member_map_place, each_cons, each_first, each_rest}
use Rattle.laws.proofs.Order.{eq_or_ne}
use Rattle.laws.proofs.Sort.{ascending_cons, ascending_above, ascending_rest}
use Rattle.index_writer.specs.Built.{Entry, no_entry, word_of, Row, id_span, triple_of, triples_of, all_triples, lists_of, row_triples, triples_from, runs_of, words_from, rows_of, words_of, RowFit, RowsFit, EntryFit, Fit}
use Rattle.index_writer.proofs.Runs.{triples_runs, runs_unique}
use Rattle.index_writer.proofs.Entries.{distinct_entries}
use Rattle.index_writer.proofs.Built.{rows_of_fit}
use Rattle.changes.specs.Others.{others_of}
use Rattle.changes.specs.Names.{without_id}
use Rattle.changes.specs.Rows.{keys_in, kept_row, without_postings}
use Rattle.changes.proofs.Names.{words_without}
use Rattle.changes.proofs.Lists.{others_met, others_passed, filter_map, filter_members, ascending_filter, sort_filter}

-- ---- a row in front, if it has a list

kept_lists : (key : ℕ) (l : List ℕ) (rs : List Row) → lists_of (kept_row key l rs) ≡ l ++ lists_of rs
unfolding kept_row lists_of
kept_lists key [] rs = refl
kept_lists key (x ∷ l) rs = refl

kept_triples : (key : ℕ) (l : List ℕ) (rs : List Row) → triples_from (kept_row key l rs) ≡ map (λ (id : ℕ). key * id_span + id) l ++ triples_from rs
unfolding kept_row triples_from row_triples
kept_triples key [] rs = refl
kept_triples key (x ∷ l) rs = refl

kept_append : (key : ℕ) (l : List ℕ) (a b : List Row) → kept_row key l (a ++ b) ≡ kept_row key l a ++ b
unfolding kept_row
kept_append key [] a b = refl
kept_append key (x ∷ l) a b = refl

-- ---- the rows

-- a row whose list is then empty goes, and any other is kept
pub withdraw_gone : (id : ℕ) (r : Row) (rs : List Row) → length (others_of id r.list) ≡ 0 → without_postings id (r ∷ rs) ≡ without_postings id rs
unfolding without_postings kept_row
withdraw_gone id r rs e = ap (λ (l : List ℕ). kept_row r.key l (without_postings id rs)) (length_nil (others_of id r.list) e)

-- the lists end to end, without the id
pub lists_withdrawn : (id : ℕ) (rows : List Row) → lists_of (without_postings id rows) ≡ others_of id (lists_of rows)
unfolding without_postings lists_of
lists_withdrawn id [] = sym (filter_nil (λ (y : ℕ). not (eqb y id)))
lists_withdrawn id (r ∷ rs) =
    kept_lists r.key (others_of id r.list) (without_postings id rs)
    ∙ ap (λ (l : List ℕ). others_of id r.list ++ l) (lists_withdrawn id rs)
    ∙ sym (filter_append (λ (y : ℕ). not (eqb y id)) r.list (lists_of rs))

-- ---- the postings of other ids

-- the test that a posting is of another id
abbrev of_other : ℕ → ℕ → Bool
of_other id k = not (eqb (k % id_span) id)

triples_withdraw : (id : ℕ) (rows : List Row) → Each RowFit rows → triples_from (without_postings id rows) ≡ filter_of (of_other id) (triples_from rows)
unfolding without_postings triples_from row_triples
triples_withdraw id [] f = sym (filter_nil (of_other id))
triples_withdraw id (r ∷ rs) f =
    kept_triples r.key (others_of id r.list) (without_postings id rs)
    ∙ ap₂ ◌++◌
    (ap (map g) (filter_members (λ (y : ℕ). not (eqb y id)) (λ (y : ℕ). of_other id (g y)) r.list same)
    ∙ sym (filter_map (of_other id) g r.list))
    (triples_withdraw id rs (each_rest RowFit r rs f))
    ∙ sym (filter_append (of_other id) (row_triples r) (triples_from rs))
  where
    g : ℕ → ℕ
    g y = r.key * id_span + y

    same : (y : ℕ) → member y r.list ≡ true → not (eqb y id) ≡ of_other id (r.key * id_span + y)
    same y m =
        let b = (each_first RowFit r rs f).ids y m in
        let e : y ≡ (r.key * id_span + y) % id_span = omega arith in
        ap (λ (z : ℕ). not (eqb z id)) e

entries_without : (id : ℕ) (es : List Entry) → Each EntryFit es → all_triples (without_id id es) ≡ filter_of (of_other id) (all_triples es)
unfolding all_triples triples_of
entries_without id [] f = ap all_triples (filter_nil (λ (e : Entry). not (eqb e.id id))) ∙ sym (filter_nil (of_other id))
entries_without id (e ∷ es) f =
    ⊎_elim
    (λ (q : e.id ≡ id).
    ap all_triples (others_met (λ (x : Entry). x.id) id e es q)
    ∙ entries_without id es (each_rest EntryFit e es f)
    ∙ ap (λ (l : List ℕ). l ++ filter_of (of_other id) (all_triples es)) (sym (filter_none (of_other id) (triples_of e) (λ k m. ap not (eq-eqb (k % id_span) id (own k m ∙ q)))))
    ∙ sym (filter_append (of_other id) (triples_of e) (all_triples es)))
    (λ (n : e.id ≡ id → ⊥).
    ap all_triples (others_passed (λ (x : Entry). x.id) id e es n)
    ∙ ap₂ ◌++◌
    (sym (filter_all (of_other id) (triples_of e) (λ k m. ap not (ne_eqb (k % id_span) id (λ q. n (sym (own k m) ∙ q))))))
    (entries_without id es (each_rest EntryFit e es f))
    ∙ sym (filter_append (of_other id) (triples_of e) (all_triples es)))
    (eq_or_ne e.id id)
  where
    own : (k : ℕ) → member k (triples_of e) ≡ true → k % id_span ≡ e.id
    own k m =
        let p = member_map_place (λ (x : ℕ). triple_of (length e.features) x e.id) k e.features m in
        let q = p.2 in
        let b = (each_first EntryFit e es f).id in
        omega arith

-- ---- fit rows stay fit

withdraw_above : (b id : ℕ) (rows : List Row) → AllAbove b (keys_in rows) → AllAbove b (keys_in (without_postings id rows))
unfolding without_postings kept_row AllAbove
withdraw_above b id [] a = a
withdraw_above b id (r ∷ rs) a = by_list (others_of id r.list) (withdraw_above b id rs a.1)
  where
    by_list : (l : List ℕ) → AllAbove b (keys_in (without_postings id rs)) → AllAbove b (keys_in (kept_row r.key l (without_postings id rs)))
    by_list [] h = h
    by_list (x ∷ l) h = (a.0, h)

pub withdraw_fit : (id : ℕ) (rows : List Row) → RowsFit rows → RowsFit (without_postings id rows)
unfolding without_postings kept_row
withdraw_fit id [] f = f
withdraw_fit id (r ∷ rs) f =
    by_list (others_of id r.list)
    (ascending_filter (λ (y : ℕ). not (eqb y id)) r.list first.up)
    (λ x m. first.ids x (and_left (member x r.list) (not (eqb x id)) (sym (member_filter (λ (y : ℕ). not (eqb y id)) x r.list) ∙ m)))
    (withdraw_fit id rs (record { keys = ascending_rest r.key (keys_in rs) f.keys; each = each_rest RowFit r rs f.each }))
  where
    first : RowFit r
    first = each_first RowFit r rs f.each

    by_list : (l : List ℕ) → Ascending l → ((x : ℕ) → member x l ≡ true → x < id_span) → RowsFit (without_postings id rs)
        → RowsFit (kept_row r.key l (without_postings id rs))
    by_list [] up ids g = g
    by_list (x ∷ l) up ids g =
        record {
          keys = ascending_cons r.key (keys_in (without_postings id rs)) (withdraw_above r.key id rs (ascending_above r.key (keys_in rs) f.keys)) g.keys;
          each = each_cons RowFit (record { key = r.key; list = x ∷ l }) (without_postings id rs) (record { some = omega arith; up = up; ids = ids }) g.each;
        }

-- ---- the rows of names

pub rows_withdrawn : (id : ℕ) (es : List Entry) → Fit es → rows_of (without_id id es) ≡ without_postings id (rows_of es)
unfolding rows_of
rows_withdrawn id es fit =
    ap runs_of
    (ap sort_of (entries_without id es fit.each)
    ∙ sort_filter (of_other id) (all_triples es) (distinct_entries es fit.ids fit.each)
    ∙ ap (filter_of (of_other id)) (sym (triples_runs (sort_of (all_triples es))))
    ∙ sym (triples_withdraw id (rows_of es) (rows_of_fit es fit).each))
    ∙ runs_unique (without_postings id (rows_of es)) (withdraw_fit id (rows_of es) (rows_of_fit es fit))

-- the whole index, where the id is that of the name at k: that name word taken out, and its postings
pub index_withdrawn : (es : List Entry) → Fit es → (k id : ℕ) → k < length es → (get_or es k no_entry).id ≡ id
    → words_of (without_id id es) ≡ words_from (take k (map word_of es) ++ drop (k + 1) (map word_of es)) (without_postings id (rows_of es))
unfolding words_of
index_withdrawn es fit k id h at = ap₂ words_from (words_without es fit.ids k id h at) (rows_withdrawn id es fit)
