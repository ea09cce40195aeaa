-- One pass over ascending postings makes the rows: what one posting more at the end does to the runs. Their words: `words_new` and `Words-more` in Read.antt.
-- Cited by Rows.antt.
-- Assumes nothing.
use mathlib.Core.Path.{◌≡◌, refl, sym, ap, ◌∙◌}
use mathlib.Core.Logic.{⊎_elim}
use mathlib.Core.List.{List, [], ◌∷◌, ◌++◌}
use Prim.Native.Nat.{ℕ, zero, suc, ◌+◌, ◌/◌, ◌%◌, ◌<◌}
use native.Mathlib.Numerals.{add-one}
use native.Mathlib.Omega.{arith}
use lib.ListN.{length, get_or, take}
use lib.Seq.{take-suc, length-take-le, get_or-take}
use Rattle.laws.proofs.Order.{eq_or_ne}
use Rattle.index_writer.specs.Built.{Row, id_span, one_row, longer_row, join_row, runs_of}
use Rattle.index_writer.proofs.Runs.{join_nil, join_same, join_other}

-- ---- what stands after the first row does not matter to a posting in front

join_append : (k : ℕ) (r : Row) (rs xs : List Row) → join_row k ((r ∷ rs) ++ xs) ≡ join_row k (r ∷ rs) ++ xs
join_append k r rs xs =
    ⊎_elim
    (λ (e : k / id_span ≡ r.key). join_same k r (rs ++ xs) e ∙ ap (λ (l : List Row). l ++ xs) (sym (join_same k r rs e)))
    (λ (n : k / id_span ≡ r.key → ⊥). join_other k r (rs ++ xs) n ∙ ap (λ (l : List Row). l ++ xs) (sym (join_other k r rs n)))
    (eq_or_ne (k / id_span) r.key)

join_some : (k : ℕ) (rs : List Row) → (r : Row) × (qs : List Row) × (join_row k rs ≡ r ∷ qs)
join_some k [] = (one_row k, [], join_nil k)
join_some k (r ∷ rs) =
    ⊎_elim
    {C = (s : Row) × (qs : List Row) × (join_row k (r ∷ rs) ≡ s ∷ qs)}
    (λ (e : k / id_span ≡ r.key). (record { key = r.key; list = (k % id_span) ∷ r.list }, rs, join_same k r rs e))
    (λ (n : k / id_span ≡ r.key → ⊥). (one_row k, r ∷ rs, join_other k r rs n))
    (eq_or_ne (k / id_span) r.key)

join_behind : (k j : ℕ) (rs xs : List Row) → join_row k (join_row j rs ++ xs) ≡ join_row k (join_row j rs) ++ xs
join_behind k j rs xs =
    let p = join_some j rs in
    ap (λ (l : List Row). join_row k (l ++ xs)) p.2 ∙ join_append k p.0 p.1 xs ∙ ap (λ (l : List Row). join_row k l ++ xs) (sym p.2)

-- ---- one posting more at the end

-- its size and feature are not those of the posting before it, or there is none before it: a new row
pub runs_new : (ks : List ℕ) (k : ℕ) → ((j : ℕ) → j + 1 ≡ length ks → get_or ks j 0 / id_span ≡ k / id_span → ⊥)
    → runs_of (ks ++ (k ∷ [])) ≡ runs_of ks ++ (one_row k ∷ [])
unfolding runs_of
runs_new [] k n = join_nil k
runs_new (a ∷ []) k n =
    ap (join_row a) (join_nil k) ∙ join_other a (one_row k) [] (n 0 refl) ∙ ap (λ (l : List Row). l ++ (one_row k ∷ [])) (sym (join_nil a))
runs_new (a ∷ b ∷ ks) k n =
    ap (join_row a) (runs_new (b ∷ ks) k (λ j e. n (suc j) (omega arith))) ∙ join_behind a b (runs_of ks) (one_row k ∷ [])

-- a posting in front, before the last row and before a longer one
join_more : (a : ℕ) (rs : List Row) (r : Row) (id : ℕ)
    → (qs : List Row)
    × (q : Row)
    × (q.key ≡ r.key)
    × (join_row a (rs ++ (r ∷ [])) ≡ qs ++ (q ∷ []))
    × (join_row a (rs ++ (longer_row r id ∷ [])) ≡ qs ++ (longer_row q id ∷ []))
join_more a [] r id =
    ⊎_elim
    {C =
    (qs : List Row)
    × (q : Row)
    × (q.key ≡ r.key)
    × (join_row a (r ∷ []) ≡ qs ++ (q ∷ []))
    × (join_row a (longer_row r id ∷ []) ≡ qs ++ (longer_row q id ∷ []))}
    (λ (e : a / id_span ≡ r.key).
    ([], record { key = r.key; list = (a % id_span) ∷ r.list }, refl, join_same a r [] e, join_same a (longer_row r id) [] e))
    (λ (n : a / id_span ≡ r.key → ⊥). (one_row a ∷ [], r, refl, join_other a r [] n, join_other a (longer_row r id) [] n))
    (eq_or_ne (a / id_span) r.key)
join_more a (s ∷ rs) r id =
    (join_row a (s ∷ rs), r, refl, join_append a s rs (r ∷ []), join_append a s rs (longer_row r id ∷ []))

-- its size and feature are those of the posting before it: one id more in the last row
pub runs_more : (ks : List ℕ) (k j : ℕ) → j + 1 ≡ length ks → get_or ks j 0 / id_span ≡ k / id_span
    → (rs : List Row)
    × (r : Row)
    × (r.key ≡ k / id_span)
    × (runs_of ks ≡ rs ++ (r ∷ []))
    × (runs_of (ks ++ (k ∷ [])) ≡ rs ++ (longer_row r (k % id_span) ∷ []))
unfolding runs_of
runs_more [] k j e q = absurd (omega arith)
runs_more (a ∷ []) k j e q =
    let z : j ≡ 0 = omega arith in
    let s : a / id_span ≡ k / id_span = ap (λ (i : ℕ). get_or (a ∷ []) i 0 / id_span) (sym z) ∙ q in (
      [],
      one_row a,
      s,
      join_nil a,
      ap (join_row a) (join_nil k) ∙ join_same a (one_row k) [] s ∙ (λ i. record { key = sym s i; list = (a % id_span) ∷ (k % id_span) ∷ [] } ∷ []),
    )
runs_more (a ∷ b ∷ ks) k zero e q = absurd (omega arith)
runs_more (a ∷ b ∷ ks) k (suc j) e q =
    let p = runs_more (b ∷ ks) k j (omega arith) q in
    let m = join_more a p.0 p.1 (k % id_span) in
    (m.0, m.1, m.2 ∙ p.2, ap (join_row a) p.3 ∙ m.3, ap (join_row a) p.4 ∙ m.4)

-- ---- the same, where the pass is at place i

pub pass_new : (ks : List ℕ) (i : ℕ) → i < length ks → ((j : ℕ) → j + 1 ≡ i → get_or ks j 0 / id_span ≡ get_or ks i 0 / id_span → ⊥)
    → runs_of (take (i + 1) ks) ≡ runs_of (take i ks) ++ (one_row (get_or ks i 0) ∷ [])
pass_new ks i h n =
    let l = length-take-le i ks (omega arith) in
    ap runs_of (ap (λ (m : ℕ). take m ks) (add-one i) ∙ take-suc ks i 0 h)
    ∙ runs_new (take i ks) (get_or ks i 0) (λ j e q. n j (e ∙ l) (ap (λ (x : ℕ). x / id_span) (sym (get_or-take i ks j 0 (omega arith))) ∙ q))

pub pass_more : (ks : List ℕ) (i j : ℕ) → i < length ks → j + 1 ≡ i → get_or ks j 0 / id_span ≡ get_or ks i 0 / id_span
    → (rs : List Row)
    × (r : Row)
    × (r.key ≡ get_or ks i 0 / id_span)
    × (runs_of (take i ks) ≡ rs ++ (r ∷ []))
    × (runs_of (take (i + 1) ks) ≡ rs ++ (longer_row r (get_or ks i 0 % id_span) ∷ []))
pass_more ks i j h e q =
    let l = length-take-le i ks (omega arith) in
    let p =
    runs_more (take i ks) (get_or ks i 0) j (e ∙ sym l) (ap (λ (x : ℕ). x / id_span) (get_or-take i ks j 0 (omega arith)) ∙ q)
    in
    (p.0, p.1, p.2, p.3, ap runs_of (ap (λ (m : ℕ). take m ks) (add-one i) ∙ take-suc ks i 0 h) ∙ p.4)
