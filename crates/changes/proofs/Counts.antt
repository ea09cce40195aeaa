-- How many rows and postings there are with the postings of one name more: a row more for each feature that had none.
-- For whoever has to know how many words it takes before a word is changed.
-- Assumes nothing.
use mathlib.Core.Path.{◌≡◌, refl, sym, ap, ◌∙◌}
use mathlib.Core.Bool.{false, true≢false}
use mathlib.Core.List.{List, [], ◌∷◌}
use Prim.Native.Nat.{ℕ, suc, ◌+◌}
use native.Mathlib.Omega.{arith}
use lib.ListN.{length, length-append}
use borrow.Author.Tests.{ne_eqb}
use Rattle.laws.specs.Lists.{member}
use Rattle.laws.specs.Sort.{insert}
use Rattle.laws.proofs.Members.{member_head}
use Rattle.laws.proofs.Sort.{length_insert}
use Rattle.words.specs.Words.{key_of}
use Rattle.index_writer.specs.Built.{Row, lists_of}
use Rattle.changes.specs.Rows.{keys_in, put_posting, with_postings}
use Rattle.changes.proofs.Lists.{absent_rest}
use Rattle.changes.proofs.Put.{put_nil, put_cases, key_put}
use Rattle.changes.proofs.Added.{postings_nil, postings_cons}

-- ---- postings

pub length_lists_put : (key id : ℕ) (rows : List Row) → length (lists_of (put_posting key id rows)) ≡ suc (length (lists_of rows))
unfolding lists_of
length_lists_put key id [] = ap (λ (l : List Row). length (lists_of l)) (put_nil key id)
length_lists_put key id (r ∷ rs) =
    put_cases key id r rs (λ (l : List Row). length (lists_of l) ≡ suc (length (lists_of (r ∷ rs))))
    (λ h. let a = length-append r.list (lists_of (put_posting key id rs)) in let b = length-append r.list (lists_of rs) in let c = length_lists_put key id rs in omega arith)
    (λ e. let a = length-append (insert id r.list) (lists_of rs) in let b = length-append r.list (lists_of rs) in let c = length_insert id r.list in omega arith)
    (λ h. refl)

-- as many postings more as there are features
pub length_lists_postings : (size : ℕ) (fs : List ℕ) (id : ℕ) (rows : List Row) → length (lists_of (with_postings size fs id rows)) ≡ length fs + length (lists_of rows)
length_lists_postings size [] id rows = let e = ap (λ (l : List Row). length (lists_of l)) (postings_nil size id rows) in omega arith
length_lists_postings size (f ∷ fs) id rows =
    let e = ap (λ (l : List Row). length (lists_of l)) (postings_cons size f fs id rows) in
    let a = length_lists_put (key_of size f) id (with_postings size fs id rows) in
    let b = length_lists_postings size fs id rows in
    omega arith

-- ---- rows

pub absent_head : (x y : ℕ) (l : List ℕ) → (x ≡ y → ⊥) → member x (y ∷ l) ≡ member x l
unfolding member
absent_head x y l n = rw (ne_eqb x y n)

pub key_postings : (size f id : ℕ) (fs : List ℕ) (rows : List Row) → member f fs ≡ false
    → member (key_of size f) (keys_in (with_postings size fs id rows)) ≡ member (key_of size f) (keys_in rows)
key_postings size f id [] rows n = ap (λ (l : List Row). member (key_of size f) (keys_in l)) (postings_nil size id rows)
key_postings size f id (g ∷ fs) rows n =
    ap (λ (l : List Row). member (key_of size f) (keys_in l)) (postings_cons size g fs id rows)
    ∙ key_put (key_of size g) id (key_of size f) (with_postings size fs id rows)
    ∙ absent_head (key_of size f) (key_of size g) (keys_in (with_postings size fs id rows)) (λ q. apart (omega arith))
    ∙ key_postings size f id fs rows (absent_rest g f fs n)
  where
    apart : f ≡ g → ⊥
    apart e = true≢false (sym (member_head g fs) ∙ ap (λ (x : ℕ). member x (g ∷ fs)) (sym e) ∙ n)
