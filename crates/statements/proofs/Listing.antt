-- A search of an index, in terms of the names that it holds: specs/Demands.antt says what, this file cites why.
-- Assumes nothing.
use mathlib.Core.Path.{◌≡◌, sym, ap, subst, ◌∙◌}
use mathlib.Core.Logic.{◌↔◌}
use mathlib.Core.Bool.{true}
use mathlib.Core.List.{List}
use Prim.Native.Nat.{ℕ, ◌<◌}
use native.Mathlib.Omega.{arith}
use lib.ListN.{length, get_or}
use Rattle.hex_digits.specs.Lines.{Bytes}
use Rattle.laws.specs.Lists.{member}
use Rattle.laws.proofs.Lists.{count_ext}
use Rattle.names.specs.Features.{features_of}
use Rattle.names.specs.Shared.{shared_of}
use Rattle.words.specs.Words.{name_size}
use Rattle.lists.specs.Lists.{features_in}
use Rattle.search.specs.Answers.{rows_in}
use Rattle.statements.specs.Demands.{Lending, columns, records, Question, answer, after, Answered, shared_by, Reaches, least_at, row_ids, Demand2, Names, Holds, shared_with_name, Listing, Listings}
use Rattle.statements.proofs.Lent.{Lends, columns_lend, records_lend}
use Rattle.statements.proofs.Demands.{demands}

module _ {A : Type 0} (s : Lending A) (lends : Lends s) (names : Names) (a : Question A) (holds : Holds a.words names) where
  -- a name shares the features that it stands for
  shared_name : (i : ℕ) → i < names.count → shared_by a i ≡ shared_with_name names a i
  unfolding shared_of
  shared_name i h =
      ap (λ (x : ℕ). shared_of (features_of a.query) (features_in a.words x)) (holds.id i h)
      ∙ count_ext
      (λ (f : ℕ). member f (features_in a.words (names.id i)))
      (λ (f : ℕ). member f (names.features i))
      (λ f. holds.features i f h) (features_of a.query)

  listing : Bytes a.query → Answered s a → Listing s names a
  listing b n = record { exactly = exactly; true_rows = true_rows; ascending = d.ascending; twins = twins }
    where
      d : Demand2 s a
      d = (demands s lends a).two b n

      exactly : (i : ℕ) → i < names.count
          → (member (names.id i) (row_ids s a) ≡ true)
          ↔ Reaches a (length (features_of a.query)) (length (names.features i)) (shared_with_name names a i)
      exactly i h =
          let c = holds.count in
          let e = d.exactly i (omega arith) in
          let x = holds.id i h in
          let y = holds.size i h in
          let z = shared_name i h in (
            λ m. subst (λ (t : ℕ). Reaches a (length (features_of a.query)) t (shared_with_name names a i)) y
                (subst (λ (t : ℕ). Reaches a (length (features_of a.query)) (name_size a.words i) t) z
                (e.0 (ap (λ (t : ℕ). member t (row_ids s a)) x ∙ m))),
            λ r. sym (ap (λ (t : ℕ). member t (row_ids s a)) x)
                ∙ e.1 (subst (λ (t : ℕ). Reaches a (length (features_of a.query)) (name_size a.words i) t) (sym z)
                (subst (λ (t : ℕ). Reaches a (length (features_of a.query)) t (shared_with_name names a i)) (sym y) r)),
          )

      true_rows : (j : ℕ) → j < rows_in (answer s a)
          → (i : ℕ)
          × (i < names.count)
          × (get_or (s.rows (after s a)).ids j 0 ≡ names.id i)
          × (get_or (s.rows (after s a)).shared j 0 ≡ shared_with_name names a i)
          × (get_or (s.rows (after s a)).sizes j 0 ≡ length (names.features i))
          × (get_or (s.rows (after s a)).least j 0 ≡ least_at a (length (names.features i)))
      true_rows j l =
          let r = d.true_rows j l in
          let c = holds.count in
          let there = r.1 in
          let h : r.0 < names.count = omega arith in
          (r.0, h, r.2 ∙ holds.id r.0 h, r.3 ∙ shared_name r.0 h, r.4 ∙ holds.size r.0 h, r.5 ∙ ap (least_at a) (holds.size r.0 h))

      twins : (i j : ℕ) → i < names.count → j < names.count → names.features i ≡ names.features j
          → (member (names.id i) (row_ids s a) ≡ true) ↔ (member (names.id j) (row_ids s a) ≡ true)
      twins i j h g e =
          let R : List ℕ → Type 0 = λ (t : List ℕ). Reaches a (length (features_of a.query)) (length t) (shared_of (features_of a.query) t) in
          (λ m. (exactly j g).1 (subst R e ((exactly i h).0 m)), λ m. (exactly i h).1 (subst R (sym e) ((exactly j g).0 m)))

pub listings : Listings
listings names = (
  λ a holds b n. listing columns columns_lend names a holds b n,
  λ a holds b n. listing records records_lend names a holds b n,
)
