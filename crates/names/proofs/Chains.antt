-- What the library's tests of a list say, in the words of the crate laws.
use Rattle.std.proofs.Common.{◌≡◌, Bool, ◌||◌, List, [], ◌∷◌, ℕ, zero, suc, ◌+◌, ◌≤◌, ◌<◌, length, get_or, take, refl, sym, ap, ◌∙◌, add-one, arith, eqb, rules}
use Rattle.std.specs.List.{list_any}
use Rattle.std.proofs.lemmas.List.Folds.{list_any_more}
use Rattle.std.proofs.lemmas.List.{take_all}
use Rattle.laws.specs.Lists.{member}
use Rattle.laws.specs.Below.{any_below}

-- whether one of the first n elements passes
any_first : {A : Type 0} (p : A → Bool) (xs : List A) (d : A) (n : ℕ) → n ≤ length xs → list_any p (take n xs) ≡ any_below n (λ (i : ℕ). p (get_or xs i d))
unfolding any_below
any_first p xs d zero h = refl
any_first p xs d (suc n) h =
    ap (λ (k : ℕ). list_any p (take k xs)) (sym (add-one n)) ∙ list_any_more p xs n d (omega arith) ∙ ap (λ (b : Bool). b || p (get_or xs n d)) (any_first p xs d n (omega arith))

-- whether one of all passes
pub any_all : {A : Type 0} (p : A → Bool) (xs : List A) (d : A) → list_any p xs ≡ any_below (length xs) (λ (i : ℕ). p (get_or xs i d))
any_all p xs d = ap (list_any p) (sym (take_all (length xs) xs (omega arith))) ∙ any_first p xs d (length xs) (omega arith)

-- a number is in a list where it equals one that is there
pub any_member : (x : ℕ) (xs : List ℕ) → list_any (λ (y : ℕ). eqb y x) xs ≡ member x xs
unfolding member
any_member x [] = refl
any_member x (y ∷ xs) = grind (arith, any_member x xs)
