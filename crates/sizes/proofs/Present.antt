-- Laws of which sizes the names have. Cited by the proofs of `sizes_present` and `least_counts`.
-- Assumes nothing.
use mathlib.Core.Path.{◌≡◌, refl, sym, ap, ◌∙◌}
use mathlib.Core.Bool.{Bool, true, false, cond, ◌&&◌}
use mathlib.Core.List.{List}
use Prim.Native.Nat.{ℕ, ◌+◌, ◌<◌}
use native.Mathlib.Omega.{arith}
use lib.ListN.{get_or, set, replicate, length-set, length-replicate, get_or-replicate}
use lib.Seq.{get_or-set_same, get_or-set_other}
use mathlib.Core.Logic.{⊎_elim}
use lib.Dec.{eqb, leb}
use borrow.Author.Tests.{eq-eqb, ne_eqb, le-leb}
use Rattle.laws.specs.Lists.{tabulate}
use Rattle.laws.specs.Below.{count_below, sum_below}
use Rattle.laws.proofs.Lists.{length_tabulate, get_d_tabulate}
use Rattle.laws.proofs.Below.{sum_below_step}
use Rattle.laws.proofs.Images.{tabulate_of}
use Rattle.laws.proofs.Order.{eq_or_ne}
use Rattle.likeness.specs.Sizes.{is_searched}
use Rattle.likeness.specs.Least.{least_count}
use Rattle.words.specs.Words.{name_count, name_size}
use Rattle.sizes.specs.Method.{sizes_end}
use Rattle.sizes.specs.Tables.{present_at, least_at}

-- ---- how many of the first k names have each size

abbrev pub sizes_of : List ℕ → ℕ → ℕ → ℕ
sizes_of w k y = count_below k (λ (i : ℕ). eqb (name_size w i) y)

-- whether one of them has the size
unfoldable pub present_by : List ℕ → ℕ → ℕ → Bool
present_by w k y = leb 1 (sizes_of w k y)

pub present_nil : (w : List ℕ) (n : ℕ) → replicate n false ≡ tabulate (present_by w 0) n
unfolding present_by sum_below
present_nil w n = tabulate_of (present_by w 0) n false (replicate n false) (length-replicate n false) (λ i h. get_or-replicate n i false false h)

pub present_step : (w : List ℕ) (k n : ℕ) → name_size w k < n
    → set (tabulate (present_by w k) n) (name_size w k) true ≡ tabulate (present_by w (k + 1)) n
unfolding present_by
present_step w k n h =
    let s : ℕ = name_size w k in
    let wide = length_tabulate (present_by w k) n in
    let met : sizes_of w (k + 1) s ≡ sizes_of w k s + 1 =
    sum_below_step (λ (i : ℕ). cond (eqb (name_size w i) s) 1 0) k ∙ ap (λ (b : Bool). sizes_of w k s + cond b 1 0) (eq-eqb s s refl)
    in
    tabulate_of (present_by w (k + 1)) n false (set (tabulate (present_by w k) n) s true) (length-set (tabulate (present_by w k) n) s true ∙ wide)
    (λ y l.
    ⊎_elim
    (λ (e : y ≡ s).
    ap (λ (z : ℕ). get_or (set (tabulate (present_by w k) n) s true) z false) e
    ∙ get_or-set_same (tabulate (present_by w k) n) s true false (rw wide h)
    ∙ sym (le-leb 1 (sizes_of w (k + 1) s) (omega arith))
    ∙ ap (λ (z : ℕ). leb 1 (sizes_of w (k + 1) z)) (sym e))
    (λ (ne : y ≡ s → ⊥).
    get_or-set_other (tabulate (present_by w k) n) s y true false ne
    ∙ get_d_tabulate (present_by w k) n y false l
    ∙ ap (leb 1)
    (sym
    (sum_below_step (λ (i : ℕ). cond (eqb (name_size w i) y) 1 0) k
    ∙ ap (λ (b : Bool). sizes_of w k y + cond b 1 0) (ne_eqb s y (λ e. ne (sym e)))
    ∙ (let q : sizes_of w k y + 0 ≡ sizes_of w k y = omega arith in q))))
    (eq_or_ne y s))

-- all of them
pub present_all : (w : List ℕ) (n : ℕ) → n ≡ name_count w → (y : ℕ) → present_by w n y ≡ present_at w y
unfolding present_by present_at
present_all w n e y = ap (λ (k : ℕ). leb 1 (sizes_of w k y)) e

-- so the least count of a size is known from that
pub least_present : (w : List ℕ) (m p q x y : ℕ) (present : List Bool) → present ≡ tabulate (present_at w) sizes_end → y < sizes_end
    → cond (get_or present y false && is_searched m p q x y) (least_count m p q x y) 0 ≡ least_at w m p q x y
unfolding least_at present_at
least_present w m p q x y present e h = rw (e, get_d_tabulate (present_at w) sizes_end y false h)
