-- Steps over slices for a walk of code by hand, for any element type. A slice that a loop goes over is opened once before it and shut once after it.
--     ref            a `&mut [T]` by its place, its ghost name and its list
--     ref_shr        a `&[T]` by its place and its list
--     at, at_shr     the machine value of each
--     Ajar           what shuts a `&κ mut [T]` that was opened
--     opens_mut      a `&κ mut [T]` and κ's token: all its elements, and what shuts it
--     shuts_mut      it is shut at a list as long: the reference at that list, and the token
-- Assumes `Logic`.
use mathlib.Core.Path.{◌≡◌, sym, ap, subst}
use Prim.Native.Nat.{ℕ}
use mathlib.Core.List.{[], ◌∷◌, List}
use lib.ListN.{length}
use seplogic.Ra.Ura.{Ura}
use base.Fraction.{full_share}
use mir.Syntax.{Lifetime}
use mir.Val.{Val}
use base.Fml.{Lft, GName, Share, Fml, fsep, flft, fobs, fauth, fobor}
use types.Logic.{Logic}
use types.Kit.{Goal, Soaks, Item, ‵, Step, step, ◌$◌, move, drop, fsplit, fsplit3, fjoin, fjoin3}
use denote.RattleType.{RattleType}
use denote.Shadow.{pure_i}
use denote.Ref.{Bor, MutBor, at_last}
use denote.Slice.{MutSlice, Room, heres, coded_holeys, mut_slice_at, slice_val}
use denote.Lend.{Held}
use denote.Index.{row, opens_slice, closes_slice}

abbrev pub ref : {X : Type 0} → ℕ → ℕ → GName → List X → MutBor (List X)
ref b o γ l = record { ref_ptr = (b, o); ghost_name = γ; now = l }

abbrev pub ref_shr : {X : Type 0} → ℕ → ℕ → List X → Bor (List X)
ref_shr b o l = record { ref_ptr = (b, o); now = l }

abbrev pub at : {X : Type 0} → MutBor (List X) → Val
at x = slice_val x.ref_ptr (length x.now)

abbrev pub at_shr : {X : Type 0} → Bor (List X) → Val
at_shr x = slice_val x.ref_ptr (length x.now)

abbrev pub Ajar : (R : RattleType) → Lft → Share → MutBor (List R.Denot) → Fml
Ajar R κ q x =
    fsep (fobor κ q (Held R (length x.now) x.ref_ptr.0 x.ref_ptr.1 x.ghost_name))
    (fsep (fobs x.ghost_name ((coded_holeys R).code (heres R x.now))) (fauth x.ghost_name ((coded_holeys R).code (heres R x.now))))

module _ {M : Type 1} {𝓤 : Ura M} {𝓛 : Logic 𝓤} {K : Type 0} {Γ : List (Item 𝓤)} {G : Goal 𝓤 𝓛.H} where
  pub opens_mut : K → Soaks G → (R : RattleType) (ℓ : Lifetime) {κ : Lft} {q : Share} (x : MutBor (List R.Denot)) {vs : List Val}
      → Step K 𝓛 (‵ (row R full_share x.now x.ref_ptr.0 x.ref_ptr.1) ∷ ‵ (Ajar R κ q x) ∷ Γ) G (‵ ((MutSlice ℓ κ R).own_val x vs) ∷ ‵ (flft κ q) ∷ Γ) G
  opens_mut t z R ℓ x = step (λ s. fsplit t $ drop t $ fsplit t $ opens_slice t z R x.now x.ref_ptr.0 x.ref_ptr.1 $ move t (1 ∷ 2 ∷ 3 ∷ []) $ fjoin3 t $ move t (1 ∷ 0 ∷ []) $ s)

  pub shuts_mut : K → Soaks G → (R : RattleType) (ℓ : Lifetime) {κ : Lft} {q : Share} (x : MutBor (List R.Denot)) (l : List R.Denot) → length l ≡ length x.now → Room R (length x.now)
      → Step K 𝓛 (‵ ((MutSlice ℓ κ R).own_val (at_last x l) (at x ∷ [])) ∷ ‵ (flft κ q) ∷ Γ) G (‵ (row R full_share l x.ref_ptr.0 x.ref_ptr.1) ∷ ‵ (Ajar R κ q x) ∷ Γ) G
  shuts_mut t z R ℓ x l e room = step (λ s.
      move t (1 ∷ []) $ fsplit3 t $ move t (3 ∷ 0 ∷ 1 ∷ 2 ∷ []) $ closes_slice t z R x.now l e x.ref_ptr.0 x.ref_ptr.1 $ fjoin t $
      pure_i t (mut_slice_at R (at_last x l) (at x ∷ [])) (tt, (tt, tt)) (ap (λ (n : ℕ). slice_val x.ref_ptr n ∷ []) (sym e), subst (Room R) (sym e) room) $
      fjoin t $ s)
