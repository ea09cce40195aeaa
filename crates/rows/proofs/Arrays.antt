-- Steps over a local array of n 32-bit numbers, begun as [0; n], that is lent as a slice for a call, comes back, is shown for another call, and is let go.
-- The array lies in a block of its own, from its start. Each loan has a lifetime of its own, which is made for it and ended with it.
--     lends_array    the array as it was begun: a token, a `&mut [u32]` of n zeros, and what brings the array back
--     array_back     the token, what brings it back, and the slice's last list: the array holds that list
--     shows_array    the array: a token, a `&[u32]` of its list, and what brings the array back
--     array_freed    the token and what brings it back: room for the array, as before it was begun
-- Assumes `Logic`.
use mathlib.Core.Path.{◌≡◌, refl, sym, subst}
use Prim.Native.Nat.{ℕ, zero, suc}
use mathlib.Core.List.{[], ◌∷◌, List}
use lib.ListN.{length, replicate, length-replicate}
use lib.Dec.{T as Yes, lit<}
use seplogic.Ra.Ura.{Ura}
use base.Fraction.{full_share}
use mir.Syntax.{Ty, Lifetime, w32, ty_int, ty_array}
use mir.Val.{Val, vint, WT, has_ty}
use base.Logic.{ent}
use base.Fml.{GName, Incl-refl, Fml, fsep, fat, froom, flft, flent}
use types.Logic.{Logic, sem}
use types.Kit.{Goal, Soaks, Item, ‵, ◌⊛◌, some, later, Seq, Step, step, ◌$◌, ◌∵◌, !, qed, move, keep, drop, use1, use2, use3, split, pick, rewrite, fsplit, fjoin, fpick, fpack, feq_l, feq_i, await, done}
use types.SemTy.{cells, Arr}
use types.Share.{arr_parts}
use types.Tokens.{lft_new, lft_end, lent_back}
use denote.Shadow.{shadow}
use denote.Laws.{Is}
use denote.Memory.{cell_at, part_at, mem, shares, part_of}
use denote.Builtin.{u32}
use denote.Plain.{uint_Makes, uint_Lawful}
use denote.Array.{Array, each, array_val, Array-Lawful, Array-Makes}
use denote.ArrayMemory.{Array-apart, Array-whole}
use denote.Slice.{slice_val, MutSlice, ShrSlice, Room, finally}
use denote.Copied.{uint_Copied}
use denote.Lend.{Held, lends_slice, slice_back, lends_shr_slice}
use denote.Steps.{owned}
use denote.Index.{row, whole_in, whole_out}
use Rattle.rows.proofs.Slices.{ref, ref_shr}

abbrev pub zeros : ℕ → List ℕ
zeros n = replicate n 0

-- the type of the array, and its value as it is begun
abbrev pub Nums : ℕ → Ty
Nums n = ty_array (ty_int w32) n

abbrev pub begun : ℕ → Val
begun n = array_val (replicate n (vint w32 0))

all_zero : (n : ℕ) → shadow (each ℕ u32.own_val (zeros n) (replicate n (vint w32 0)))
all_zero zero = tt
all_zero (suc n) = ((refl, lit< tt), all_zero n)

is_begun : (n : ℕ) → Is (Array u32 n) (zeros n) (begun n ∷ [])
is_begun n = (replicate n (vint w32 0), ((refl, length-replicate n 0), all_zero n))

pub begun_typed : {M : Type 1} {𝓤 : Ura M} (𝓛 : Logic 𝓤) (n : ℕ) → Yes (has_ty (Nums n) (begun n)) × WT (begun n)
begun_typed 𝓛 n = ((Array-Lawful 𝓛 u32 (uint_Lawful 𝓛 w32) n).typed (zeros n) _ (is_begun n)).0

-- what brings the array back, of each loan
abbrev pub Taken : ℕ → ℕ → ℕ → GName → Fml
Taken n b ν δ = flent (ν ∷ []) (Held u32 n b 0 δ)

abbrev pub Shown : ℕ → ℕ → ℕ → List ℕ → Fml
Shown n b ν l = flent (ν ∷ []) ((arr_parts (shares u32) n).part full_share l b 0)

module _ {M : Type 1} {𝓤 : Ura M} (𝓛 : Logic 𝓤) (n b : ℕ) where
  -- the array as it was begun is a row of zeros
  begun_row : ent 𝓤 (sem 𝓛 (fat full_share (Nums n) b 0 (begun n))) (sem 𝓛 (row u32 full_share (zeros n) b 0))
  unfolding part_of
  begun_row =
      qed 𝓛 (‵ (fat full_share (Nums n) b 0 (begun n)) ∷ []) ∵
      use1 𝓛 (‵ (cell_at full_share (Nums n ∷ []) (begun n ∷ []) b 0)) (𝓛.laws.at_raw full_share (Nums n) b 0 (begun n)) $
      owned ! (Array u32 n) (Is (Array u32 n)) (Array-Makes 𝓛 u32 (uint_Makes 𝓛 w32) n) (zeros n) (begun n ∷ []) (is_begun n) $ move ! (1 ∷ 0 ∷ []) $ fjoin ! $
      fpack ! (List Val) (λ vs. fsep (cell_at full_share (Nums n ∷ []) vs b 0) ((Array u32 n).own_val (zeros n) vs)) (begun n ∷ []) $
      use1 𝓛 (‵ ((arr_parts (shares u32) n).part full_share (zeros n) b 0)) (Array-apart 𝓛 u32 full_share tt n (zeros n) b 0) $ fsplit ! $ drop ! $ done !

  -- the array with any list is room for the array
  room_again : (l : List ℕ) → ent 𝓤 (sem 𝓛 ((arr_parts (shares u32) n).part full_share l b 0)) (sem 𝓛 (froom (Nums n) b 0))
  unfolding part_of
  room_again l =
      qed 𝓛 (‵ ((arr_parts (shares u32) n).part full_share l b 0) ∷ []) ∵
      use1 𝓛 (‵ (part_at (Array u32 n) full_share l b 0)) (Array-whole 𝓛 u32 full_share n l b 0) $ fpick ! (λ vs. fsplit ! $
      -- [the cell; what the array owns], which says that the cell's value is an array's
      move ! (1 ∷ []) $ fpick ! (λ us. fsplit ! $ fsplit ! $ feq_l ! (λ e.
      move ! (2 ∷ []) $ rewrite ! 0 (λ (ws : List Val). ‵ (cell_at full_share (Nums n ∷ []) ws b 0)) e refl $
      use1 𝓛 (‵ (fat full_share (Nums n) b 0 (array_val us))) (𝓛.laws.raw_at full_share (Nums n) b 0 (array_val us)) $
      use1 𝓛 (‵ (froom (Nums n) b 0)) (𝓛.laws.at_room (Nums n) b 0 (array_val us)) $ keep ! (0 ∷ []) $ done !)))

module _ {M : Type 1} {𝓤 : Ura M} {𝓛 : Logic 𝓤} {K : Type 0} {Γ : List (Item 𝓤)} {G : Goal 𝓤 𝓛.H} where
  pub lends_array : K → Soaks G → (ℓ : Lifetime) (n b : ℕ) → Room u32 n
      → ((ν : ℕ) (δ : GName) → Seq K 𝓛 (‵ (flft (ν ∷ []) full_share) ∷ ‵ ((MutSlice ℓ (ν ∷ []) u32).own_val (ref b 0 δ (zeros n)) (slice_val (b, 0) n ∷ [])) ∷ ‵ (Taken n b ν δ) ∷ Γ) G)
      → Seq K 𝓛 (‵ (fat full_share (Nums n) b 0 (begun n)) ∷ Γ) G
  lends_array t z ℓ n b room k =
      use1 𝓛 (‵ (row u32 full_share (zeros n) b 0)) (begun_row 𝓛 n b) $
      use1 𝓛 (‵ (cells (mem u32) (zeros n) b 0)) (whole_in 𝓛 u32 (zeros n) b 0) $
      lft_new t z (λ ν. move t (1 ∷ []) $
      use1 𝓛 (later (some (λ (δ : GName). ‵ ((MutSlice ℓ (ν ∷ []) u32).own_val (ref b 0 δ (zeros n)) (slice_val (b, 0) (length (zeros n)) ∷ [])) ⊛ ‵ (Taken (length (zeros n)) b ν δ))))
      (lends_slice 𝓛 u32 ℓ (ν ∷ []) (zeros n) b 0 (room_of n room)) $ await t z $ pick t (λ δ. split t $
      rewrite t 0 (λ (m : ℕ). ‵ ((MutSlice ℓ (ν ∷ []) u32).own_val (ref b 0 δ (zeros n)) (slice_val (b, 0) m ∷ []))) (length-replicate n 0) refl $
      rewrite t 1 (λ (m : ℕ). ‵ (Taken m b ν δ)) (length-replicate n 0) refl $ move t (2 ∷ []) $ k ν δ))
    where
      room_of : (n : ℕ) → Room u32 n → Room u32 (length (zeros n))
      room_of n room = subst (Room u32) (sym (length-replicate n 0)) room

  pub array_back : K → Soaks G → (n b : ℕ) {ν : ℕ} {δ : GName} (l : List ℕ)
      → Step K 𝓛 (‵ (row u32 full_share l b 0) ∷ Γ) G (‵ (flft (ν ∷ []) full_share) ∷ ‵ (Taken n b ν δ) ∷ ‵ (finally u32 δ l) ∷ Γ) G
  array_back t z n b {ν} {δ} l = step (λ s.
      lft_end t z $ use3 𝓛 (later (‵ ((Arr (mem u32) n).own_at l b 0))) (slice_back 𝓛 u32 (ν ∷ []) δ l n b 0) $ await t z $ fsplit t $ drop t $
      use1 𝓛 (‵ (row u32 full_share l b 0)) (whole_out 𝓛 u32 l b 0) $ s)

  pub shows_array : K → Soaks G → (ℓ : Lifetime) (n b : ℕ) (l : List ℕ) → length l ≡ n → Room u32 n
      → ((ν : ℕ) → Seq K 𝓛 (‵ (flft (ν ∷ []) full_share) ∷ ‵ ((ShrSlice ℓ (ν ∷ []) u32).own_val (ref_shr b 0 l) (slice_val (b, 0) n ∷ [])) ∷ ‵ (Shown n b ν l) ∷ Γ) G)
      → Seq K 𝓛 (‵ (row u32 full_share l b 0) ∷ Γ) G
  shows_array t z ℓ n b l e room k =
      feq_i t ℕ (length l) (length l) refl $ fjoin t $ lft_new t z (λ ν. move t (1 ∷ []) $
      use2 𝓛 (later ((‵ ((ShrSlice ℓ (ν ∷ []) u32).own_val (ref_shr b 0 l) (slice_val (b, 0) (length l) ∷ [])) ⊛ ‵ (Shown (length l) b ν l)) ⊛ ‵ (flft (ν ∷ []) full_share)))
      (lends_shr_slice 𝓛 u32 ℓ (ν ∷ []) full_share l b 0 (subst (Room u32) (sym e) room) (ν ∷ []) ((uint_Copied 𝓛 w32).shares full_share (ν ∷ [])) ((ν ∷ [], full_share) ∷ []) (Incl-refl (ν ∷ [])) (Incl-refl (ν ∷ []))) $
      await t z $ split t $ split t $
      rewrite t 0 (λ (m : ℕ). ‵ ((ShrSlice ℓ (ν ∷ []) u32).own_val (ref_shr b 0 l) (slice_val (b, 0) m ∷ []))) e refl $
      rewrite t 1 (λ (m : ℕ). ‵ (Shown m b ν l)) e refl $ move t (2 ∷ []) $ k ν)

  pub array_freed : K → Soaks G → (n b : ℕ) {ν : ℕ} (l : List ℕ)
      → Step K 𝓛 (‵ (froom (Nums n) b 0) ∷ Γ) G (‵ (flft (ν ∷ []) full_share) ∷ ‵ (Shown n b ν l) ∷ Γ) G
  array_freed t z n b {ν} l = step (λ s. lft_end t z $ lent_back t z $ use1 𝓛 (‵ (froom (Nums n) b 0)) (room_again 𝓛 n b l) $ s)
