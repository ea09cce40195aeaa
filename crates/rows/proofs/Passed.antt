-- What a search that writes records has left of its parameters at exit, where the rows go on to a callee for good: of query, measure, p, q, allowance
-- and words nothing is asked, and of the rows there is what says their last list. It serves a walk by hand of `search_rows`, and one of
-- `rushgirdle_search_rows` in the crate `surface`, which has the same parameters.
--     stayed    what is left of each
--     goes      that this is what a contract says of it
--     spells    how each is spelled in machine values
--     tells     that it tells them
-- Assumes `Logic`.
use mathlib.Core.Path.{refl}
use mathlib.Core.List.{[], ◌∷◌}
use seplogic.Ra.Ura.{Ura}
use mir.Syntax.{named, w8, w16, w32}
use types.Logic.{Logic}
use contract.Lifetimes.{Lfts}
use denote.Laws.{Ises, Spells, Tellss}
use denote.Plain.{uint_vals, uint_Tells}
use denote.Builtin.{u8, u16, u32}
use denote.Slice.{shr_slice_vals, mut_slice_vals, mut_slice_Tells, shr_slice_Tells}
use denote.Exit.{yes}
use denote.Signature.{plain, types_at}
use denote.Triple.Walked.{Stays, stay_none, gave_slice, stay_none_slice, AllGo, Goes-none, Goes-gave_slice, Goes-none_slice}
use Rattle.rows.specs.contracts.Row as row_type
use Rattle.rows.specs.contracts.search_rows as search-rows

abbrev pub stayed : Stays (search-rows.ended).signature.params (search-rows.ended).kept
stayed = (
  stay_none_slice (0 ∷ []) tt (plain (λ _. u8)) yes,
  (
    stay_none (λ _. u8) yes,
    (
      stay_none (λ _. u16) yes,
      (
        stay_none (λ _. u16) yes,
        (
          stay_none (λ _. u32) yes,
          (
            stay_none_slice (1 ∷ []) tt (plain (λ _. u32)) yes,
            (gave_slice (2 ∷ []) tt (plain (λ _. row_type.the_row)), tt),
          ),
        ),
      ),
    ),
  ),
)

pub goes : {M : Type 1} {𝓤 : Ura M} (𝓛 : Logic 𝓤) → AllGo 𝓛 3 (search-rows.signature).params (search-rows.ended).kept stayed
goes 𝓛 = (
  Goes-none_slice 𝓛 3 (0 ∷ []) tt (plain (λ _. u8)) yes,
  (
    Goes-none 𝓛 3 (λ _. u8) yes (λ κs x f. refl),
    (
      Goes-none 𝓛 3 (λ _. u16) yes (λ κs x f. refl),
      (
        Goes-none 𝓛 3 (λ _. u16) yes (λ κs x f. refl),
        (
          Goes-none 𝓛 3 (λ _. u32) yes (λ κs x f. refl),
          (
            Goes-none_slice 𝓛 3 (1 ∷ []) tt (plain (λ _. u32)) yes,
            (Goes-gave_slice 𝓛 3 2 tt (plain (λ _. row_type.the_row)), tt),
          ),
        ),
      ),
    ),
  ),
)

module _ (κs : Lfts 3) where
  abbrev pub spells : Spells (types_at (search-rows.signature).params κs)
  spells = (shr_slice_vals, (uint_vals w8, (uint_vals w16, (uint_vals w16, (uint_vals w32, (shr_slice_vals, (mut_slice_vals, tt)))))))

  abbrev pub tells : Tellss (types_at (search-rows.signature).params κs) (Ises (types_at (search-rows.signature).params κs)) spells
  tells = (
    shr_slice_Tells (named 0) κs.0 u8,
    (
      uint_Tells w8,
      (
        uint_Tells w16,
        (uint_Tells w16, (uint_Tells w32, (shr_slice_Tells (named 1) κs.1.0 u32, (mut_slice_Tells (named 2) κs.1.1.0 row_type.the_row, tt)))),
      ),
    ),
  )
