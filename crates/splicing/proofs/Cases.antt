-- Worked examples, by computation.
-- Assumes nothing.
use mathlib.Core.Path.{◌≡◌, refl}
use mathlib.Core.List.{[], ◌∷◌}
use Rattle.splicing.specs.Splice.{put_in, take_out, places_of}

-- before the first word, two before one word in their order, and after the last word
put_example : put_in (0 ∷ 2 ∷ 2 ∷ 3 ∷ []) (1 ∷ 2 ∷ 3 ∷ 4 ∷ []) (70 ∷ 71 ∷ 72 ∷ []) ≡ 1 ∷ 70 ∷ 71 ∷ 2 ∷ 3 ∷ 72 ∷ 4 ∷ []
unfolding put_in
put_example = refl

places_example : places_of (0 ∷ 2 ∷ 2 ∷ 3 ∷ []) ≡ 0 ∷ 3 ∷ 4 ∷ 6 ∷ []
unfolding places_of
places_example = refl

take_example : take_out (0 ∷ 3 ∷ 4 ∷ 6 ∷ []) (1 ∷ 70 ∷ 71 ∷ 2 ∷ 3 ∷ 72 ∷ 4 ∷ []) ≡ 70 ∷ 71 ∷ 72 ∷ []
unfolding take_out
take_example = refl
