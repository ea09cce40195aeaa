-- A text into a lent buffer: all of it or, where it does not fit, nothing and 8. What a writer of a frame without a name answers and leaves is the same
-- of its line. The laws are in proofs/Fitted.antt.
-- Assumes nothing.
use Rattle.std.specs.Prelude.{cond, List, ◌++◌, ℕ, length, drop, leb}
use Rattle.fields.specs.Layouts.{Written}

-- what is answered, of so much room
unfoldable pub fitting_of : List ℕ → ℕ → Written
fitting_of text room = cond (leb (length text) room) (record { number = 0; len = length text }) (record { number = 8; len = 0 })

-- what the buffer holds then
unfoldable pub fitted_of : List ℕ → List ℕ → List ℕ
fitted_of text out = cond (leb (length text) (length out)) (text ++ drop (length text) out) out
