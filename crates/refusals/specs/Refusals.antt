-- The refusals and their numbers, and the number of an outcome: what C and the frames are told, and what the definitions of the layers speak of.
-- Assumes nothing.
use Rattle.std.specs.Prelude.{Result, Ok, Err, ℕ}
use Rattle.refusals.specs.declared.Refusal.{Refusal}
use Rattle.refusals.specs.declared.Refusal.TheVariants.{Empty, TooLong, ZeroByte, BadMeasure, BadThreshold, BadIndex, OverAllowance, NoRoom, TakenId, TooMany, Malformed, ControlCharacter, NotLive}

-- the number of a refusal
abbrev pub refusal_number : Refusal → ℕ
refusal_number Empty = 1
refusal_number TooLong = 2
refusal_number ZeroByte = 3
refusal_number BadMeasure = 4
refusal_number BadThreshold = 5
refusal_number BadIndex = 6
refusal_number OverAllowance = 7
refusal_number NoRoom = 8
refusal_number TakenId = 9
refusal_number TooMany = 10
refusal_number Malformed = 11
refusal_number ControlCharacter = 12
refusal_number NotLive = 13

-- the number of an outcome: 0, or that of its refusal
abbrev pub outcome_number : {A : Type 0} → Result A Refusal → ℕ
outcome_number (Ok x) = 0
outcome_number (Err r) = refusal_number r
