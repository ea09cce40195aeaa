-- The numbers of the refusals: none is 0, and no two are the same.
use Rattle.std.proofs.Common.{◌≡◌, ℕ, ◌≤◌, Result, Ok, Err, cond, eqb, refl, arith, rules}
use Rattle.refusals.specs.declared.Refusal.{Refusal}
use Rattle.refusals.specs.declared.Refusal.TheVariants.{Empty, TooLong, ZeroByte, BadMeasure, BadThreshold, BadIndex, OverAllowance, NoRoom, TakenId, TooMany, Malformed, ControlCharacter, NotLive}
use Rattle.refusals.specs.Refusals.{refusal_number}

-- a refusal's number is from 1 to 13
pub number_within : (r : Refusal) → (1 ≤ refusal_number r) × (refusal_number r ≤ 13)
number_within Empty = search rules
number_within TooLong = search rules
number_within ZeroByte = search rules
number_within BadMeasure = search rules
number_within BadThreshold = search rules
number_within BadIndex = search rules
number_within OverAllowance = search rules
number_within NoRoom = search rules
number_within TakenId = search rules
number_within TooMany = search rules
number_within Malformed = search rules
number_within ControlCharacter = search rules
number_within NotLive = search rules

-- so it is not 0
pub refused : (r : Refusal) → refusal_number r ≡ 0 → ⊥
refused r e = let w = number_within r in omega arith

-- the refusal of a number; of any other number than the thirteen, the last
abbrev pub refusal_with : ℕ → Refusal
refusal_with n =
    cond (eqb n 1) Empty (cond (eqb n 2) TooLong (cond (eqb n 3) ZeroByte (cond (eqb n 4) BadMeasure (cond (eqb n 5) BadThreshold (cond (eqb n 6) BadIndex (cond (eqb n 7) OverAllowance (cond (eqb n 8) NoRoom (cond (eqb n 9) TakenId (cond (eqb n 10) TooMany (cond (eqb n 11) Malformed (cond (eqb n 12) ControlCharacter NotLive)))))))))))

-- a number tells which refusal it is
pub with_number : (r : Refusal) → refusal_with (refusal_number r) ≡ r
with_number Empty = refl
with_number TooLong = refl
with_number ZeroByte = refl
with_number BadMeasure = refl
with_number BadThreshold = refl
with_number BadIndex = refl
with_number OverAllowance = refl
with_number NoRoom = refl
with_number TakenId = refl
with_number TooMany = refl
with_number Malformed = refl
with_number ControlCharacter = refl
with_number NotLive = refl

-- a test of whether it is 0 finds that it is not
pub with_back : {A : Type 0} (r : Refusal) (x : A) → cond (eqb (refusal_number r) 0) (Ok x) (Err (refusal_with (refusal_number r))) ≡ Err r
with_back Empty x = refl
with_back TooLong x = refl
with_back ZeroByte x = refl
with_back BadMeasure x = refl
with_back BadThreshold x = refl
with_back BadIndex x = refl
with_back OverAllowance x = refl
with_back NoRoom x = refl
with_back TakenId x = refl
with_back TooMany x = refl
with_back Malformed x = refl
with_back ControlCharacter x = refl
with_back NotLive x = refl
