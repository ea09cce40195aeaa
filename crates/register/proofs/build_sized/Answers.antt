-- `build_sized` meets its contract: its tables have room for as many keys as the register has.
use mathlib.Core.Path.{refl}
use native.Mathlib.Omega.{arith}
use lib.ListN.{length-replicate}
use Rattle.register.proofs.build_sized.Goals as goal

pub whole_as_slice-build_with : goal.whole_as_slice-build_with
whole_as_slice-build_with g c = let m = c.requires.0 in omega arith

pub whole_as_slice-build_with-2 : goal.whole_as_slice-build_with-2
whole_as_slice-build_with-2 g c = let m = c.requires.0 in omega arith

pub build_with-requires : goal.build_with-requires
build_with-requires g c = (refl, refl, λ p m h. rw length-replicate (c.requires.1 p m h), refl)
