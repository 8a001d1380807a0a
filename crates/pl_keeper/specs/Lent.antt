-- Proofs that other crates' proofs may cite; no definition. What two closed areas stand for, and areas of which a header is malformed.
use Rattle.std.proofs.Common.{◌≡◌, [], Option, None, Result, Ok, Err, ap}
use Rattle.pl_base.specs.Image.{Image}
use Rattle.pl_base.specs.declared.area.Area.{Area}
use Rattle.pl_base.specs.declared.area.Area.TheVariants.{A}
use Rattle.pl_keeper.specs.Batches.{Damage, counting, log_in, batches}

pub none_stored : (c : Image) → counting c ≡ Ok None → batches c ≡ Ok (record { area = A; list = [] })
unfolding batches
none_stored c none = ap (λ (r : Result (Option Area) Damage). log_in c r) none

pub misheaded : (c : Image) (damage : Damage) → counting c ≡ Err damage → batches c ≡ Err damage
unfolding batches
misheaded c damage is = ap (λ (r : Result (Option Area) Damage). log_in c r) is
