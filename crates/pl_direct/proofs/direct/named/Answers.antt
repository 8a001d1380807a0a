use Rattle.std.proofs.Common.{refl}
use Rattle.std.proofs.lemmas.Option.{IfSome_then}
use Rattle.pl_direct.proofs.Parts.{name_is}
use Rattle.pl_direct.proofs.direct.named.Goals as goal

pub returns : goal.returns
returns g c = IfSome_then c.known_there.result c.known_there.ensures (λ k stands. name_is _ _ _ k _ c.in_ok-spot.ensures refl stands)
