use Rattle.std.proofs.lemmas.Option.{IfSome_then}
use Rattle.pl_direct.proofs.Parts.{parameter_is}
use Rattle.pl_direct.proofs.direct.numbered.Goals as goal

pub returns : goal.returns
returns g c = IfSome_then c.known_at.result c.known_at.ensures (λ k stands. parameter_is _ _ _ k _ c.in_ok-meaning.ensures.0 c.in_ok-meaning.ensures.1 stands)
