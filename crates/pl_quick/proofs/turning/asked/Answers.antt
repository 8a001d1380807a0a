use Rattle.std.proofs.lemmas.Option.{IfSome_then}
use Rattle.pl_quick.proofs.Turns.{asked_none, asked_some}
use Rattle.pl_quick.proofs.turning.asked.Goals as goal
use Rattle.pl_quick.specs.Scratch.{in_world}

pub returns-in-None : goal.returns-in-None
returns-in-None c = λ w. asked_none c.args.condition.now (in_world c.args.scratch.now w) c.in-None.is

pub returns-in-Some : goal.returns-in-Some
returns-in-Some c = IfSome_then c.holds.result c.holds.ensures (λ b has w. asked_some c.args.condition.now _ b (in_world c.args.scratch.now w) c.in-Some.is has)
