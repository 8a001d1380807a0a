use Rattle.pl_quick.proofs.Values.{returns_it}
use Rattle.pl_quick.proofs.acting.returned.Goals as goal
use Rattle.pl_quick.specs.Scratch.{in_world}

pub returns-in-Some : goal.returns-in-Some
returns-in-Some c = λ w r at e gives. returns_it r at (in_world c.args.scratch.now w) e c.args.value.now c.in-Some.known gives c.in-Some.ensures
