use Rattle.std.proofs.lemmas.Option.{IfSome_then}
use Rattle.pl_quick.proofs.Values.{assigns}
use Rattle.pl_quick.proofs.acting.give.Goals as goal
use Rattle.pl_quick.specs.Calling.{given_to}
use Rattle.pl_quick.specs.Computing.{outcome_of}
use Rattle.pl_quick.specs.Scratch.{in_world}

pub returns-in-Some-clause-computes : goal.returns-in-Some-clause-computes
returns-in-Some-clause-computes c = λ w. IfSome_then (outcome_of c.put.result) (c.put.ensures.computes w) (λ o puts r at t e given.
    assigns r at (in_world c.args.scratch.now w) t e (given_to c.args.a.now given.is_required) c.args.a.now.value c.in-Some.known o (in_world c.put.new.scratch w) given.aims given.reads c.in-Some.ensures (puts at given.is_required))
