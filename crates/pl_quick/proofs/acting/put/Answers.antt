use Rattle.std.proofs.Common.{◌∙◌, ap, refl, sym}
use Rattle.pl_engine.specs.pl_world.World.{World, ends}
use Rattle.pl_engine.specs.pl_world.declared.outcome.Outcome.TheVariants as outcome
use Rattle.pl_quick.proofs.Olds.{set_in}
use Rattle.pl_quick.proofs.Values.{puts_it}
use Rattle.pl_quick.proofs.acting.put.Goals as goal
use Rattle.pl_quick.specs.Calling.{given_to}
use Rattle.pl_quick.specs.Scratch.{in_world}

pub returns-then-assign-clause-computes : goal.returns-then-assign-clause-computes
returns-then-assign-clause-computes c = λ w at is_required.
    puts_it at (in_world c.args.scratch.now w) (given_to c.args.a.now is_required) c.args.known c.in-Some.value c.in-Some.ensures
    ∙ ap (λ (w : World). ends outcome.Next w) (sym (set_in w c.args.scratch.now c.assign.new.scratch c.args.a.now.column c.in-Some.value (c.if-assign.ensures.done refl) c.if-assign.ensures.steps))
