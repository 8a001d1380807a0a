use Rattle.pl_direct.specs.declared.known.Known.{Known}
use Rattle.pl_quick.specs.Old.{old_value}
use Rattle.std.proofs.Common.{Option, Some, ap, rules, ◌∙◌, ◌≡◌}
use Rattle.std.proofs.lemmas.Option.{IfSome_then}
use Rattle.pl_base.specs.declared.value.Value.{Value}
use Rattle.pl_engine.specs.pl_world.Assigning.{put}
use Rattle.pl_quick.proofs.Called.{each_world}
use Rattle.pl_quick.proofs.calls.leave_call.Goals as goal
use Rattle.pl_quick.specs.Calling.{given_to}
use Rattle.pl_quick.specs.Computing.{outcome_of}
use Rattle.pl_quick.specs.Scratch.{computed_to}

pub returns-clause-computes : goal.returns-clause-computes
returns-clause-computes c =
    let some : c.in-Some-Some.field-0 ≡ Some c.in-Some-Some.known = search rules in
    IfSome_then (outcome_of c.put.result) (each_world _ (outcome_of c.put.result) c.put.ensures.computes) (λ o puts. record {
      known = c.in-Return.known;
      returned = c.in-Return.is;
      v = c.in-Some.value;
      fits = c.in-Some.ensures;
      puts = λ w at is_required.
          ap (λ (v : Value). put (given_to c.args.a.now is_required) v at (computed_to c.args.scratch.now.values c.args.steps w)) (c.in-Some-Some.ensures ∙ ap (λ (k : Option Known). old_value k) some) ∙ puts w at is_required;
      steps_left = c.put.ensures.steps;
    })
