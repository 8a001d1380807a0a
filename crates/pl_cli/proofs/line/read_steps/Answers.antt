use Rattle.std.proofs.Common.{rules, ◌≢◌, slice_index}
use Rattle.pl_cli.proofs.Steps.{found, no_number}
use Rattle.pl_cli.proofs.line.read_steps.Goals as goal

pub returns-then-steps-le-MOST_STEPS : goal.returns-then-steps-le-MOST_STEPS
returns-then-steps-le-MOST_STEPS c =
    let other : slice_index c.args.text.now 0 ≢ 43 = search rules in
    let parsed = c.in-Ok.ensures.value.0 in
    found c.args.text.now c.in-Ok.steps other parsed.0.0 parsed.1 c.if-steps-ge1.true c.if-steps-le-MOST_STEPS.true

pub returns-in_default : goal.returns-in_default
returns-in_default c =
    let other : slice_index c.args.text.now 0 ≢ 43 = search rules in
    no_number c.args.text.now other c.in_default.ensures.value.0
