use Rattle.std.proofs.Common.{subst}
use Rattle.pl_altering.proofs.Placed.{none_shown, some_shown}
use Rattle.pl_altering.proofs.altering.refuse_rows.Goals as goal
use Rattle.pl_querying.specs.pl_engine.Engines.{Quiet, world}
use Rattle.pl_targets.specs.declared.change.RChange.{RChange}
use Rattle.pl_world.specs.Commands.{unless_returning}
use Rattle.pl_world.specs.declared.outcome.Outcome.TheVariants as outcome

pub returns-then-is_empty : goal.returns-then-is_empty
returns-then-is_empty c =
    let e = c.args.engine.now in
    subst (λ (x : RChange). Quiet (unless_returning x.heads c.args.at (world e)) outcome.Next e e) c.change.ensures (none_shown c.change.result.now.heads c.args.at e (c.is_empty.ensures.0 c.if-is_empty.true))

pub returns-else-is_empty : goal.returns-else-is_empty
returns-else-is_empty c =
    let e = c.args.engine.now in
    subst (λ (x : RChange). Quiet (unless_returning x.heads c.args.at (world e)) c.raise.result e e) c.change.ensures (some_shown c.change.result.now.heads c.is_empty.result c.args.at e c.raise.result c.is_empty.ensures c.if-is_empty.false c.raise.ensures)
