use Rattle.std.proofs.Common.{◌∙◌, subst, sym}
use Rattle.pl_control.proofs.Ending.{free, may, may_not}
use Rattle.pl_control.proofs.commits.commit.Goals as goal
use Rattle.pl_engine.proofs.Joins.{acted, becomes, lawful, start}
use Rattle.pl_engine.specs.Answers.{Answers}
use Rattle.pl_engine.specs.Engines.{world}
use Rattle.pl_engine.specs.pl_world.Transactions.{commits}
use Rattle.pl_engine.specs.pl_world.World.{Ran}
use Rattle.pl_engine.specs.pl_world.declared.outcome.Outcome.{Outcome}

pub commit-requires-clause-unmarked : goal.commit-requires-clause-unmarked
commit-requires-clause-unmarked g c = free (world c.args.engine.now) (sym c.may_commit.ensures ∙ c.if-may_commit.true)

pub returns-then-may_commit-clause-is : goal.returns-then-may_commit-clause-is
returns-then-may_commit-clause-is g c =
    subst (λ (ran : Ran Outcome). Answers g.P.Port ran c.commit.result c.args.engine.now c.commit.new.engine c.args.port.now c.commit.new.port)
    (sym (may c.args.at (world c.args.engine.now) (sym c.may_commit.ensures ∙ c.if-may_commit.true))) c.commit.ensures.is

pub returns-clause-is : goal.returns-clause-is
returns-clause-is g c =
    let law = lawful g.P.Port g.met.P.Port.none g.met.P.Port.joins g.met.P.Port.rises in
    let w = world c.args.engine.now in
    acted law (becomes law (start law (commits c.args.at w) c.args.engine.now c.args.port.now c.requires.fits) (may_not c.args.at w (sym c.may_commit.ensures ∙ c.if-may_commit.false))) c.raise.ensures
