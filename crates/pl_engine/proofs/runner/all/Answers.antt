use Rattle.std.proofs.Common.{◌∙◌}
use Rattle.pl_engine.proofs.Joins.{lawful, refused}
use Rattle.pl_engine.proofs.Lists.{all_ended, all_off, all_on, all_stopped}
use Rattle.pl_engine.proofs.runner.all.Goals as goal
use Rattle.pl_world.specs.Statements.{runner_for}
use Rattle.pl_engine.specs.Texts.{do_bodies}

pub returns-in_err-other-clause-is : goal.returns-in_err-other-clause-is
returns-in_err-other-clause-is g c =
    refused c.one.new.engine _ c.in_err-other.field-0.0 c.from_residual.ensures
    (all_stopped (lawful g.P.Port g.met.P.Port.none g.met.P.Port.joins g.met.P.Port.rises) (runner_for do_bodies c.args.runner.now.room) _ _ _ c.loop-s-test.true c.s-item.is c.loop-s.invariant.way c.in_err-other.ensures.is)

pub returns-in_default : goal.returns-in_default
returns-in_default g c = record {
  is = all_off (lawful g.P.Port g.met.P.Port.none g.met.P.Port.joins g.met.P.Port.rises) (runner_for do_bodies c.args.runner.now.room) _ _ _ c.loop-s-test.true c.s-item.is c.loop-s.invariant.way c.in_ok-other.other c.in_ok-other.ensures.is c.in_default.not-Next;
  keeps = c.in_ok-other.ensures.keeps ∙ c.loop-s.invariant.keeps;
}

pub loop-s-preserved : goal.loop-s-preserved
loop-s-preserved g c = record {
  way = all_on (lawful g.P.Port g.met.P.Port.none g.met.P.Port.joins g.met.P.Port.rises) (runner_for do_bodies c.args.runner.now.room) _ _ _ c.loop-s-test.true c.s-item.is c.loop-s.invariant.way c.in_ok-other.other c.in_ok-other.ensures.is c.in-Next.is;
  keeps = c.in_ok-other.ensures.keeps ∙ c.loop-s.invariant.keeps;
}

pub returns-clause-is : goal.returns-clause-is
returns-clause-is g c = all_ended (lawful g.P.Port g.met.P.Port.none g.met.P.Port.joins g.met.P.Port.rises) (runner_for do_bodies c.args.runner.now.room) _ _ c.loop-s-test.false c.loop-s.invariant.way
