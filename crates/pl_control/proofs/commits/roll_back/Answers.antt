use Rattle.std.proofs.Common.{◌∙◌, sym}
use Rattle.pl_control.proofs.Ending.{not_rolled, rolled, rolled_kept}
use Rattle.pl_control.proofs.commits.roll_back.Goals as goal

pub returns-then-may_commit-clause-is : goal.returns-then-may_commit-clause-is
returns-then-may_commit-clause-is c = rolled c.args.at c.args.engine.now c.reset.new.self (sym c.may_commit.ensures ∙ c.if-may_commit.true) c.reset.ensures.world

pub returns-then-may_commit-clause-keeps : goal.returns-then-may_commit-clause-keeps
returns-then-may_commit-clause-keeps c = rolled_kept c.args.at c.args.engine.now c.reset.new.self (sym c.may_commit.ensures ∙ c.if-may_commit.true) c.reset.ensures.keeps

pub returns-clause-is : goal.returns-clause-is
returns-clause-is c = not_rolled c.args.at c.args.engine.now c.raise.result (sym c.may_commit.ensures ∙ c.if-may_commit.false) c.raise.ensures
