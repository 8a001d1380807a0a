use Rattle.std.proofs.Common.{◌∙◌, sym}
use Rattle.pl_asking.proofs.Acts.{quiet_if, quiet_is}
use Rattle.pl_asking.specs.pl_engine.Engines.{world}
use Rattle.pl_raise.proofs.Newest.{stacked_first, stacked_none}
use Rattle.pl_raise.proofs.diagnostics.diagnose_stacked.Goals as goal

pub returns-in-Some-clause-is : goal.returns-in-Some-clause-is
returns-in-Some-clause-is c =
    let e = c.args.engine.now in
    quiet_if e c.diagnose.new.engine c.diagnose.result (stacked_first c.args.at (world e) c.args.targets.now c.in-Some.f (sym c.in-Some.is ∙ c.in_ok-f.ensures)) c.diagnose.ensures.is

pub returns-in-None-clause-is : goal.returns-in-None-clause-is
returns-in-None-clause-is c =
    let e = c.args.engine.now in
    quiet_is c.raise.result e e (stacked_none c.args.at (world e) c.args.targets.now (sym c.in-None.is ∙ c.in_ok-f.ensures)) c.raise.ensures
