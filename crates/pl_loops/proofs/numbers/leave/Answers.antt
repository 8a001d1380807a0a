use Rattle.std.proofs.Common.{refl, sym}
use Rattle.pl_loops.proofs.Overs.{left_failed, left_found}
use Rattle.pl_loops.proofs.numbers.leave.Goals as goal

pub returns-in-Fail-clause-is : goal.returns-in-Fail-clause-is
returns-in-Fail-clause-is c = left_failed c.args.range c.args.end c.args.engine.now c.close.new.self c.close.ensures.is _ c.in-Fail.fail c.in-Fail.is (sym c.in-Fail.is)

pub returns-in_default-clause-is : goal.returns-in_default-clause-is
returns-in_default-clause-is c = left_found c.args.range c.args.end c.args.engine.now c.close.new.self c.close.ensures.is _ c.set_found.new.self c.in_default.not-Fail c.set_found.ensures.is refl
