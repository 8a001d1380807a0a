use Rattle.std.proofs.Common.{◌∙◌, length}
use Rattle.std.proofs.lemmas.Result.{IfOk-weaker}
use Rattle.pl_altering.proofs.Ended.{after_counting}
use Rattle.pl_altering.proofs.altering.count_rows.Goals as goal
use Rattle.pl_world.specs.Commands.{returned}
use Rattle.pl_world.specs.World.{World}

pub returns-clause-is : goal.returns-clause-is
returns-clause-is c =
    IfOk-weaker c.place.result _ _ (λ o q. after_counting (length c.args.rows.now) (λ (w : World). returned c.args.clause.now c.args.a.now c.args.rows.now c.args.at w) o c.args.engine.now c.count.new.self c.place.new.engine c.count.ensures.is q) c.place.ensures.is

pub returns-clause-keeps : goal.returns-clause-keeps
returns-clause-keeps c = IfOk-weaker c.place.result _ _ (λ o k. k ∙ c.count.ensures.keeps) c.place.ensures.keeps
