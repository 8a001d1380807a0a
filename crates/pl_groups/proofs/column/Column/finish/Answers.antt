use Rattle.std.proofs.Common.{◌∙◌, subst, ap}
use Rattle.pl_calc.specs.Answer.{Gives}
use Rattle.pl_groups.specs.Lent.{finished_is}
use Rattle.pl_groups.specs.Tallies.{finished}
use Rattle.pl_groups.proofs.column.Column.finish.Goals as goal

pub returns-clause-aggregated : goal.returns-clause-aggregated
returns-clause-aggregated c pairs is =
    subst (Gives c.answer.result) (ap finished is ∙ finished_is c.args.self.now.aggregate pairs) c.answer.ensures
