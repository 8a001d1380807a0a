use Rattle.std.proofs.Common.{◌∙◌}
use Rattle.pl_query.proofs.Standing.{argument_here}
use Rattle.pl_query.proofs.along.leaf_at.Goals as goal

pub returns-in-Some-leaf_of : goal.returns-in-Some-leaf_of
returns-in-Some-leaf_of g c = λ calls sub frame w. argument_here calls sub c.args.arguments.now c.args.at c.in-Some.argument.now frame w c.in-Some.ensures ∙ c.in-Some-leaf_of.ensures calls sub frame w
