use Rattle.std.proofs.Common.{◌∙◌}
use Rattle.pl_body_grammar.proofs.Pairs.{any_pair}
use Rattle.pl_body_grammar.proofs.ahead.sees_pair.Goals as goal

pub returns : goal.returns
returns c = c.sees_any.ensures ∙ any_pair _ _ _
