use Rattle.std.proofs.Common.{rules}
use Rattle.pl_grammar.specs.Marks.{same_sign}
use Rattle.pl_grammar.proofs.tokens.same_sign.Goals as goal

pub returns : goal.returns
unfolding same_sign
returns c = search rules
