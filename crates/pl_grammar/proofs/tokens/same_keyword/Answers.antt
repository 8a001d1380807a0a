use Rattle.std.proofs.Common.{rules}
use Rattle.pl_grammar.specs.Marks.{same_keyword}
use Rattle.pl_grammar.proofs.tokens.same_keyword.Goals as goal

pub returns : goal.returns
unfolding same_keyword
returns c = search rules
