use Rattle.std.proofs.Common.{refl}
use Rattle.pl_body_grammar.specs.Grammar as spec
use Rattle.pl_sql_parse.specs.Words.{FOR}
use Rattle.pl_grammar.specs.Rule.{part, ◌before◌}
use Rattle.pl_body_grammar.specs.Grammar.{NotScrolled}
use Rattle.pl_body_grammar.proofs.Step.{was, reading, gives, so_read, behind, absent}
use Rattle.pl_body_cursors.proofs.cursors.for_not_scrolled.Goals as goal

pub returns-then-eat : goal.returns-then-eat
returns-then-eat c = so_read _ _ _ _ (reading (FOR before part spec.NotScrolled) _ _ (behind _ _ _ _ _ _ _ refl c.eat.ensures.result c.if-eat.true c.eat.ensures.new (was _ _ _ (gives NotScrolled _ _ (was _ _ _ refl))))) c.opened_as.ensures

pub returns : goal.returns
returns c = λ s. reading (FOR before part spec.NotScrolled) _ _ (absent _ _ _ _ _ refl c.eat.ensures.result c.if-eat.false)
