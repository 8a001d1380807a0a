use Rattle.std.proofs.Common.{refl}
use Rattle.pl_body_grammar.specs.declared.parts.TypeSuffix.TheVariants as suffix
use Rattle.pl_body_grammar.specs.Words.{ROWTYPE, TYPE}
use Rattle.pl_grammar.specs.Rule.{fork, nothing, ◌before◌}
use Rattle.pl_body_grammar.proofs.Step.{was, reading, took, left, behind, absent}
use Rattle.pl_body_cursors.proofs.declarations.copied_type.Goals as goal

pub returns-then-eat : goal.returns-then-eat
returns-then-eat c = reading (fork ROWTYPE (nothing suffix.RowType) (TYPE before nothing suffix.OfVariable)) _ _ (took _ _ _ _ _ _ _ _ refl c.eat.ensures.result c.if-eat.true c.eat.ensures.new (was _ _ _ refl))

pub returns-then-eat-2 : goal.returns-then-eat-2
returns-then-eat-2 c = reading (fork ROWTYPE (nothing suffix.RowType) (TYPE before nothing suffix.OfVariable)) _ _ (left _ _ _ _ _ _ _ _ refl c.eat.ensures.result c.if-eat.false c.eat.ensures.new (behind _ _ _ _ _ _ _ refl c.eat-2.ensures.result c.if-eat-2.true c.eat-2.ensures.new (was _ _ _ refl)))

pub returns : goal.returns
returns c = λ s. reading (fork ROWTYPE (nothing suffix.RowType) (TYPE before nothing suffix.OfVariable)) _ _ (left _ _ _ _ _ _ _ _ refl c.eat.ensures.result c.if-eat.false c.eat.ensures.new (absent _ _ _ _ _ refl c.eat-2.ensures.result c.if-eat-2.false))
