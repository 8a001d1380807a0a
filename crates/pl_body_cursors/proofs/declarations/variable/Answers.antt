use Rattle.std.proofs.Common.{refl}
use Rattle.pl_bodies.specs.declared.declaration.DeclarationKind.TheVariants as d
use Rattle.pl_body_grammar.specs.Grammar as spec
use Rattle.pl_grammar.specs.Rule.{make, part}
use Rattle.pl_body_grammar.proofs.Step.{was, reading, makes, makes_none}
use Rattle.pl_body_cursors.proofs.declarations.variable.Goals as goal

pub returns-in-Ok : goal.returns-in-Ok
returns-in-Ok c = reading (make (λ p. d.Variable c.args.is_constant p.0 p.1.0 p.1.1) (part spec.Typed)) _ _ (makes _ _ _ _ _ _ _ refl (was _ _ _ c.in-Ok.ensures) refl)

pub returns-in-Err : goal.returns-in-Err
returns-in-Err c = λ s. reading (make (λ p. d.Variable c.args.is_constant p.0 p.1.0 p.1.1) (part spec.Typed)) _ _ (makes_none _ _ _ _ refl (was _ _ _ (c.in-Err.ensures s)))
