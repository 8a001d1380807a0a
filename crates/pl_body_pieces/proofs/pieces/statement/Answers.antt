use Rattle.std.proofs.Common.{refl, ap, Some}
use Rattle.pl_bodies.specs.declared.simple.Simple.TheVariants as simple
use Rattle.pl_grammar.specs.Parser.{Outcome, and_then}
use Rattle.pl_body_grammar.specs.Grammar.{Statement}
use Rattle.pl_body_grammar.specs.declared.parts.Piece.TheVariants as piece
use Rattle.pl_body_grammar.proofs.Step.{was, gives, took, left, begun, other, makes, makes_none}
use Rattle.pl_body_pieces.proofs.pieces.statement.Goals as goal

pub returns-in-Ok : goal.returns-in-Ok
returns-in-Ok c = gives Statement _ _ (took _ _ _ _ _ _ _ _ refl c.eat.ensures.result c.if-eat.true c.eat.ensures.new (was _ _ _ (ap (λ (o : Outcome (Unit {0})). and_then o (λ _ ts. Some (piece.Simple simple.Null, ts))) c.in-Ok.ensures)))

pub returns-in-Err : goal.returns-in-Err
returns-in-Err c = λ s. gives Statement _ _ (took _ _ _ _ _ _ _ _ refl c.eat.ensures.result c.if-eat.true c.eat.ensures.new (was _ _ _ (ap (λ (o : Outcome (Unit {0})). and_then o (λ _ ts. Some (piece.Simple simple.Null, ts))) (c.in-Err.ensures s))))

pub returns-in-Ok-until : goal.returns-in-Ok-until
returns-in-Ok-until c = gives Statement _ _ (left _ _ _ _ _ _ _ _ refl c.eat.ensures.result c.if-eat.false c.eat.ensures.new (begun _ _ _ _ _ _ refl c.begins.ensures c.if-begins.true (makes _ _ _ _ _ _ _ refl (was _ _ _ (c.in-Ok-until.ensures _ c.read_definition-definition.ensures)) refl)))

pub returns-in-Err-until : goal.returns-in-Err-until
returns-in-Err-until c = λ s. gives Statement _ _ (left _ _ _ _ _ _ _ _ refl c.eat.ensures.result c.if-eat.false c.eat.ensures.new (begun _ _ _ _ _ _ refl c.begins.ensures c.if-begins.true (makes_none _ _ _ _ refl (was _ _ _ (c.in-Err-until.ensures _ c.read_definition-definition.ensures s)))))

pub returns-in-Ok-action : goal.returns-in-Ok-action
returns-in-Ok-action c = gives Statement _ _ (left _ _ _ _ _ _ _ _ refl c.eat.ensures.result c.if-eat.false c.eat.ensures.new (other _ _ _ _ _ _ refl c.begins.ensures c.if-begins.false (makes _ _ _ _ _ _ _ refl (was _ _ _ c.in-Ok-action.ensures) refl)))

pub returns-in-Err-action : goal.returns-in-Err-action
returns-in-Err-action c = λ s. gives Statement _ _ (left _ _ _ _ _ _ _ _ refl c.eat.ensures.result c.if-eat.false c.eat.ensures.new (other _ _ _ _ _ _ refl c.begins.ensures c.if-begins.false (makes_none _ _ _ _ refl (was _ _ _ (c.in-Err-action.ensures s)))))
