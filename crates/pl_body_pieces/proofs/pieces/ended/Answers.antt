use Rattle.std.proofs.Common.{refl, ap, Some}
use Rattle.pl_grammar.specs.Parser.{Outcome, and_then}
use Rattle.pl_body_grammar.specs.Grammar.{Ended}
use Rattle.pl_body_grammar.specs.declared.parts.Piece.TheVariants as piece
use Rattle.pl_body_grammar.proofs.Step.{was, gives, took, left, makes, makes_none}
use Rattle.pl_body_pieces.proofs.pieces.ended.Goals as goal

pub returns-in-Ok : goal.returns-in-Ok
returns-in-Ok c = gives Ended _ _ (took _ _ _ _ _ _ _ _ refl c.eat.ensures.result c.if-eat.true c.eat.ensures.new (was _ _ _ (ap (λ (o : Outcome (Unit {0})). and_then o (λ _ ts. Some (piece.EndIf, ts))) c.in-Ok.ensures)))

pub returns-in-Err : goal.returns-in-Err
returns-in-Err c = λ s. gives Ended _ _ (took _ _ _ _ _ _ _ _ refl c.eat.ensures.result c.if-eat.true c.eat.ensures.new (was _ _ _ (ap (λ (o : Outcome (Unit {0})). and_then o (λ _ ts. Some (piece.EndIf, ts))) (c.in-Err.ensures s))))

pub returns-in-Ok-expect : goal.returns-in-Ok-expect
returns-in-Ok-expect c = gives Ended _ _ (left _ _ _ _ _ _ _ _ refl c.eat.ensures.result c.if-eat.false c.eat.ensures.new (took _ _ _ _ _ _ _ _ refl c.eat-2.ensures.result c.if-eat-2.true c.eat-2.ensures.new (was _ _ _ (ap (λ (o : Outcome (Unit {0})). and_then o (λ _ ts. Some (piece.EndCase, ts))) c.in-Ok-expect.ensures))))

pub returns-in-Err-expect : goal.returns-in-Err-expect
returns-in-Err-expect c = λ s. gives Ended _ _ (left _ _ _ _ _ _ _ _ refl c.eat.ensures.result c.if-eat.false c.eat.ensures.new (took _ _ _ _ _ _ _ _ refl c.eat-2.ensures.result c.if-eat-2.true c.eat-2.ensures.new (was _ _ _ (ap (λ (o : Outcome (Unit {0})). and_then o (λ _ ts. Some (piece.EndCase, ts))) (c.in-Err-expect.ensures s)))))

pub returns-in-Ok-ended_label : goal.returns-in-Ok-ended_label
returns-in-Ok-ended_label c = gives Ended _ _ (left _ _ _ _ _ _ _ _ refl c.eat.ensures.result c.if-eat.false c.eat.ensures.new (left _ _ _ _ _ _ _ _ refl c.eat-2.ensures.result c.if-eat-2.false c.eat-2.ensures.new (took _ _ _ _ _ _ _ _ refl c.eat-3.ensures.result c.if-eat-3.true c.eat-3.ensures.new (makes _ _ _ _ _ _ _ refl (was _ _ _ c.in-Ok-ended_label.ensures) refl))))

pub returns-in-Err-ended_label : goal.returns-in-Err-ended_label
returns-in-Err-ended_label c = λ s. gives Ended _ _ (left _ _ _ _ _ _ _ _ refl c.eat.ensures.result c.if-eat.false c.eat.ensures.new (left _ _ _ _ _ _ _ _ refl c.eat-2.ensures.result c.if-eat-2.false c.eat-2.ensures.new (took _ _ _ _ _ _ _ _ refl c.eat-3.ensures.result c.if-eat-3.true c.eat-3.ensures.new (makes_none _ _ _ _ refl (was _ _ _ (c.in-Err-ended_label.ensures s))))))

pub returns-in-Ok-ended_label-2 : goal.returns-in-Ok-ended_label-2
returns-in-Ok-ended_label-2 c = gives Ended _ _ (left _ _ _ _ _ _ _ _ refl c.eat.ensures.result c.if-eat.false c.eat.ensures.new (left _ _ _ _ _ _ _ _ refl c.eat-2.ensures.result c.if-eat-2.false c.eat-2.ensures.new (left _ _ _ _ _ _ _ _ refl c.eat-3.ensures.result c.if-eat-3.false c.eat-3.ensures.new (makes _ _ _ _ _ _ _ refl (was _ _ _ c.in-Ok-ended_label-2.ensures) refl))))

pub returns-in-Err-ended_label-2 : goal.returns-in-Err-ended_label-2
returns-in-Err-ended_label-2 c = λ s. gives Ended _ _ (left _ _ _ _ _ _ _ _ refl c.eat.ensures.result c.if-eat.false c.eat.ensures.new (left _ _ _ _ _ _ _ _ refl c.eat-2.ensures.result c.if-eat-2.false c.eat-2.ensures.new (left _ _ _ _ _ _ _ _ refl c.eat-3.ensures.result c.if-eat-3.false c.eat-3.ensures.new (makes_none _ _ _ _ refl (was _ _ _ (c.in-Err-ended_label-2.ensures s))))))
