use Rattle.std.proofs.Common.{refl}
use Rattle.pl_body_grammar.specs.declared.parts.Piece.TheVariants as piece
use Rattle.pl_body_grammar.specs.Grammar as spec
use Rattle.pl_grammar.specs.Words.{CASE}
use Rattle.pl_sql_parse.specs.Words.{FOR}
use Rattle.pl_body_grammar.specs.Words.{WHILE}
use Rattle.pl_grammar.specs.Rule.{fork, make, part, ◌before◌}
use Rattle.pl_body_grammar.proofs.Step.{was, reading, so_read, took, left, behind, absent, makes, makes_none}
use Rattle.pl_body_pieces.proofs.pieces.case_or_loop.Goals as goal

pub returns-in-Ok : goal.returns-in-Ok
returns-in-Ok c = reading (fork CASE (make (λ p. piece.Case p.0 p.1) (part spec.FirstArm)) (fork WHILE spec.while_head (FOR before make piece.Loop (part spec.For)))) _ _ (took _ _ _ _ _ _ _ _ refl c.eat.ensures.result c.if-eat.true c.eat.ensures.new (makes _ _ _ _ _ _ _ refl (was _ _ _ c.in-Ok.ensures) refl))

pub returns-in-Err : goal.returns-in-Err
returns-in-Err c = λ s. reading (fork CASE (make (λ p. piece.Case p.0 p.1) (part spec.FirstArm)) (fork WHILE spec.while_head (FOR before make piece.Loop (part spec.For)))) _ _ (took _ _ _ _ _ _ _ _ refl c.eat.ensures.result c.if-eat.true c.eat.ensures.new (makes_none _ _ _ _ refl (was _ _ _ (c.in-Err.ensures s))))

pub returns-then-eat-2 : goal.returns-then-eat-2
returns-then-eat-2 c = so_read _ _ _ _ (reading (fork CASE (make (λ p. piece.Case p.0 p.1) (part spec.FirstArm)) (fork WHILE spec.while_head (FOR before make piece.Loop (part spec.For)))) _ _ (left _ _ _ _ _ _ _ _ refl c.eat.ensures.result c.if-eat.false c.eat.ensures.new (took _ _ _ _ _ _ _ _ refl c.eat-2.ensures.result c.if-eat-2.true c.eat-2.ensures.new (was _ _ _ refl)))) c.while_head.ensures

pub returns : goal.returns
returns c = λ s. reading (fork CASE (make (λ p. piece.Case p.0 p.1) (part spec.FirstArm)) (fork WHILE spec.while_head (FOR before make piece.Loop (part spec.For)))) _ _ (left _ _ _ _ _ _ _ _ refl c.eat.ensures.result c.if-eat.false c.eat.ensures.new (left _ _ _ _ _ _ _ _ refl c.eat-2.ensures.result c.if-eat-2.false c.eat-2.ensures.new (absent _ _ _ _ _ refl c.eat-3.ensures.result c.if-eat-3.false)))

pub returns-in-Ok-for_head : goal.returns-in-Ok-for_head
returns-in-Ok-for_head c = reading (fork CASE (make (λ p. piece.Case p.0 p.1) (part spec.FirstArm)) (fork WHILE spec.while_head (FOR before make piece.Loop (part spec.For)))) _ _ (left _ _ _ _ _ _ _ _ refl c.eat.ensures.result c.if-eat.false c.eat.ensures.new (left _ _ _ _ _ _ _ _ refl c.eat-2.ensures.result c.if-eat-2.false c.eat-2.ensures.new (behind _ _ _ _ _ _ _ refl c.eat-3.ensures.result c.if-eat-3.true c.eat-3.ensures.new (makes _ _ _ _ _ _ _ refl (was _ _ _ c.in-Ok-for_head.ensures) refl))))

pub returns-in-Err-for_head : goal.returns-in-Err-for_head
returns-in-Err-for_head c = λ s. reading (fork CASE (make (λ p. piece.Case p.0 p.1) (part spec.FirstArm)) (fork WHILE spec.while_head (FOR before make piece.Loop (part spec.For)))) _ _ (left _ _ _ _ _ _ _ _ refl c.eat.ensures.result c.if-eat.false c.eat.ensures.new (left _ _ _ _ _ _ _ _ refl c.eat-2.ensures.result c.if-eat-2.false c.eat-2.ensures.new (behind _ _ _ _ _ _ _ refl c.eat-3.ensures.result c.if-eat-3.true c.eat-3.ensures.new (makes_none _ _ _ _ refl (was _ _ _ (c.in-Err-for_head.ensures s))))))
