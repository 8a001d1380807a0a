use Rattle.std.proofs.Common.{drop, length-drop, arith}
use Rattle.pl_lex.proofs.Digits.{tenfold}
use Rattle.pl_lex.proofs.numbers.number.Goals as goal

pub returns-then-number-clause-greater : goal.returns-then-number-clause-greater
returns-then-number-clause-greater c = omega (arith, tenfold c.loop-b.number (drop c.loop-b.b-index c.args.digits.now) (simp length-drop (omega arith)), c.loop-b.invariant.value)
