use Rattle.std.proofs.Common.{◌≡◌, drop, map}
use Rattle.pl_grammar.specs.Marks.{meant}
use Rattle.pl_body_grammar.specs.Ahead.{sees_with}
use Rattle.pl_body_grammar.proofs.ahead.sees_with.Given as goal

abbrev pub invariant-loop-mark : goal.invariant-loop-mark
invariant-loop-mark l = sees_with (meant l.first) (map meant l.second) l.tokens ≡ sees_with (meant l.first) (map meant (drop l.mark-index l.second)) l.tokens
