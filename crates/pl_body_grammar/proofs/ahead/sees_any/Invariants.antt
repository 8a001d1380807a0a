use Rattle.std.proofs.Common.{◌≡◌, drop, map}
use Rattle.pl_grammar.specs.Marks.{meant}
use Rattle.pl_body_grammar.specs.Ahead.{sees_any}
use Rattle.pl_body_grammar.proofs.ahead.sees_any.Given as goal

abbrev pub invariant-loop-mark : goal.invariant-loop-mark
invariant-loop-mark l = sees_any (map meant l.first) (map meant l.second) l.tokens ≡ sees_any (map meant (drop l.mark-index l.first)) (map meant l.second) l.tokens
