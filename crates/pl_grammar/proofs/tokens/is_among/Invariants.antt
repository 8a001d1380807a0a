use Rattle.std.proofs.Common.{◌≡◌, drop, map}
use Rattle.pl_grammar.specs.Marks.{meant, among}
use Rattle.pl_grammar.proofs.tokens.is_among.Given as goal

abbrev pub invariant-loop-mark : goal.invariant-loop-mark
invariant-loop-mark l = among (map meant l.marks) l.kind ≡ among (map meant (drop l.mark-index l.marks)) l.kind
