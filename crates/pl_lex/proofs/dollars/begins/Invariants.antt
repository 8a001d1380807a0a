use Rattle.std.proofs.Common.{◌≡◌, ◌+◌, length}
use Rattle.pl_lex.specs.Scan.{begins}
use Rattle.pl_lex.proofs.dollars.begins.Given as goal

abbrev pub invariant-loop-mark : goal.invariant-loop-mark
invariant-loop-mark l = record {
  value : begins l.mark l.text ≡ begins l.initial.mark l.initial.text;
  within : length l.initial.mark + length l.text ≡ length l.initial.text + length l.mark;
}

abbrev pub decreases-loop-mark : goal.decreases-loop-mark
decreases-loop-mark l = length l.mark
