use Rattle.std.proofs.Common.{◌≡◌, ◌+◌, length}
use Rattle.pl_lex.specs.Scan.{find_mark}
use Rattle.pl_lex.proofs.dollars.find_mark.Given as goal

abbrev pub invariant-loop-text : goal.invariant-loop-text
invariant-loop-text l = record {
  value : find_mark l.mark l.at l.text ≡ find_mark l.mark (length l.mark) l.initial.text;
  place : l.at + length l.text ≡ length l.mark + length l.initial.text;
}

abbrev pub decreases-loop-text : goal.decreases-loop-text
decreases-loop-text l = length l.text
