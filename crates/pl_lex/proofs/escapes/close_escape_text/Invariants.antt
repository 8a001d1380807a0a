use Rattle.std.proofs.Common.{◌≡◌, ◌+◌, ◌≤◌, length}
use Rattle.pl_lex.specs.Scan.{close_escape_text}
use Rattle.pl_lex.specs.declared.escapes.Pending.TheVariants.{Nothing, Quote}
use Rattle.pl_lex.proofs.escapes.close_escape_text.Given as goal

abbrev pub invariant-loop-text : goal.invariant-loop-text
invariant-loop-text l = record {
  value : close_escape_text l.«open» l.at l.text ≡ close_escape_text Nothing 2 l.initial.text;
  place : l.at + length l.text ≡ length l.initial.text + 2;
  begun : 2 ≤ l.at;
  some : l.«open» ≡ Quote → 3 ≤ l.at;
}

abbrev pub decreases-loop-text : goal.decreases-loop-text
decreases-loop-text l = length l.text
