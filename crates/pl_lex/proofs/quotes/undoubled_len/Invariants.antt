use Rattle.std.proofs.Common.{◌≡◌, ◌+◌, ◌≤◌, length, false}
use Rattle.pl_lex.specs.Scan.{undoubled}
use Rattle.pl_lex.proofs.quotes.undoubled_len.Given as goal

abbrev pub invariant-loop-text : goal.invariant-loop-text
invariant-loop-text l = record {
  value : l.len + length (undoubled l.quote l.second l.text) ≡ length (undoubled l.quote false l.initial.text);
  within : l.len + length l.text ≤ length l.initial.text;
}

abbrev pub decreases-loop-text : goal.decreases-loop-text
decreases-loop-text l = length l.text
