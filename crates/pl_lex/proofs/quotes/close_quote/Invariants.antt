use Rattle.std.proofs.Common.{◌≡◌, ◌+◌, ◌≤◌, length, true, false}
use Rattle.pl_lex.specs.Scan.{close_quote}
use Rattle.pl_lex.proofs.quotes.close_quote.Given as goal

abbrev pub invariant-loop-text : goal.invariant-loop-text
invariant-loop-text l = record {
  value : close_quote l.quote l.pending l.at l.text ≡ close_quote l.quote false 1 l.initial.text;
  place : l.at + length l.text ≡ length l.initial.text + 1;
  begun : 1 ≤ l.at;
  some : l.pending ≡ true → 2 ≤ l.at;
}

abbrev pub decreases-loop-text : goal.decreases-loop-text
decreases-loop-text l = length l.text
