use Rattle.std.proofs.Common.{◌≡◌, ◌+◌, ◌≤◌, ◌<◌, length, false}
use Rattle.pl_lex.specs.Scan.{close_comment}
use Rattle.pl_lex.proofs.comments.close_comment.Given as goal

abbrev pub invariant-loop-text : goal.invariant-loop-text
invariant-loop-text l = record {
  value : close_comment l.depth l.skip l.at l.text ≡ close_comment 1 false 2 l.initial.text;
  place : l.at + length l.text ≡ length l.initial.text + 2;
  begun : 2 ≤ l.at;
  few : l.depth < l.at;
}

abbrev pub decreases-loop-text : goal.decreases-loop-text
decreases-loop-text l = length l.text
