use Rattle.std.proofs.Common.{◌≡◌, ℕ, ◌+◌, ◌<◌, ◌≤◌, fold, take}
use Rattle.pl_grammar.specs.Marks.{kinds}
use Rattle.pl_grammar.specs.Deep.{step, start, open_parts}
use Rattle.pl_grammar.proofs.depth.deep.Given as goal

abbrev pub invariant-loop-at : goal.invariant-loop-at
invariant-loop-at l = record {
  parts : l.parts ≡ fold step start (take l.at (kinds l.tokens));
  few : (k : ℕ) → k < l.at → open_parts (take (k + 1) (kinds l.tokens)) ≤ 100;
}
