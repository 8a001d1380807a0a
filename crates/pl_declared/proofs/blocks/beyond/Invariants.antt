use Rattle.std.proofs.Common.{◌≡◌, ◌-◌, drop}
use Rattle.pl_world.specs.Variables.{variables_of}
use Rattle.pl_declared.proofs.blocks.beyond.Given as goal

abbrev pub invariant-loop-block : goal.invariant-loop-block
invariant-loop-block l = l.beyond - variables_of (drop l.block-index l.blocks) ≡ l.count - variables_of l.blocks
