use Rattle.std.proofs.Common.{length}
use Rattle.pl_codec.specs.Spelling.{op_bytes, is_stored_op}
use Rattle.pl_codec.proofs.ReadSoFar.{Taken, Operations}
use Rattle.pl_codec.proofs.operations.decode_all.Given as goal

abbrev pub invariant-ops : goal.invariant-ops
invariant-ops l = record {
  read : Operations l.fn.payload l.ops.items l.input;
  taken : Taken op_bytes is_stored_op l.fn.payload l.ops.items l.input;
}

abbrev pub decreases-ops : goal.decreases-ops
decreases-ops l = length l.input
