use Rattle.std.proofs.Common.{◌≡◌, take}
use Rattle.pl_codec.specs.Spelling.{ops_bytes}
use Rattle.pl_codec.proofs.ReadsBack.{EachOp}
use Rattle.pl_codec.proofs.payload.encode_all.Given as goal

abbrev pub invariant-loop-op : goal.invariant-loop-op
invariant-loop-op l = record {
  spelled : l.bytes.items ≡ ops_bytes (take l.op-index l.ops);
  read_back : EachOp (take l.op-index l.ops);
}
