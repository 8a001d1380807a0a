use Rattle.std.proofs.Common.{◌≡◌, ◌++◌, take}
use Rattle.std.specs.List.{flat_map}
use Rattle.pl_codec.specs.Spelling.{value_bytes}
use Rattle.pl_codec.proofs.ReadsBack.{EachValue}
use Rattle.pl_codec.proofs.payload.push_values.Given as goal

abbrev pub invariant-loop-value : goal.invariant-loop-value
invariant-loop-value l = record {
  spelled : l.bytes.items ≡ l.initial.bytes.items ++ flat_map value_bytes (take l.value-index l.values);
  read_back : EachValue (take l.value-index l.values);
}
