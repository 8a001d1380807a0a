use Rattle.std.proofs.Common.{◌≡◌, length}
use Rattle.pl_codec.specs.Spelling.{value_bytes, is_stored_value}
use Rattle.pl_codec.proofs.ReadSoFar.{Taken, Values}
use Rattle.pl_codec.proofs.values.read_values.Given as goal

abbrev pub invariant-loop-turn : goal.invariant-loop-turn
invariant-loop-turn l = record {
  size : length l.values ≡ l._turn;
  read : Values l.fn.input l.fn.count l.values l.input;
  taken : Taken value_bytes is_stored_value l.fn.input l.values l.input;
}
