use Rattle.std.proofs.Common.{◌≡◌, ◌++◌, [], length, Some}
use Rattle.pl_journal.specs.Operation.{apply_all}
use Rattle.pl_journal.proofs.journal.Journal.apply_all.Given as goal

abbrev pub invariant-loop-op : goal.invariant-loop-op
invariant-loop-op l = record {
  applied : apply_all l.yielded l.fn.self.now ≡ Some l.self.now;
  settled : l.self.last ≡ l.self.now;
  unmarked : l.self.marks ≡ [];
  split : l.fn.ops.items ≡ l.yielded ++ l.op-iterator.rest.items;
  counted : length l.op-iterator.rest.items ≡ l.op-iterator.rest.len;
}
