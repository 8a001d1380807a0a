use Rattle.std.proofs.Common.{◌≡◌, ℕ, slice_get, Some}
use Rattle.pl_base.specs.declared.value.Value.{Value}
use Rattle.pl_base.specs.declared.value.Value.TheVariants.{Null}
use Rattle.pl_journal.proofs.by_key.nulls.Given as goal

abbrev pub invariant-loop-column : goal.invariant-loop-column
invariant-loop-column l = (c : ℕ) (v : Value) → slice_get l.made.items c ≡ Some v → v ≡ Null
