use Rattle.std.proofs.Common.{◌≡◌, ◌⊎◌, ℕ, drop, slice_get, Some}
use Rattle.pl_base.specs.declared.value.Value.{Value}
use Rattle.pl_journal.specs.ByKey.{Begins}
use Rattle.pl_value.specs.Frames.{rows_of}
use Rattle.pl_journal.proofs.by_key.note_all.Given as goal

abbrev pub invariant-loop-part : goal.invariant-loop-part
invariant-loop-part l =
    record {
      front : (c : ℕ) (v : Value) → Begins (rows_of l.around) l.columns c v (drop l.part-index l.parts) → Begins (rows_of l.around) l.columns c v l.parts;
      noted : (c : ℕ) (v : Value) → slice_get l.asked.items c ≡ Some v → Begins (rows_of l.around) l.columns c v l.parts ⊎ (slice_get l.fn.asked.items c ≡ Some v);
    }
