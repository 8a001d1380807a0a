use Rattle.std.proofs.Common.{◌≡◌, fold, take}
use Rattle.pl_keys.specs.Marks.{with_field}
use Rattle.pl_keys.proofs.marks.+marks.Given as goal

abbrev pub invariant-mark_of_fields-loop-field : goal.invariant-mark_of_fields-loop-field
invariant-mark_of_fields-loop-field l = l.mark ≡ fold with_field 6 (take l.field-index l.fields)
