use Rattle.std.proofs.Common.{◌≡◌, ◌++◌, take, codes}
use Rattle.std.specs.List.{join_by}
use Rattle.pl_print.specs.TextForm.{field_text}
use Rattle.pl_print.proofs.Joins.{separator_after}
use Rattle.pl_print.proofs.forms.+output.Given as goal

abbrev pub invariant-push_fields-loop-field : goal.invariant-push_fields-loop-field
invariant-push_fields-loop-field l =
    (l.separator ≡ separator_after (codes ",") (take l.field-index l.fields)) ×
    (l.out.items ≡ l.initial.out.items ++ join_by field_text (codes ",") (take l.field-index l.fields))
