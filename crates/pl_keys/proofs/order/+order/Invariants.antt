use Rattle.std.proofs.Common.{◌≡◌, drop}
use Rattle.std.specs.Cmp.Lexicographic.{slice_cmp}
use Rattle.pl_keys.specs.Order.{field_order}
use Rattle.pl_keys.proofs.order.+order.Given as goal

abbrev pub invariant-fields_order-loop-field : goal.invariant-fields_order-loop-field
invariant-fields_order-loop-field l =
    slice_cmp field_order l.fields l.others ≡ slice_cmp field_order (drop l.field-index l.fields) l.rest
