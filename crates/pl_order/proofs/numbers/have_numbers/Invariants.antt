use Rattle.std.proofs.Common.{◌≡◌, drop}
use Rattle.std.specs.List.{list_all}
use Rattle.pl_order.specs.Numbers.{has_number}
use Rattle.pl_order.proofs.numbers.have_numbers.Given as goal

abbrev pub invariant-loop-row : goal.invariant-loop-row
invariant-loop-row l = list_all (has_number l.item) l.rows ≡ list_all (has_number l.item) (drop l.row-index l.rows)
