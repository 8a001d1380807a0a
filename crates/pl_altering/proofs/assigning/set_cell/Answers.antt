use Rattle.std.proofs.Common.{sym, arith}
use Rattle.std.proofs.lemmas.List.{set_past}
use Rattle.pl_altering.proofs.assigning.set_cell.Goals as goal

pub returns-else-column-len : goal.returns-else-column-len
returns-else-column-len c = sym (set_past c.args.row.now c.args.column c.args.value (omega (arith, c.len.ensures, c.if-column-len.false)))
