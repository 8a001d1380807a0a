use Rattle.std.proofs.Common.{◌≡◌, ◌++◌, codes, rules}
use Rattle.pl_print.specs.TextForm.{output}
use Rattle.pl_print.proofs.Joins.{one_more}
use Rattle.pl_print.proofs.grids.push_cells.Goals as goal

pub loop-cell-preserved : goal.loop-cell-preserved
loop-cell-preserved c =
    let between : c.extend_from_slice.new.self.items ≡ c.loop-cell.out.items ++ c.loop-cell.separator.now = search rules in
    let after : c.push_value.new.out.items ≡ c.extend_from_slice.new.self.items ++ output c.cell-item.result = search rules in
    one_more output (codes "|") c.args.cells.now c.loop-cell.cell-index c.cell-item.result c.args.out.now.items c.loop-cell.separator.now _ _ _ c.loop-cell-test.true c.cell-item.is c.loop-cell.invariant.0 c.loop-cell.invariant.1 between after
