use Rattle.std.proofs.Common.{arith}
use Rattle.pl_undo.proofs.Marks.{no_past}
use Rattle.pl_undo.proofs.database.settle_objects.Goals as goal

pub returns-else-changes-gt0-clause-past : goal.returns-else-changes-gt0-clause-past
returns-else-changes-gt0-clause-past c =
    let le = c.if-changes-gt0.false in
    no_past c.args.catalog.now.past c.changes.result c.changes.ensures (λ lt. omega (arith, lt, le))
