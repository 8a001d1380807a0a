use Rattle.std.proofs.Common.{◌∙◌, sym}
use Rattle.pl_query.proofs.KeptTables.{of_name}
use Rattle.pl_query.proofs.cache.find.Goals as goal

pub returns-then-eq : goal.returns-then-eq
returns-then-eq c =
    λ tables all. of_name tables c.args.kept.now c.loop-table.table-index c.table-item.result c.args.name c.loop-table-test.true c.table-item.is (sym c.eq.ensures ∙ c.if-eq.true) all
