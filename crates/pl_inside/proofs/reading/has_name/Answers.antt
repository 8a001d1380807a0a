use Rattle.std.proofs.Common.{◌∙◌, sym}
use Rattle.pl_inside.proofs.Names.{is_there}
use Rattle.pl_inside.proofs.reading.has_name.Goals as goal

pub returns-then-eq : goal.returns-then-eq
returns-then-eq c found =
    is_there c.args.names.now c.loop-known.known-index c.known-item.result c.args.name c.loop-known-test.true c.known-item.is (sym c.eq.ensures ∙ c.if-eq.true)
