use Rattle.pl_inside.proofs.Names.{no_more, one_more}
use Rattle.pl_inside.proofs.reading.add_name.Goals as goal

pub returns-then-has_name : goal.returns-then-has_name
returns-then-has_name c = no_more c.args.names.now.items c.as_slice.result.now c.args.name c.as_slice.ensures.value (c.has_name.ensures c.if-has_name.true)

pub returns : goal.returns
returns c = one_more c.args.names.now.items c.push.new.self.items c.args.name c.in_ok-push.ensures.items
