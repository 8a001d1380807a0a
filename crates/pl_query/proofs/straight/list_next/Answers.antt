use Rattle.std.proofs.Common.{rules}
use Rattle.pl_value.specs.Frames.{rows_of}
use Rattle.pl_query.proofs.Passing.{back}
use Rattle.pl_query.proofs.straight.list_next.Goals as goal

pub returns-clause-stands : goal.returns-clause-stands
returns-clause-stands g c =
    back c.args.stands.now.items c.put_behind.new.stands.items c.truncate.new.self.items (rows_of c.args.bundle.now) c.len-before.result (search rules) c.in_ok-put_behind.ensures c.truncate.ensures.items
