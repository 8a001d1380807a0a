use Rattle.std.proofs.Common.{rules}
use Rattle.pl_query.proofs.Shortened.{finished, next_short}
use Rattle.pl_query.proofs.ending.shorten_each.Goals as goal

pub loop-at-preserved : goal.loop-at-preserved
loop-at-preserved c =
    next_short c.args.columns c.loop-at.at c.args.rows.now.items c.loop-at.rows.items c.index_mut.result.now c.shorten.new.row c.loop-at.invariant (search rules) c.index_mut.ensures.value c.shorten.ensures

pub returns : goal.returns
returns c = finished c.args.columns c.loop-at.at c.args.rows.now.items c.loop-at.rows.items c.loop-at.invariant (search rules)
