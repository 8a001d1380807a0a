use Rattle.std.proofs.Common.{◌∙◌, arith}
use Rattle.std.proofs.lemmas.List.{length-set}
use Rattle.pl_groups.specs.Tallies.{shown}
use Rattle.pl_query.proofs.Passing.{added_all, added_next}
use Rattle.pl_query.specs.Along.{pair_in}
use Rattle.pl_value.specs.Frames.{rows_of}
use Rattle.pl_query.proofs.along.add_pairs.Goals as goal

pub loop-at-preserved : goal.loop-at-preserved
loop-at-preserved c =
    let was = c.loop-at.invariant in
    record {
      columns = added_next (pair_in (rows_of c.args.frame.now)) shown c.args.pairs.now c.loop-at.columns.items c.loop-at.at c.index-pairs-at.result c.index_mut.result.now c.add_pair.new.column
          (omega (arith, c.loop-at-test.true)) c.index-pairs-at.is (omega (arith, c.loop-at-test.true, was.long)) c.index_mut.ensures.value c.in_ok-add_pair.ensures was.columns;
      long = length-set c.loop-at.columns.items c.loop-at.at c.add_pair.new.column ∙ was.long;
    }

pub returns-clause-columns : goal.returns-clause-columns
returns-clause-columns c =
    added_all (pair_in (rows_of c.args.frame.now)) shown c.args.pairs.now c.loop-at.columns.items c.loop-at.at (omega (arith, c.loop-at-test.false, c.loop-at.invariant.long)) c.loop-at.invariant.columns
