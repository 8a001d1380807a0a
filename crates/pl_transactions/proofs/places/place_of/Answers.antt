use Rattle.std.proofs.Common.{◌∙◌, true, false, arith, sym}
use Rattle.pl_transactions.proofs.Pairs.{place_behind}
use Rattle.pl_transactions.proofs.places.place_of.Goals as goal

pub returns-then-eq-clause-is : goal.returns-then-eq-clause-is
returns-then-eq-clause-is c =
    sym (c.loop-newest.invariant.place
    ∙ place_behind c.args.name c.loop-newest.rest.now c.in-Some.older.now c.in-Some.newest.now c.in-Some.ensures.cases.0 c.eq.result c.eq.ensures true c.if-eq.true)

pub loop-newest-preserved : goal.loop-newest-preserved
loop-newest-preserved c = record {
  place = c.loop-newest.invariant.place
      ∙ place_behind c.args.name c.loop-newest.rest.now c.in-Some.older.now c.in-Some.newest.now c.in-Some.ensures.cases.0 c.eq.result c.eq.ensures false c.if-eq.false;
  within = omega (arith, c.in-Some.ensures.cases.1, c.loop-newest.invariant.within);
}
