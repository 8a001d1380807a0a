use Rattle.std.proofs.Common.{◌≡◌, ◌++◌, ◌∷◌, [], List, map, sym, subst, arith, rules}
use Rattle.pl_query.proofs.Passing.{Argued, argued_all, argued_next, argued_none}
use Rattle.pl_query.specs.Query.{aggregation}
use Rattle.pl_query.specs.Rows.{arguments}
use Rattle.pl_query.specs.declared.along.Pair.{Pair}
use Rattle.pl_query.proofs.along.pairs_of.Goals as goal

pub loop-aggregate-init : goal.loop-aggregate-init
loop-aggregate-init g c = λ calls sub frame w.
    let none : c.in_ok-pairs.pairs.items ≡ [] = search rules in
    subst (λ (done : List Pair). Argued calls sub frame (arguments (map (aggregation calls sub) c.args.aggregates.now) frame w) c.args.aggregates.now done w) (sym none) (argued_none calls sub frame c.args.aggregates.now w)

pub loop-aggregate-preserved : goal.loop-aggregate-preserved
loop-aggregate-preserved g c = λ calls sub frame w.
    let grown : c.push.new.self.items ≡ c.loop-aggregate.pairs.items ++ c.in-Some.pair ∷ [] = search rules in
    argued_next calls sub frame c.args.aggregates.now c.loop-aggregate.aggregate-index c.aggregate-item.result c.loop-aggregate-test.true c.aggregate-item.is c.loop-aggregate.pairs.items c.push.new.self.items c.in-Some.pair w grown
    (c.in-Some.ensures calls sub frame w).0 (c.in-Some.ensures calls sub frame w).1 (c.loop-aggregate.invariant calls sub frame w)

pub returns : goal.returns
returns g c = λ calls sub frame w.
    argued_all calls sub frame c.args.aggregates.now c.loop-aggregate.aggregate-index c.loop-aggregate.pairs.items w (omega (arith, c.loop-aggregate-test.false)) (c.loop-aggregate.invariant calls sub frame w)
