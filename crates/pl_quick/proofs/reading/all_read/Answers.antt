use Rattle.std.proofs.Common.{◌+◌, ◌∙◌, [], ◌++◌, ◌∷◌, List, ap, drop, drop_of_length-le, length, map}
use Rattle.pl_quick.proofs.Arguments.{counted_all, counted_on, one_fewer, values_on}
use Rattle.pl_quick.proofs.reading.all_read.Goals as goal
use Rattle.pl_resolved.specs.declared.expression.RExpr.{RExpr}
use Rattle.pl_value.specs.Meaning.{value, values}

pub loop-e-preserved : goal.loop-e-preserved
loop-e-preserved g c =
    let fewer = one_fewer c.args.list.now c.loop-e.e-index c.e-item.result c.loop-e-test.true c.e-item.is in
    record {
      count = counted_on c.loop-e.read c.push.new.self _ (length (drop c.loop-e.e-index c.args.list.now)) (length (drop (c.loop-e.e-index + 1) c.args.list.now)) (length c.args.list.now) c.in-Ok.ensures.ok fewer c.loop-e.invariant.count;
      are = λ calls sub w. values_on calls sub (c.args.variables.now ∷ []) w c.args.list.now c.loop-e.e-index c.e-item.result c.loop-e.read c.push.new.self _ c.loop-e-test.true c.e-item.is (c.loop-e.invariant.are calls sub w) (c.in-Some.ensures calls sub w) (c.in-Ok.ensures.ok ∙ ap (λ v. c.loop-e.read ++ v ∷ []) c.value.ensures);
    }

pub returns : goal.returns
returns g c =
    let none = drop_of_length-le c.args.list.now c.loop-e-test.false in
    λ yes. record {
      count = counted_all c.loop-e.read (drop c.loop-e.e-index c.args.list.now) (length c.args.list.now) none c.loop-e.invariant.count;
      are = λ calls sub w. c.loop-e.invariant.are calls sub w ∙ ap (λ (list : List RExpr). values (map (value calls sub) list) c.loop-e.read (c.args.variables.now ∷ []) w) none;
    }
