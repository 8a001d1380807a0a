use Rattle.std.proofs.Common.{◌∙◌, ap, sym}
use Rattle.pl_engine.specs.Engines.{world}
use Rattle.pl_engine.specs.pl_world.World.{Static}
use Rattle.pl_quick.proofs.Plans.{return_for}
use Rattle.pl_quick.proofs.Values.{returned_by}
use Rattle.pl_quick.proofs.making.return_for.Goals as goal

pub returns-clause-act : goal.returns-clause-act
returns-clause-act c =
    let due = ap (λ (s : Static). s.result) (sym c.declared.ensures) ∙ (sym c.result.ensures ∙ c.in-Some.is) in
    λ n. return_for n (world c.args.engine.now) c.in_ok-value.value c.args.e.now (returned_by c.args.e.now c.in_ok-value.value _ (world c.args.engine.now) c.in_ok-value.ensures.reads due)
