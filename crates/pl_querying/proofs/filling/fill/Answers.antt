use Rattle.std.proofs.Common.{◌≡◌, ◌∙◌, ℕ, arith, ap, length}
use Rattle.std.proofs.lemmas.Result.{IfOk-weaker}
use Rattle.std.specs.Prelude.{min}
use Rattle.pl_asking.specs.pl_engine.Engines.{world}
use Rattle.pl_querying.proofs.Filled.{after_counting}
use Rattle.pl_querying.proofs.filling.fill.Goals as goal
use Rattle.pl_world.specs.Commands.{into_one}
use Rattle.pl_world.specs.Variables.{counted}
use Rattle.pl_world.specs.World.{World}

pub returns-clause-is : goal.returns-clause-is
returns-clause-is c =
    let w = world c.args.engine.now in
    let one : c.min-taken.result ≡ min 1 (length c.args.rows.now) = let taken = c.min-taken.ensures in omega (arith, taken) in
    let is = c.count.ensures.is ∙ ap (λ (n : ℕ). counted n w) one in
    IfOk-weaker c.into.result _ _ (λ o q. after_counting (min 1 (length c.args.rows.now)) (λ (w : World). into_one c.args.is_strict c.args.variables.now c.args.rows.now c.args.at w) o c.args.engine.now c.count.new.self c.into.new.engine is q) c.into.ensures.is

pub returns-clause-keeps : goal.returns-clause-keeps
returns-clause-keeps c = IfOk-weaker c.into.result _ _ (λ o k. k ∙ c.count.ensures.keeps) c.into.ensures.keeps
