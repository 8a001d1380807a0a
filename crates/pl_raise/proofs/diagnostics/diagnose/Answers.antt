use Rattle.std.proofs.Common.{◌∙◌, List, map, refl, subst, ℕ}
use Rattle.pl_asking.proofs.Acts.{each_end, each_off, each_on, quiet_start}
use Rattle.pl_asking.specs.Values.{put_in}
use Rattle.pl_base.specs.declared.value.Value.TheVariants.{Text}
use Rattle.pl_asking.specs.pl_engine.Engines.{Quiet, world}
use Rattle.pl_raise.proofs.diagnostics.diagnose.Goals as goal
use Rattle.pl_world.specs.Assigning.{put_each, stacked}

pub loop-one-init : goal.loop-one-init
loop-one-init c =
    record {
      way = quiet_start (put_each (map (stacked c.args.f.now) c.args.targets.now) c.args.at (world c.args.engine.now)) c.args.engine.now;
      keeps = refl;
    }

pub returns-in_default-clause-is : goal.returns-in_default-clause-is
returns-in_default-clause-is c =
    let mid = c.loop-one.engine in
    let put = subst (λ (t : List ℕ). Quiet (put_in c.one-item.result.target (Text t) c.args.at (world mid)) c.in_ok-other.other mid c.put_at.new.engine) c.in_ok-text.ensures c.in_ok-other.ensures.is in
    each_off c.args.at c.args.targets.now (stacked c.args.f.now) _ c.loop-one.invariant.way _ c.loop-one-test.true c.one-item.is c.put_at.new.engine c.in_ok-other.other put c.in_default.not-Next

pub loop-one-preserved : goal.loop-one-preserved
loop-one-preserved c =
    let mid = c.loop-one.engine in
    let put = subst (λ (t : List ℕ). Quiet (put_in c.one-item.result.target (Text t) c.args.at (world mid)) c.in_ok-other.other mid c.put_at.new.engine) c.in_ok-text.ensures c.in_ok-other.ensures.is in
    record {
      way = each_on c.args.at c.args.targets.now (stacked c.args.f.now) _ c.loop-one.invariant.way _ c.loop-one-test.true c.one-item.is c.put_at.new.engine c.in_ok-other.other put c.in-Next.is;
      keeps = c.in_ok-other.ensures.keeps ∙ c.loop-one.invariant.keeps;
    }

pub returns-clause-is : goal.returns-clause-is
returns-clause-is c =
    each_end c.args.at c.args.targets.now (stacked c.args.f.now) _ c.loop-one.invariant.way c.loop-one-test.false
