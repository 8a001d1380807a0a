use Rattle.std.proofs.Common.{◌∙◌, subst, sym}
use Rattle.std.specs.Option.{option_copied}
use Rattle.pl_engine.specs.Engines.{world}
use Rattle.pl_engine.specs.pl_world.World.{World}
use Rattle.pl_quick.proofs.Turns.{same_only}
use Rattle.pl_quick.proofs.quick.Quick.try_turn.Goals as goal
use Rattle.pl_quick.specs.Acts.{PlanFits, RoundFits}
use Rattle.pl_quick.specs.Computing.{OnlyComputed, TurnedAs}
use Rattle.pl_quick.specs.declared.quick.Plan.{Plan}
use Rattle.pl_quick.specs.declared.turning.Turned.{Turned}

pub returns-in-Left : goal.returns-in-Left
returns-in-Left c =
    let condition = option_copied c.args.condition in
    let w = world c.args.engine.now in
    let fits = subst (λ (p : Plan). PlanFits p condition c.args.body.now w) c.in-Made.is c.wait.ensures.suits in
    let mid = subst (λ (w : World). RoundFits c.in-Made.round condition c.args.body.now w) (sym c.wait.ensures.is) fits in
    let turned = subst (λ (w : World). TurnedAs c.round_by.result condition c.args.body.now w (world c.round_by.new.engine)) c.wait.ensures.is (c.round_by.ensures.turned condition c.args.body.now mid) in
    record {
      turned = subst (λ (t : Turned). TurnedAs t condition c.args.body.now w (world c.round_by.new.engine)) c.in-Left.is turned;
      only = subst (λ (w : World). OnlyComputed w (world c.round_by.new.engine)) c.wait.ensures.is c.round_by.ensures.only;
      suits = tt;
      left = λ is w. tt;
      keeps = c.round_by.ensures.keeps ∙ c.wait.ensures.keeps;
    }

pub returns-in_default : goal.returns-in_default
returns-in_default c =
    let condition = option_copied c.args.condition in
    let w = world c.args.engine.now in
    let fits = subst (λ (p : Plan). PlanFits p condition c.args.body.now w) c.in-Made.is c.wait.ensures.suits in
    let mid = subst (λ (w : World). RoundFits c.in-Made.round condition c.args.body.now w) (sym c.wait.ensures.is) fits in
    let turned = subst (λ (w : World). TurnedAs c.round_by.result condition c.args.body.now w (world c.round_by.new.engine)) c.wait.ensures.is (c.round_by.ensures.turned condition c.args.body.now mid) in
    record {
      turned = turned;
      only = subst (λ (w : World). OnlyComputed w (world c.round_by.new.engine)) c.wait.ensures.is c.round_by.ensures.only;
      suits = subst (λ (p : Plan). PlanFits p condition c.args.body.now (world c.round_by.new.engine)) (sym c.in-Made.is)
          (subst (λ (w : World). RoundFits c.in-Made.round condition c.args.body.now w) (sym c.round_by.ensures.only) mid);
      left = λ is w. absurd (c.in_default.not-Left is);
      keeps = c.round_by.ensures.keeps ∙ c.wait.ensures.keeps;
    }

pub returns-in-Waiting : goal.returns-in-Waiting
returns-in-Waiting c =
    let condition = option_copied c.args.condition in
    record {
      turned = c.wait.ensures.is;
      only = same_only (world c.args.engine.now) (world c.wait.new.engine) c.wait.ensures.is;
      suits = subst (λ (p : Plan). PlanFits p condition c.args.body.now (world c.wait.new.engine)) (sym c.in-Waiting.is) tt;
      left = λ is w. subst (λ (p : Plan). PlanFits p condition c.args.body.now w) (sym c.in-Waiting.is) tt;
      keeps = c.wait.ensures.keeps;
    }

pub returns-in-GivenUp : goal.returns-in-GivenUp
returns-in-GivenUp c =
    let condition = option_copied c.args.condition in
    record {
      turned = c.wait.ensures.is;
      only = same_only (world c.args.engine.now) (world c.wait.new.engine) c.wait.ensures.is;
      suits = subst (λ (p : Plan). PlanFits p condition c.args.body.now (world c.wait.new.engine)) (sym c.in-GivenUp.is) tt;
      left = λ is w. subst (λ (p : Plan). PlanFits p condition c.args.body.now w) (sym c.in-GivenUp.is) tt;
      keeps = c.wait.ensures.keeps;
    }
