use Rattle.pl_engine.proofs.Joins.{lawful, refused, answered, becomes}
use Rattle.pl_engine.specs.Engines.{world}
use Rattle.pl_engine.specs.Texts.{do_bodies}
use Rattle.pl_flow.proofs.Asked.{asked_off, asked_on, asked_stopped}
use Rattle.pl_flow.proofs.Lists.{branch_here, branch_next, branches_end}
use Rattle.pl_flow.proofs.branching.branches.Goals as goal
use Rattle.pl_flow.specs.Answered.{truth_of}
use Rattle.pl_bodies.specs.declared.statement.Statement.{Statement}
use Rattle.pl_engine.specs.pl_world.Running.{all}
use Rattle.pl_engine.specs.pl_world.Statements.{runner_for}
use Rattle.std.proofs.Common.{◌∙◌, ap, sym, rules, true, false, List}

pub returns-in_err-answer-clause-is : goal.returns-in_err-answer-clause-is
returns-in_err-answer-clause-is g c =
    let law = lawful g.P.Port g.met.P.Port.none g.met.P.Port.joins g.met.P.Port.rises in
    let r = runner_for do_bodies c.args.runner.now.room in
    let here = branch_here r c.args.at c.args.or_else.now law c.args.branches.now _ c.loop-branch.invariant.way _ c.loop-branch-test.true c.branch-item.is in
    refused c.ask.new.engine _ c.in_err-answer.field-0.0 c.from_residual.ensures (asked_stopped law truth_of (branch_next r c.args.at c.args.or_else.now _ _) here c.in_err-answer.ensures.is)

pub returns-in-Ok-true-clause-is : goal.returns-in-Ok-true-clause-is
returns-in-Ok-true-clause-is g c =
    let law = lawful g.P.Port g.met.P.Port.none g.met.P.Port.joins g.met.P.Port.rises in
    let r = runner_for do_bodies c.args.runner.now.room in
    let here = branch_here r c.args.at c.args.or_else.now law c.args.branches.now _ c.loop-branch.invariant.way _ c.loop-branch-test.true c.branch-item.is in
    answered law _ _ _ (becomes law (asked_on law truth_of (branch_next r c.args.at c.args.or_else.now _ _) here c.in_ok-answer.answer true c.in_ok-answer.ensures.is (search rules)) (ap (λ (ss : List Statement). all r ss (world c.ask.new.engine)) (sym c.as_slice.ensures))) c.all.ensures.is

pub returns-in-Err-clause-is : goal.returns-in-Err-clause-is
returns-in-Err-clause-is g c =
    let law = lawful g.P.Port g.met.P.Port.none g.met.P.Port.joins g.met.P.Port.rises in
    let r = runner_for do_bodies c.args.runner.now.room in
    let here = branch_here r c.args.at c.args.or_else.now law c.args.branches.now _ c.loop-branch.invariant.way _ c.loop-branch-test.true c.branch-item.is in
    asked_off law truth_of (branch_next r c.args.at c.args.or_else.now _ _) here c.in_ok-answer.answer _ c.in_ok-answer.ensures.is (search rules)

pub loop-branch-preserved : goal.loop-branch-preserved
loop-branch-preserved g c =
    let law = lawful g.P.Port g.met.P.Port.none g.met.P.Port.joins g.met.P.Port.rises in
    let r = runner_for do_bodies c.args.runner.now.room in
    let here = branch_here r c.args.at c.args.or_else.now law c.args.branches.now _ c.loop-branch.invariant.way _ c.loop-branch-test.true c.branch-item.is in
    record {
      way = asked_on law truth_of (branch_next r c.args.at c.args.or_else.now _ _) here c.in_ok-answer.answer false c.in_ok-answer.ensures.is (search rules);
      keeps = c.in_ok-answer.ensures.keeps ∙ c.loop-branch.invariant.keeps;
    }

pub returns-clause-is : goal.returns-clause-is
returns-clause-is g c =
    let law = lawful g.P.Port g.met.P.Port.none g.met.P.Port.joins g.met.P.Port.rises in
    let r = runner_for do_bodies c.args.runner.now.room in
    answered law _ _ _ (branches_end r c.args.at c.args.or_else.now law c.args.branches.now _ c.loop-branch.invariant.way c.loop-branch-test.false) c.otherwise.ensures.is
