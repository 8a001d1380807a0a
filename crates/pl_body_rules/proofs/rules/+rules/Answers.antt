use Rattle.std.proofs.Common.{rules, arith, ◌≡◌, map, true, false, is_some}
use Rattle.std.proofs.lemmas.Grind.{common_steps}
use Rattle.pl_body_rules.specs.Rules.{arm_view, branch_view, first}
use Rattle.pl_body_rules.proofs.Equations.{case_arms, case_rest, if_rest}
use Rattle.pl_body_rules.proofs.rules.+rules.Goals as goal

pub in_kind-returns-then-is_some-2-clause-is : goal.in_kind-returns-then-is_some-2-clause-is
in_kind-returns-then-is_some-2-clause-is t c =
    let breach = c.in_ok-breach-in-Case.breach in
    let first_arm : breach ≡ first (map (arm_view c.args.returns) c.in-Case.arms) c.args.frames.now = first_of (search rules, grind (arith, common_steps)) in
    let there : is_some breach ≡ true = first_of (search rules, grind (arith, common_steps)) in
    case_arms _ _ _ _ _ c.args.line _ _ c.in-Case.is first_arm there

pub in_kind-returns-else-is_some-clause-is : goal.in_kind-returns-else-is_some-clause-is
in_kind-returns-else-is_some-clause-is t c =
    let breach = c.in_ok-breach-in-If.breach in
    let first_branch : breach ≡ first (map (branch_view c.args.returns) c.in-If.branches) c.args.frames.now = first_of (search rules, grind (arith, common_steps)) in
    let none : is_some breach ≡ false = first_of (search rules, grind (arith, common_steps)) in
    rw (if_rest _ _ _ _ c.args.line _ _ c.in-If.is first_branch none) (first_of (search rules, grind (arith, common_steps)))

pub in_kind-returns-else-is_some-2-clause-is : goal.in_kind-returns-else-is_some-2-clause-is
in_kind-returns-else-is_some-2-clause-is t c =
    let breach = c.in_ok-breach-in-Case.breach in
    let first_arm : breach ≡ first (map (arm_view c.args.returns) c.in-Case.arms) c.args.frames.now = first_of (search rules, grind (arith, common_steps)) in
    let none : is_some breach ≡ false = first_of (search rules, grind (arith, common_steps)) in
    rw (case_rest _ _ _ _ _ c.args.line _ _ c.in-Case.is first_arm none) (first_of (search rules, grind (arith, common_steps)))
