use Rattle.std.proofs.Common.{◌≡◌, Bool, false, rules, subst, true}
use Rattle.pl_direct.specs.declared.known.Known.TheVariants.{Bool as Truth}
use Rattle.pl_quick.proofs.Values.{leaves_always, leaves_if, leaves_not}
use Rattle.pl_quick.proofs.acting.leave.Goals as goal
use Rattle.pl_quick.specs.Computing.{IsValue}
use Rattle.pl_quick.specs.Scratch.{in_world}

pub returns-in-None : goal.returns-in-None
returns-in-None c = λ w. leaves_always c.args.jump c.args.condition.now (in_world c.args.scratch.now w) _ c.in-None.is c.end_of.ensures

pub returns-in-Some-true : goal.returns-in-Some-true
returns-in-Some-true c =
    let is : c.in-Some-true.field-0 ≡ true = search rules in
    λ w. leaves_if c.args.jump c.args.condition.now _ (in_world c.args.scratch.now w) _ c.in-Some.is (subst (λ (b : Bool). IsValue c.in-Some.condition (Truth b) c.args.scratch.now.values) is c.in-Some-true.ensures) c.end_of-in-Some-true.ensures

pub returns-in-Some-false : goal.returns-in-Some-false
returns-in-Some-false c =
    let is : c.in-Some-false.field-0 ≡ false = search rules in
    λ w. leaves_not c.args.jump c.args.condition.now _ (in_world c.args.scratch.now w) c.in-Some.is (subst (λ (b : Bool). IsValue c.in-Some.condition (Truth b) c.args.scratch.now.values) is c.in-Some-false.ensures)
