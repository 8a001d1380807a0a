use Rattle.std.proofs.Common.{◌≡◌, Bool, List, false, refl, rules, subst, sym, true}
use Rattle.pl_quick.proofs.Turns.{by_turn, no_turn}
use Rattle.pl_quick.proofs.turning.round_in.Goals as goal
use Rattle.pl_quick.specs.Acts.{AreFor}
use Rattle.pl_quick.specs.Computing.{IsAsked}
use Rattle.pl_quick.specs.Scratch.{in_world}
use Rattle.pl_quick.specs.declared.act.Act.{Act}

pub returns-in-Some-true : goal.returns-in-Some-true
returns-in-Some-true c =
    let is : c.in-Some-true.field-0 ≡ true = search rules in
    λ w condition body fits.
    by_turn c.turn_in.result c.args.round.now.condition condition body (in_world c.args.scratch.now w) (in_world c.turn_in.new.scratch w) fits.0 (subst (λ (b : Bool). IsAsked c.args.round.now.condition b (in_world c.args.scratch.now w)) is (c.in-Some-true.ensures w))
    (c.turn_in.ensures w fits.1.0 body (subst (λ (xs : List Act). AreFor fits.1.0 xs body w) (sym c.as_slice.ensures) fits.1.1))

pub returns-in-Some-false : goal.returns-in-Some-false
returns-in-Some-false c =
    let is : c.in-Some-false.field-0 ≡ false = search rules in
    λ w condition body fits. no_turn c.args.round.now.condition condition body (in_world c.args.scratch.now w) fits.0 (subst (λ (b : Bool). IsAsked c.args.round.now.condition b (in_world c.args.scratch.now w)) is (c.in-Some-false.ensures w))

pub returns-in-None : goal.returns-in-None
returns-in-None c = λ w condition body fits. refl
