use Rattle.pl_engine.proofs.Joins.{lawful, refused, start}
use Rattle.pl_engine.specs.Engines.{world}
use Rattle.pl_engine.specs.Texts.{do_bodies}
use Rattle.pl_flow.proofs.Asked.{asked_off, asked_on, asked_stopped}
use Rattle.pl_loops.proofs.Repeats.{each_end, each_here, each_later, later}
use Rattle.pl_loops.proofs.numbers.each.Goals as goal
use Rattle.pl_loops.specs.Turns.{going_of}
use Rattle.pl_loops.specs.Ranges.{numbers_in}
use Rattle.pl_engine.specs.pl_world.Control.{each}
use Rattle.pl_base.specs.declared.value.Value.TheVariants.{Int}
use Rattle.pl_engine.specs.pl_world.Variables.{with_value}
use Rattle.std.proofs.lemmas.Int.{to_z-of_z}
use Rattle.std.specs.Int.{w32}
use Rattle.std.specs.Prelude.{FitsSigned}
use Rattle.pl_engine.specs.pl_world.Statements.{runner_for}
use Rattle.std.proofs.Common.{◌∙◌, ap, refl, rules, arith, ℤ, None}

pub loop-number-init : goal.loop-number-init
loop-number-init g c =
    let law = lawful g.P.Port g.met.P.Port.none g.met.P.Port.joins g.met.P.Port.rises in
    let r = runner_for do_bodies c.args.runner.now.room in
    record {
      way = start law (each r c.args.at c.args.label.now c.args.to c.args.body.now (numbers_in c.args.range) (world c.args.engine.now)) c.args.engine.now c.args.port.now c.requires.fits;
      integers = c.requires.integers;
      suits = c.new-quick.ensures None c.args.body.now (world c.args.engine.now);
      keeps = refl;
    }

pub returns-in_err-end-clause-is : goal.returns-in_err-end-clause-is
returns-in_err-end-clause-is g c =
    let law = lawful g.P.Port g.met.P.Port.none g.met.P.Port.joins g.met.P.Port.rises in
    let r = runner_for do_bodies c.args.runner.now.room in
    let fits : FitsSigned w32 c.in-Some.number = search rules in
    let set = c.set.ensures.is ∙ ap (λ (z : ℤ). with_value c.args.to (Int z) (world c.loop-number.engine)) (to_z-of_z w32 c.in-Some.number fits) in
    let here = each_here r c.args.at c.args.label.now c.args.to c.args.body.now law _ c.loop-number.invariant.way c.set.new.self c.in-Some.number (numbers_in c.next.new.self) c.in-Some.ensures.gives set in
    refused c.turn_at_once.new.engine _ c.in_err-end.field-0.0 c.from_residual.ensures (asked_stopped law going_of (later (each_later r c.args.at c.args.label.now c.args.to c.args.body.now (numbers_in c.next.new.self))) here c.in_err-end.ensures.is)

pub returns-in-Err-clause-is : goal.returns-in-Err-clause-is
returns-in-Err-clause-is g c =
    let law = lawful g.P.Port g.met.P.Port.none g.met.P.Port.joins g.met.P.Port.rises in
    let r = runner_for do_bodies c.args.runner.now.room in
    let fits : FitsSigned w32 c.in-Some.number = search rules in
    let set = c.set.ensures.is ∙ ap (λ (z : ℤ). with_value c.args.to (Int z) (world c.loop-number.engine)) (to_z-of_z w32 c.in-Some.number fits) in
    let here = each_here r c.args.at c.args.label.now c.args.to c.args.body.now law _ c.loop-number.invariant.way c.set.new.self c.in-Some.number (numbers_in c.next.new.self) c.in-Some.ensures.gives set in
    asked_off law going_of (later (each_later r c.args.at c.args.label.now c.args.to c.args.body.now (numbers_in c.next.new.self))) here c.in_ok-end.end _ c.in_ok-end.ensures.is (search rules)

pub loop-number-preserved : goal.loop-number-preserved
loop-number-preserved g c =
    let law = lawful g.P.Port g.met.P.Port.none g.met.P.Port.joins g.met.P.Port.rises in
    let r = runner_for do_bodies c.args.runner.now.room in
    let fits : FitsSigned w32 c.in-Some.number = search rules in
    let set = c.set.ensures.is ∙ ap (λ (z : ℤ). with_value c.args.to (Int z) (world c.loop-number.engine)) (to_z-of_z w32 c.in-Some.number fits) in
    let here = each_here r c.args.at c.args.label.now c.args.to c.args.body.now law _ c.loop-number.invariant.way c.set.new.self c.in-Some.number (numbers_in c.next.new.self) c.in-Some.ensures.gives set in
    record {
      way = asked_on law going_of (later (each_later r c.args.at c.args.label.now c.args.to c.args.body.now (numbers_in c.next.new.self))) here c.in_ok-end.end tt c.in_ok-end.ensures.is (search rules);
      integers = c.next.ensures.integers;
      suits = c.in_ok-end.ensures.suits;
      keeps = c.in_ok-end.ensures.keeps ∙ (c.set.ensures.keeps ∙ c.loop-number.invariant.keeps);
    }

pub returns-clause-is : goal.returns-clause-is
returns-clause-is g c =
    let law = lawful g.P.Port g.met.P.Port.none g.met.P.Port.joins g.met.P.Port.rises in
    let r = runner_for do_bodies c.args.runner.now.room in
    each_end r c.args.at c.args.label.now c.args.to c.args.body.now law _ c.loop-number.invariant.way (search rules)

pub turn_at_once-requires-clause-room : goal.turn_at_once-requires-clause-room
turn_at_once-requires-clause-room g c =
    let law = lawful g.P.Port g.met.P.Port.none g.met.P.Port.joins g.met.P.Port.rises in
    let r = runner_for do_bodies c.args.runner.now.room in
    let fits : FitsSigned w32 c.in-Some.number = search rules in
    let set = c.set.ensures.is ∙ ap (λ (z : ℤ). with_value c.args.to (Int z) (world c.loop-number.engine)) (to_z-of_z w32 c.in-Some.number fits) in
    let here = each_here r c.args.at c.args.label.now c.args.to c.args.body.now law _ c.loop-number.invariant.way c.set.new.self c.in-Some.number (numbers_in c.next.new.self) c.in-Some.ensures.gives set in
    let spent = here.told.spent in
    omega (arith, spent, c.requires.room)

pub turn_at_once-requires-clause-fits : goal.turn_at_once-requires-clause-fits
turn_at_once-requires-clause-fits g c =
    let law = lawful g.P.Port g.met.P.Port.none g.met.P.Port.joins g.met.P.Port.rises in
    let r = runner_for do_bodies c.args.runner.now.room in
    let fits : FitsSigned w32 c.in-Some.number = search rules in
    let set = c.set.ensures.is ∙ ap (λ (z : ℤ). with_value c.args.to (Int z) (world c.loop-number.engine)) (to_z-of_z w32 c.in-Some.number fits) in
    let here = each_here r c.args.at c.args.label.now c.args.to c.args.body.now law _ c.loop-number.invariant.way c.set.new.self c.in-Some.number (numbers_in c.next.new.self) c.in-Some.ensures.gives set in
    here.told.fits
