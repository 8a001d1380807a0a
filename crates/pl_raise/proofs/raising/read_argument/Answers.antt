use Rattle.std.proofs.Common.{List, [], ◌∷◌, ap, refl, sym}
use Rattle.pl_asking.proofs.of_pl_engine.Joins.{becomes, before, lawful, stopped}
use Rattle.pl_asking.specs.pl_engine.Engines.{world}
use Rattle.pl_asking.specs.pl_engine.Texts.{do_bodies}
use Rattle.pl_raise.proofs.Found.{found_off, found_on, found_stopped, refused_there}
use Rattle.pl_raise.proofs.Told.{argument_next, argument_way}
use Rattle.pl_raise.proofs.raising.read_argument.Goals as goal
use Rattle.pl_world.specs.Raising.{Text, argument_text, arguments_told, texted}
use Rattle.pl_world.specs.Statements.{runner_for}

pub returns-in_err-found-clause-is : goal.returns-in_err-found-clause-is
returns-in_err-found-clause-is g c =
    let law = lawful g.P.Port g.met.P.Port.none g.met.P.Port.joins g.met.P.Port.rises in
    let r = runner_for do_bodies c.args.calls.now.room in
    refused_there c.text.new.engine _ c.in_err-found.field-0.0 c.from_residual.ensures (found_stopped law (arguments_told r c.args.at (c.args.e.now ∷ []) c.args.texts (world c.args.engine.now)) (texted r c.args.at argument_text c.args.e.now (world c.args.engine.now)) (argument_next c.args.texts) (argument_way law r c.args.at c.args.engine.now c.args.port.now c.requires.fits c.args.e.now c.args.texts) c.text.new.engine _ c.in_err-found.ensures.is)

pub returns-in_err-push-in-Ok-clause-is : goal.returns-in_err-push-in-Ok-clause-is
returns-in_err-push-in-Ok-clause-is g c =
    let law = lawful g.P.Port g.met.P.Port.none g.met.P.Port.joins g.met.P.Port.rises in
    let r = runner_for do_bodies c.args.calls.now.room in
    let on = found_on law (arguments_told r c.args.at (c.args.e.now ∷ []) c.args.texts (world c.args.engine.now)) (texted r c.args.at argument_text c.args.e.now (world c.args.engine.now)) (argument_next c.args.texts) (argument_way law r c.args.at c.args.engine.now c.args.port.now c.requires.fits c.args.e.now c.args.texts) c.in_ok-found.found c.in-Ok.text c.in_ok-found.ensures.is c.in-Ok.is in
    refused_there _ _ _ c.from_residual-in_err-push-in-Ok.ensures (λ k. stopped law (on k) (before law refl))

pub returns-in_ok-push-in-Ok-clause-is : goal.returns-in_ok-push-in-Ok-clause-is
returns-in_ok-push-in-Ok-clause-is g c =
    let law = lawful g.P.Port g.met.P.Port.none g.met.P.Port.joins g.met.P.Port.rises in
    let r = runner_for do_bodies c.args.calls.now.room in
    let on = found_on law (arguments_told r c.args.at (c.args.e.now ∷ []) c.args.texts (world c.args.engine.now)) (texted r c.args.at argument_text c.args.e.now (world c.args.engine.now)) (argument_next c.args.texts) (argument_way law r c.args.at c.args.engine.now c.args.port.now c.requires.fits c.args.e.now c.args.texts) c.in_ok-found.found c.in-Ok.text c.in_ok-found.ensures.is c.in-Ok.is in
    λ k. becomes law (on k) (ap (λ (ts : List Text). k ts (world c.text.new.engine)) (sym c.in_ok-push-in-Ok.ensures.ok))

pub returns-in-Err-clause-is : goal.returns-in-Err-clause-is
returns-in-Err-clause-is g c =
    let law = lawful g.P.Port g.met.P.Port.none g.met.P.Port.joins g.met.P.Port.rises in
    let r = runner_for do_bodies c.args.calls.now.room in
    found_off law (arguments_told r c.args.at (c.args.e.now ∷ []) c.args.texts (world c.args.engine.now)) (texted r c.args.at argument_text c.args.e.now (world c.args.engine.now)) (argument_next c.args.texts) (argument_way law r c.args.at c.args.engine.now c.args.port.now c.requires.fits c.args.e.now c.args.texts) c.in_ok-found.found _ c.in_ok-found.ensures.is c.in-Err.is
