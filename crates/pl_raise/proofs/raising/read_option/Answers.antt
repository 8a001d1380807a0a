use Rattle.std.proofs.Common.{[], ◌∷◌, subst}
use Rattle.pl_asking.proofs.of_pl_engine.Joins.{lawful}
use Rattle.pl_asking.specs.pl_engine.Engines.{world}
use Rattle.pl_asking.specs.pl_engine.Texts.{do_bodies}
use Rattle.pl_raise.proofs.Found.{found_off, found_on, found_stopped, refused_there, there_found}
use Rattle.pl_raise.proofs.Told.{option_next, option_way}
use Rattle.pl_raise.proofs.raising.read_option.Goals as goal
use Rattle.pl_raise.specs.Finding.{FindsHere}
use Rattle.pl_typing.specs.Resolved.{Resolved}
use Rattle.pl_world.specs.Conversions.{settled}
use Rattle.pl_world.specs.Raising.{Report, option_text, options_told, texted, with_option}
use Rattle.pl_world.specs.Statements.{runner_for}

pub returns-in_err-found-clause-is : goal.returns-in_err-found-clause-is
returns-in_err-found-clause-is g c =
    let law = lawful g.P.Port g.met.P.Port.none g.met.P.Port.joins g.met.P.Port.rises in
    let r = runner_for do_bodies c.args.calls.now.room in
    refused_there c.text.new.engine _ c.in_err-found.field-0.0 c.from_residual.ensures (found_stopped law (options_told r c.args.at (c.args.option.now ∷ []) c.args.report (world c.args.engine.now)) (texted r c.args.at option_text c.args.option.now.value (world c.args.engine.now)) (option_next c.args.at c.args.option.now c.args.report) (option_way law r c.args.at c.args.engine.now c.args.port.now c.requires.fits c.args.option.now c.args.report) c.text.new.engine _ c.in_err-found.ensures.is)

pub returns-in-Ok-clause-is : goal.returns-in-Ok-clause-is
returns-in-Ok-clause-is g c =
    let law = lawful g.P.Port g.met.P.Port.none g.met.P.Port.joins g.met.P.Port.rises in
    let r = runner_for do_bodies c.args.calls.now.room in
    let on = found_on law (options_told r c.args.at (c.args.option.now ∷ []) c.args.report (world c.args.engine.now)) (texted r c.args.at option_text c.args.option.now.value (world c.args.engine.now)) (option_next c.args.at c.args.option.now c.args.report) (option_way law r c.args.at c.args.engine.now c.args.port.now c.requires.fits c.args.option.now c.args.report) c.in_ok-found.found c.in-Ok.text c.in_ok-found.ensures.is c.in-Ok.is in
    let part = settled (with_option c.args.option.now.kind c.in-Ok.text c.args.report) c.args.at (world c.text.new.engine) in
    there_found law (options_told r c.args.at (c.args.option.now ∷ []) c.args.report (world c.args.engine.now)) part c.settle.result on (subst (λ (rep : Resolved Report). FindsHere (settled rep c.args.at (world c.text.new.engine)) c.settle.result c.text.new.engine) c.with_option.ensures c.settle.ensures)

pub returns-in-Err-clause-is : goal.returns-in-Err-clause-is
returns-in-Err-clause-is g c =
    let law = lawful g.P.Port g.met.P.Port.none g.met.P.Port.joins g.met.P.Port.rises in
    let r = runner_for do_bodies c.args.calls.now.room in
    found_off law (options_told r c.args.at (c.args.option.now ∷ []) c.args.report (world c.args.engine.now)) (texted r c.args.at option_text c.args.option.now.value (world c.args.engine.now)) (option_next c.args.at c.args.option.now c.args.report) (option_way law r c.args.at c.args.engine.now c.args.port.now c.requires.fits c.args.option.now c.args.report) c.in_ok-found.found _ c.in_ok-found.ensures.is c.in-Err.is
