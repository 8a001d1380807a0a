use Rattle.std.proofs.Common.{List, ap, sym}
use Rattle.pl_bodies.specs.declared.simple.RaiseOption.{RaiseOption}
use Rattle.pl_asking.proofs.of_pl_engine.Joins.{answered, becomes, lawful, refused}
use Rattle.pl_asking.specs.pl_engine.Answers.{Partway}
use Rattle.pl_asking.specs.pl_engine.Engines.{world}
use Rattle.pl_asking.specs.pl_engine.Texts.{do_bodies}
use Rattle.pl_raise.proofs.Found.{fits_found, found_off, found_on, found_stopped, room_found}
use Rattle.pl_raise.proofs.Told.{options_next, raise_way, report_next}
use Rattle.pl_raise.proofs.raising.raise.Goals as goal
use Rattle.pl_world.specs.Raising.{heading_told, options_told, raise}
use Rattle.pl_world.specs.Statements.{runner_for}

pub returns-in_err-found-clause-is : goal.returns-in_err-found-clause-is
returns-in_err-found-clause-is g c =
    let law = lawful g.P.Port g.met.P.Port.none g.met.P.Port.joins g.met.P.Port.rises in
    let r = runner_for do_bodies c.args.calls.now.room in
    refused c.read_heading.new.engine _ c.in_err-found.field-0.0 c.from_residual.ensures (found_stopped law (λ (u : Unit {0}). raise r c.args.at c.args.x.now (world c.args.engine.now)) (heading_told r c.args.at c.args.x.now.raised (world c.args.engine.now)) (λ (u : Unit {0}). options_next r c.args.at c.args.x.now.level c.args.x.now.options) (raise_way law r c.args.at c.args.engine.now c.args.port.now c.requires.fits c.args.x.now) c.read_heading.new.engine _ c.in_err-found.ensures.is tt)

pub returns-in-Err-clause-is : goal.returns-in-Err-clause-is
returns-in-Err-clause-is g c =
    let law = lawful g.P.Port g.met.P.Port.none g.met.P.Port.joins g.met.P.Port.rises in
    let r = runner_for do_bodies c.args.calls.now.room in
    found_off law (λ (u : Unit {0}). raise r c.args.at c.args.x.now (world c.args.engine.now)) (heading_told r c.args.at c.args.x.now.raised (world c.args.engine.now)) (λ (u : Unit {0}). options_next r c.args.at c.args.x.now.level c.args.x.now.options) (raise_way law r c.args.at c.args.engine.now c.args.port.now c.requires.fits c.args.x.now) c.in_ok-found.found _ c.in_ok-found.ensures.is c.in-Err.is tt

pub returns-in_err-all-clause-is : goal.returns-in_err-all-clause-is
returns-in_err-all-clause-is g c =
    let law = lawful g.P.Port g.met.P.Port.none g.met.P.Port.joins g.met.P.Port.rises in
    let r = runner_for do_bodies c.args.calls.now.room in
    let on : (u : Unit {0}) → Partway g.P.Port (raise r c.args.at c.args.x.now (world c.args.engine.now)) ((options_told r c.args.at c.as_slice.result.now c.in-Ok.first (world c.read_heading.new.engine)) (report_next c.args.at c.args.x.now.level)) c.args.engine.now c.read_heading.new.engine c.args.port.now c.read_heading.new.port =
    λ u. becomes law (found_on law (λ (u : Unit {0}). raise r c.args.at c.args.x.now (world c.args.engine.now)) (heading_told r c.args.at c.args.x.now.raised (world c.args.engine.now)) (λ (u : Unit {0}). options_next r c.args.at c.args.x.now.level c.args.x.now.options) (raise_way law r c.args.at c.args.engine.now c.args.port.now c.requires.fits c.args.x.now) c.in_ok-found.found c.in-Ok.first c.in_ok-found.ensures.is c.in-Ok.is u) (ap (λ (os : List RaiseOption). options_told r c.args.at os c.in-Ok.first (world c.read_heading.new.engine) (report_next c.args.at c.args.x.now.level)) (sym c.as_slice.ensures)) in
    refused c.read_options.new.engine _ c.in_err-all.field-0.0 c.from_residual-in_err-all.ensures (found_stopped law (λ (u : Unit {0}). raise r c.args.at c.args.x.now (world c.args.engine.now)) (options_told r c.args.at c.as_slice.result.now c.in-Ok.first (world c.read_heading.new.engine)) (λ (u : Unit {0}). report_next c.args.at c.args.x.now.level) on c.read_options.new.engine _ c.in_err-all.ensures.is tt)

pub returns-in-Ok-all-clause-is : goal.returns-in-Ok-all-clause-is
returns-in-Ok-all-clause-is g c =
    let law = lawful g.P.Port g.met.P.Port.none g.met.P.Port.joins g.met.P.Port.rises in
    let r = runner_for do_bodies c.args.calls.now.room in
    let on : (u : Unit {0}) → Partway g.P.Port (raise r c.args.at c.args.x.now (world c.args.engine.now)) ((options_told r c.args.at c.as_slice.result.now c.in-Ok.first (world c.read_heading.new.engine)) (report_next c.args.at c.args.x.now.level)) c.args.engine.now c.read_heading.new.engine c.args.port.now c.read_heading.new.port =
    λ u. becomes law (found_on law (λ (u : Unit {0}). raise r c.args.at c.args.x.now (world c.args.engine.now)) (heading_told r c.args.at c.args.x.now.raised (world c.args.engine.now)) (λ (u : Unit {0}). options_next r c.args.at c.args.x.now.level c.args.x.now.options) (raise_way law r c.args.at c.args.engine.now c.args.port.now c.requires.fits c.args.x.now) c.in_ok-found.found c.in-Ok.first c.in_ok-found.ensures.is c.in-Ok.is u) (ap (λ (os : List RaiseOption). options_told r c.args.at os c.in-Ok.first (world c.read_heading.new.engine) (report_next c.args.at c.args.x.now.level)) (sym c.as_slice.ensures)) in
    answered law _ _ _ (found_on law (λ (u : Unit {0}). raise r c.args.at c.args.x.now (world c.args.engine.now)) (options_told r c.args.at c.as_slice.result.now c.in-Ok.first (world c.read_heading.new.engine)) (λ (u : Unit {0}). report_next c.args.at c.args.x.now.level) on c.in_ok-all.all c.in-Ok-all.report c.in_ok-all.ensures.is c.in-Ok-all.is tt) c.tell.ensures

pub returns-in-Err-all-clause-is : goal.returns-in-Err-all-clause-is
returns-in-Err-all-clause-is g c =
    let law = lawful g.P.Port g.met.P.Port.none g.met.P.Port.joins g.met.P.Port.rises in
    let r = runner_for do_bodies c.args.calls.now.room in
    let on : (u : Unit {0}) → Partway g.P.Port (raise r c.args.at c.args.x.now (world c.args.engine.now)) ((options_told r c.args.at c.as_slice.result.now c.in-Ok.first (world c.read_heading.new.engine)) (report_next c.args.at c.args.x.now.level)) c.args.engine.now c.read_heading.new.engine c.args.port.now c.read_heading.new.port =
    λ u. becomes law (found_on law (λ (u : Unit {0}). raise r c.args.at c.args.x.now (world c.args.engine.now)) (heading_told r c.args.at c.args.x.now.raised (world c.args.engine.now)) (λ (u : Unit {0}). options_next r c.args.at c.args.x.now.level c.args.x.now.options) (raise_way law r c.args.at c.args.engine.now c.args.port.now c.requires.fits c.args.x.now) c.in_ok-found.found c.in-Ok.first c.in_ok-found.ensures.is c.in-Ok.is u) (ap (λ (os : List RaiseOption). options_told r c.args.at os c.in-Ok.first (world c.read_heading.new.engine) (report_next c.args.at c.args.x.now.level)) (sym c.as_slice.ensures)) in
    found_off law (λ (u : Unit {0}). raise r c.args.at c.args.x.now (world c.args.engine.now)) (options_told r c.args.at c.as_slice.result.now c.in-Ok.first (world c.read_heading.new.engine)) (λ (u : Unit {0}). report_next c.args.at c.args.x.now.level) on c.in_ok-all.all _ c.in_ok-all.ensures.is c.in-Err-all.is tt

pub read_options-requires-clause-room : goal.read_options-requires-clause-room
read_options-requires-clause-room g c =
    let r = runner_for do_bodies c.args.calls.now.room in
    room_found g.P.Port (heading_told r c.args.at c.args.x.now.raised (world c.args.engine.now)) c.args.engine.now c.read_heading.new.engine c.args.port.now c.read_heading.new.port c.in_ok-found.found c.in_ok-found.ensures.is c.args.calls.now.room c.requires.room

pub read_options-requires-clause-fits : goal.read_options-requires-clause-fits
read_options-requires-clause-fits g c =
    let r = runner_for do_bodies c.args.calls.now.room in
    fits_found g.P.Port (heading_told r c.args.at c.args.x.now.raised (world c.args.engine.now)) c.args.engine.now c.read_heading.new.engine c.args.port.now c.read_heading.new.port c.in_ok-found.found c.in_ok-found.ensures.is

pub tell-requires : goal.tell-requires
tell-requires g c =
    let r = runner_for do_bodies c.args.calls.now.room in
    record { fits = fits_found g.P.Port (options_told r c.args.at c.as_slice.result.now c.in-Ok.first (world c.read_heading.new.engine)) c.read_heading.new.engine c.read_options.new.engine c.read_heading.new.port c.read_options.new.port c.in_ok-all.all c.in_ok-all.ensures.is }
