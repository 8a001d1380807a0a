use Rattle.std.proofs.Common.{List, [], ap, refl, sym}
use Rattle.pl_bodies.specs.declared.simple.Raised.TheVariants as raising
use Rattle.pl_asking.proofs.of_pl_engine.Joins.{becomes, before, lawful, stopped}
use Rattle.pl_asking.specs.pl_engine.Answers.{Partway}
use Rattle.pl_asking.specs.pl_engine.Engines.{world}
use Rattle.pl_asking.specs.pl_engine.Texts.{do_bodies}
use Rattle.pl_raise.proofs.Found.{found_off, found_on, found_stopped, here_off, here_on, refused_there}
use Rattle.pl_raise.proofs.Told.{format_next, message_next, message_way}
use Rattle.pl_raise.proofs.raising.read_message.Goals as goal
use Rattle.pl_raise.specs.Finding.{Next}
use Rattle.pl_world.specs.Conversions.{settled}
use Rattle.pl_world.specs.Raising.{Report, Text, arguments_told, formatted, heading_told, within_limit}
use Rattle.pl_world.specs.Statements.{runner_for}

pub returns-in_err-found-clause-is : goal.returns-in_err-found-clause-is
returns-in_err-found-clause-is g c =
    let law = lawful g.P.Port g.met.P.Port.none g.met.P.Port.joins g.met.P.Port.rises in
    let r = runner_for do_bodies c.args.calls.now.room in
    refused_there c.read_arguments.new.engine _ c.in_err-found.field-0.0 c.from_residual.ensures (found_stopped law (heading_told r c.args.at (raising.Text c.args.written.now c.args.arguments.now) (world c.args.engine.now)) (arguments_told r c.args.at c.args.arguments.now [] (world c.args.engine.now)) (format_next c.args.at c.args.written.now) (message_way law r c.args.at c.args.engine.now c.args.port.now c.requires.fits c.args.written.now c.args.arguments.now) c.read_arguments.new.engine _ c.in_err-found.ensures.is)

pub returns-in-Err-clause-is : goal.returns-in-Err-clause-is
returns-in-Err-clause-is g c =
    let law = lawful g.P.Port g.met.P.Port.none g.met.P.Port.joins g.met.P.Port.rises in
    let r = runner_for do_bodies c.args.calls.now.room in
    found_off law (heading_told r c.args.at (raising.Text c.args.written.now c.args.arguments.now) (world c.args.engine.now)) (arguments_told r c.args.at c.args.arguments.now [] (world c.args.engine.now)) (format_next c.args.at c.args.written.now) (message_way law r c.args.at c.args.engine.now c.args.port.now c.requires.fits c.args.written.now c.args.arguments.now) c.in_ok-found.found _ c.in_ok-found.ensures.is c.in-Err.is

pub returns-in_err-text-clause-is : goal.returns-in_err-text-clause-is
returns-in_err-text-clause-is g c =
    let law = lawful g.P.Port g.met.P.Port.none g.met.P.Port.joins g.met.P.Port.rises in
    let r = runner_for do_bodies c.args.calls.now.room in
    let on = found_on law (heading_told r c.args.at (raising.Text c.args.written.now c.args.arguments.now) (world c.args.engine.now)) (arguments_told r c.args.at c.args.arguments.now [] (world c.args.engine.now)) (format_next c.args.at c.args.written.now) (message_way law r c.args.at c.args.engine.now c.args.port.now c.requires.fits c.args.written.now c.args.arguments.now) c.in_ok-found.found c.in-Ok.texts c.in_ok-found.ensures.is c.in-Ok.is in
    refused_there _ _ _ c.from_residual-in_err-text.ensures (λ k. stopped law (on k) (before law refl))

pub returns-in-Ok-text-clause-is : goal.returns-in-Ok-text-clause-is
returns-in-Ok-text-clause-is g c =
    let law = lawful g.P.Port g.met.P.Port.none g.met.P.Port.joins g.met.P.Port.rises in
    let r = runner_for do_bodies c.args.calls.now.room in
    let on : (k : Next Report) → Partway g.P.Port ((heading_told r c.args.at (raising.Text c.args.written.now c.args.arguments.now) (world c.args.engine.now)) k) ((settled (within_limit (formatted c.args.written.now c.as_slice.result.now)) c.args.at (world c.read_arguments.new.engine)) (message_next k)) c.args.engine.now c.read_arguments.new.engine c.args.port.now c.read_arguments.new.port =
    λ k. becomes law (found_on law (heading_told r c.args.at (raising.Text c.args.written.now c.args.arguments.now) (world c.args.engine.now)) (arguments_told r c.args.at c.args.arguments.now [] (world c.args.engine.now)) (format_next c.args.at c.args.written.now) (message_way law r c.args.at c.args.engine.now c.args.port.now c.requires.fits c.args.written.now c.args.arguments.now) c.in_ok-found.found c.in-Ok.texts c.in_ok-found.ensures.is c.in-Ok.is k) (ap (λ (ts : List Text). settled (within_limit (formatted c.args.written.now ts)) c.args.at (world c.read_arguments.new.engine) (message_next k)) (sym c.as_slice.ensures)) in
    λ k. becomes law (here_on law (heading_told r c.args.at (raising.Text c.args.written.now c.args.arguments.now) (world c.args.engine.now)) (settled (within_limit (formatted c.args.written.now c.as_slice.result.now)) c.args.at (world c.read_arguments.new.engine)) message_next on c.in_ok-text.text c.in-Ok-text.text c.in_ok-text.ensures c.in-Ok-text.is k) (ap (λ (rep : Report). k rep (world c.read_arguments.new.engine)) (sym c.with_text.ensures))

pub returns-clause-is : goal.returns-clause-is
returns-clause-is g c =
    let law = lawful g.P.Port g.met.P.Port.none g.met.P.Port.joins g.met.P.Port.rises in
    let r = runner_for do_bodies c.args.calls.now.room in
    let on : (k : Next Report) → Partway g.P.Port ((heading_told r c.args.at (raising.Text c.args.written.now c.args.arguments.now) (world c.args.engine.now)) k) ((settled (within_limit (formatted c.args.written.now c.as_slice.result.now)) c.args.at (world c.read_arguments.new.engine)) (message_next k)) c.args.engine.now c.read_arguments.new.engine c.args.port.now c.read_arguments.new.port =
    λ k. becomes law (found_on law (heading_told r c.args.at (raising.Text c.args.written.now c.args.arguments.now) (world c.args.engine.now)) (arguments_told r c.args.at c.args.arguments.now [] (world c.args.engine.now)) (format_next c.args.at c.args.written.now) (message_way law r c.args.at c.args.engine.now c.args.port.now c.requires.fits c.args.written.now c.args.arguments.now) c.in_ok-found.found c.in-Ok.texts c.in_ok-found.ensures.is c.in-Ok.is k) (ap (λ (ts : List Text). settled (within_limit (formatted c.args.written.now ts)) c.args.at (world c.read_arguments.new.engine) (message_next k)) (sym c.as_slice.ensures)) in
    here_off law (heading_told r c.args.at (raising.Text c.args.written.now c.args.arguments.now) (world c.args.engine.now)) (settled (within_limit (formatted c.args.written.now c.as_slice.result.now)) c.args.at (world c.read_arguments.new.engine)) message_next on c.in_ok-text.text _ c.in_ok-text.ensures c.in-Err-text.is
