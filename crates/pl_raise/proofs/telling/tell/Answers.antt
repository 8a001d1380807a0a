use Rattle.std.proofs.Common.{ap, refl}
use Rattle.pl_bodies.specs.declared.simple.Level.{Level}
use Rattle.pl_bodies.specs.declared.simple.Level.TheVariants as level
use Rattle.pl_asking.proofs.of_pl_engine.Joins.{acted, answered, becomes, before, ended, lawful, refused, start}
use Rattle.pl_asking.specs.pl_engine.Engines.{world}
use Rattle.pl_print.specs.declared.reply.Level.TheVariants as print
use Rattle.pl_raise.proofs.Told.{at_info, at_level, at_none, at_notice, at_warning, lines_told}
use Rattle.pl_raise.proofs.telling.tell.Goals as goal
use Rattle.pl_world.specs.Raising.{reported}

pub returns-in-Debug : goal.returns-in-Debug
returns-in-Debug g c =
    let law = lawful g.P.Port g.met.P.Port.none g.met.P.Port.joins g.met.P.Port.rises in
    let e = c.args.engine.now in
    ended law (becomes law (start law (reported c.args.level c.args.report c.args.at (world e)) e c.args.port.now c.requires.fits) (at_none c.args.report c.args.at (world e) c.args.level c.in-Debug.is)) refl

pub returns-in-Info : goal.returns-in-Info
returns-in-Info g c =
    let law = lawful g.P.Port g.met.P.Port.none g.met.P.Port.joins g.met.P.Port.rises in
    let e = c.args.engine.now in
    answered law _ _ _ (becomes law (start law (reported c.args.level c.args.report c.args.at (world e)) e c.args.port.now c.requires.fits) (at_level c.args.report c.args.at (world e) (lines_told c.args.report c.args.at (world e) print.Info) c.args.level level.Info c.in-Info.is (at_info c.args.report c.args.at (world e)))) c.print.ensures

pub returns-in-Notice : goal.returns-in-Notice
returns-in-Notice g c =
    let law = lawful g.P.Port g.met.P.Port.none g.met.P.Port.joins g.met.P.Port.rises in
    let e = c.args.engine.now in
    answered law _ _ _ (becomes law (start law (reported c.args.level c.args.report c.args.at (world e)) e c.args.port.now c.requires.fits) (at_level c.args.report c.args.at (world e) (lines_told c.args.report c.args.at (world e) print.Notice) c.args.level level.Notice c.in-Notice.is (at_notice c.args.report c.args.at (world e)))) c.print-in-Notice.ensures

pub returns-in-Warning : goal.returns-in-Warning
returns-in-Warning g c =
    let law = lawful g.P.Port g.met.P.Port.none g.met.P.Port.joins g.met.P.Port.rises in
    let e = c.args.engine.now in
    answered law _ _ _ (becomes law (start law (reported c.args.level c.args.report c.args.at (world e)) e c.args.port.now c.requires.fits) (at_level c.args.report c.args.at (world e) (lines_told c.args.report c.args.at (world e) print.Warning) c.args.level level.Warning c.in-Warning.is (at_warning c.args.report c.args.at (world e)))) c.print-in-Warning.ensures

pub returns-in_err-raise_error-in-Exception : goal.returns-in_err-raise_error-in-Exception
returns-in_err-raise_error-in-Exception g c =
    let law = lawful g.P.Port g.met.P.Port.none g.met.P.Port.joins g.met.P.Port.rises in
    refused _ _ _ c.from_residual.ensures (before law refl)

pub returns-in_ok-raise_error-in-Exception : goal.returns-in_ok-raise_error-in-Exception
returns-in_ok-raise_error-in-Exception g c =
    let law = lawful g.P.Port g.met.P.Port.none g.met.P.Port.joins g.met.P.Port.rises in
    let e = c.args.engine.now in
    acted law (becomes law (start law (reported c.args.level c.args.report c.args.at (world e)) e c.args.port.now c.requires.fits) (ap (λ (l : Level). reported l c.args.report c.args.at (world e)) c.in-Exception.is)) c.in_ok-raise_error-in-Exception.ensures
