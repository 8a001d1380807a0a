use Rattle.std.proofs.Common.{◌≡◌, ◌∙◌, None, Option, refl, rules}
use Rattle.pl_base.specs.declared.state.State.{State}
use Rattle.pl_control.proofs.Noting.{none_noted, not_noted, noted}
use Rattle.pl_control.proofs.notices.note.Goals as goal
use Rattle.pl_control.specs.Noted.{notes}
use Rattle.pl_engine.proofs.Joins.{becomes, before, ended, lawful, start}
use Rattle.pl_engine.specs.Engines.{world}

pub returns-in_default : goal.returns-in_default
returns-in_default g c =
    let law = lawful g.P.Port g.met.P.Port.none g.met.P.Port.joins g.met.P.Port.rises in
    let w = world c.args.engine.now in
    let none : (let o : Option State = None in c.args.state ≡ o) = search rules in
    ended law (becomes law (start law (notes c.args.state w) c.args.engine.now c.args.port.now c.requires.fits) (none_noted c.args.state w none)) refl

pub returns-in_default-line_of : goal.returns-in_default-line_of
returns-in_default-line_of g c = before (lawful g.P.Port g.met.P.Port.none g.met.P.Port.joins g.met.P.Port.rises) refl

pub returns-in-Ok-say : goal.returns-in-Ok-say
returns-in-Ok-say g c =
    noted c.args.state c.in-Some.state c.as_slice.result.now c.in-Some.is (c.as_slice.ensures ∙ c.in-Ok.ensures) c.args.engine.now c.in-Ok-say.field-0 c.in-Ok-say.ensures

pub returns : goal.returns
returns g c =
    not_noted c.args.state c.in-Some.state c.as_slice.result.now c.in-Some.is (c.as_slice.ensures ∙ c.in-Ok.ensures) c.args.engine.now c.in-Err.stop c.in-Err.ensures
