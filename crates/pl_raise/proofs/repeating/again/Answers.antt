use Rattle.std.proofs.Common.{◌∙◌, refl, sym}
use Rattle.pl_asking.proofs.Acts.{quiet_is}
use Rattle.pl_asking.specs.pl_engine.Engines.{world}
use Rattle.pl_raise.proofs.Newest.{again_first, again_none}
use Rattle.pl_raise.proofs.repeating.again.Goals as goal

pub returns-in-Some : goal.returns-in-Some
returns-in-Some c =
    let e = c.args.engine.now in
    quiet_is _ e e (again_first c.args.at (world e) c.in-Some.f (sym c.in-Some.is ∙ c.in_ok-f.ensures)) (refl, refl, refl, refl, refl, refl)

pub returns-in-None : goal.returns-in-None
returns-in-None c =
    let e = c.args.engine.now in
    quiet_is c.raise.result e e (again_none c.args.at (world e) (sym c.in-None.is ∙ c.in_ok-f.ensures)) c.raise.ensures
