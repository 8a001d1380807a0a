use Rattle.std.proofs.Common.{◌∙◌, Bool, Ok, ap, sym}
use Rattle.std.specs.Prelude.{slice_get, unwrap_or, false}
use Rattle.pl_asking.proofs.AtOnce.{of_some}
use Rattle.pl_asking.proofs.resolving.aim.Goals as goal
use Rattle.pl_asking.specs.Values.{AimsAt}
use Rattle.pl_calling.specs.pl_engine.Engines.{world}
use Rattle.pl_direct.specs.declared.search.Spot as found
use Rattle.pl_world.specs.World.{Static}

pub returns-in-Some : goal.returns-in-Some
returns-in-Some c =
    of_some (λ (s : found.Spot). AimsAt c.args.target.now (world c.args.engine.now) s) c.aim_at_once.result c.in-Some.spot c.in-Some.is c.aim_at_once.ensures
    ∙ ap (λ (b : Bool). Ok (record { at = c.in-Some.spot.column; ty = c.in-Some.spot.seen.now.ty; is_required = b }))
    (sym (c.is_required.ensures ∙ ap (λ (s : Static). unwrap_or (slice_get s.required c.in-Some.spot.column) false) c.declared.ensures))
