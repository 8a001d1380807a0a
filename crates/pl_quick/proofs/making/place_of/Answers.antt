use Rattle.std.proofs.Common.{◌∙◌, ap, false}
use Rattle.std.specs.Prelude.{slice_get, unwrap_or}
use Rattle.pl_engine.specs.Engines.{world}
use Rattle.pl_engine.specs.pl_world.World.{Static}
use Rattle.pl_quick.proofs.Values.{aims_at}
use Rattle.pl_quick.proofs.making.place_of.Goals as goal

pub returns-in_ok-spot-in-None : goal.returns-in_ok-spot-in-None
returns-in_ok-spot-in-None c = (
  unwrap_or (slice_get (world c.args.engine.now).frame.static.required c.in_ok-spot-in-None.spot.column) false,
  aims_at c.args.target.now (world c.args.engine.now) c.in_ok-spot-in-None.spot _ c.in-None.is (c.scope.ensures ∙ ap (λ (s : Static). s.scope) c.declared.ensures) c.in_ok-spot-in-None.ensures,
)
