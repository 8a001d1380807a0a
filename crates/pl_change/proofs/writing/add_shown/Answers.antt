use Rattle.std.proofs.Common.{sym, ap, List}
use Rattle.pl_change.specs.Changes.{progress}
use Rattle.pl_value.specs.Frames.{Row}
use Rattle.pl_value.specs.Reading.{got}
use Rattle.pl_change.proofs.writing.add_shown.Goals as goal

pub returns : goal.returns
returns g c tables w = ap (λ (made : List Row). got (progress tables made) w) (sym c.in_ok-push.ensures)
