use Rattle.std.proofs.Common.{sym, ap, Option, Some}
use Rattle.pl_value.specs.Frames.{Row}
use Rattle.pl_value.specs.Reading.{got}
use Rattle.pl_change.proofs.rows.assign_all.Goals as goal

pub returns : goal.returns
returns g c w = ap (λ (made : Row). let o : Option Row = Some made in got o w) (sym c.in_ok-made.ensures)
