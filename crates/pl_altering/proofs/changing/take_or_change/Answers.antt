use Rattle.std.proofs.Common.{◌≡◌, ◌∙◌, List, refl, subst}
use Rattle.std.specs.List.{AllByRecursion}
use Rattle.pl_altering.proofs.AsFound.{left_of}
use Rattle.pl_altering.proofs.changing.take_or_change.Goals as goal
use Rattle.pl_altering.specs.Taking.{HasWidth}
use Rattle.pl_querying.specs.pl_engine.Engines.{world}
use Rattle.pl_value.specs.Frames.{Row}

pub add_as_found-requires-clause-left : goal.add_as_found-requires-clause-left
add_as_found-requires-clause-left g c =
    let same : c.as_slice.result.now ≡ c.in-Ok.found = c.as_slice.ensures ∙ rw c.in-Ok.is refl in
    rw c.in-Ok.is
    (left_of c.args.at c.args.calls.now.room c.args.change.now c.args.width (world c.args.engine.now) c.requires.takes c.in-Ok.found
    (subst (λ (rows : List Row). AllByRecursion (HasWidth c.args.width) rows) same (c.are_wide.ensures c.if-are_wide.true)) c.try_rows-tried.result c.in-Ok.is c.try_rows-tried.ensures)
