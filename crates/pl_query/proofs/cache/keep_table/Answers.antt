use Rattle.std.proofs.Common.{◌∙◌, ap, List}
use Rattle.pl_query.specs.Sources.{alone, frames}
use Rattle.pl_value.specs.Frames.{Row}
use Rattle.pl_query.proofs.cache.keep_table.Goals as goal

pub loop-query-init : goal.loop-query-init
loop-query-init g c = c.of_rows-bundles.ensures ∙ ap (λ (rows : List Row). frames (alone rows)) c.in_ok-rows.ensures
