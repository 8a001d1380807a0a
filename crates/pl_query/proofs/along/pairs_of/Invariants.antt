use Rattle.std.proofs.Common.{◌≡◌, ◌++◌, drop, map}
use Rattle.pl_query.specs.Along.{pair_in}
use Rattle.pl_query.specs.Query.{aggregation}
use Rattle.pl_query.specs.Rows.{arguments}
use Rattle.pl_value.specs.Frames.{Frame}
use Rattle.pl_value.specs.Meaning.{Calls, Sub}
use Rattle.pl_value.specs.Reading.{got, then_read}
use Rattle.pl_query.proofs.along.pairs_of.Given as goal

abbrev pub invariant-loop-aggregate : goal.invariant-loop-aggregate
invariant-loop-aggregate g l =
    (calls : Calls g.row.C.Denot) (sub : Sub g.row.C.Denot) (frame : Frame) (w : g.row.C.Denot)
    → arguments (map (aggregation calls sub) l.aggregates) frame w
    ≡ then_read (arguments (map (aggregation calls sub) (drop l.aggregate-index l.aggregates)) frame w) (λ more w. got (map (pair_in frame) l.pairs.items ++ more) w)
