use Rattle.std.proofs.Common.{◌≡◌, drop, map}
use Rattle.pl_inside.specs.Agreement.{Covers}
use Rattle.pl_query.specs.Sources.{item}
use Rattle.pl_value.specs.Frames.{Frame}
use Rattle.pl_value.specs.Meaning.{Calls, Sub}
use Rattle.pl_inside.proofs.reading.+reading.Given as goal

abbrev pub invariant-add_joins-loop-join : goal.invariant-add_joins-loop-join
invariant-add_joins-loop-join g l =
    Covers l.fn.names.items l.names.items (λ one other. (calls : Calls g.row.C.Denot) (sub : Sub g.row.C.Denot) (outer : Frame)
    → map (item calls sub one outer) (drop l.join-index l.joins) ≡ map (item calls sub other outer) (drop l.join-index l.joins)
    → map (item calls sub one outer) l.joins ≡ map (item calls sub other outer) l.joins)
