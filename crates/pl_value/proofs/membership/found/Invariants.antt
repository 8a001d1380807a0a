use Rattle.std.proofs.Common.{◌≡◌, false, map, drop, Some}
use Rattle.pl_value.specs.Among.{rest_among}
use Rattle.pl_value.specs.Frames.{rows_of}
use Rattle.pl_value.specs.Meaning.{Calls, Sub, value}
use Rattle.pl_value.proofs.membership.found.Given as goal

abbrev pub invariant-loop-other : goal.invariant-loop-other
invariant-loop-other g l =
    (calls : Calls g.row.C.Denot) (sub : Sub g.row.C.Denot) (caller : g.row.C.Denot)
    → rest_among l.to l.x (Some false) (map (value calls sub) l.others) (rows_of l.frame) caller
    ≡ rest_among l.to l.x l.so_far (map (value calls sub) (drop l.other-index l.others)) (rows_of l.frame) caller
