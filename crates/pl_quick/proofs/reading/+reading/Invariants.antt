use Rattle.std.proofs.Common.{◌≡◌, [], ◌∷◌, Some, drop, map, not}
use Rattle.pl_value.specs.Meaning.{Calls, Sub, joined, value}
use Rattle.pl_quick.proofs.reading.+reading.Given as goal

abbrev pub invariant-truth_from-loop-part : goal.invariant-truth_from-loop-part
invariant-truth_from-loop-part g l =
    (calls : Calls g.row.C.Denot) (sub : Sub g.row.C.Denot) (w : g.row.C.Denot)
    → joined l.fixed (map (value calls sub) l.parts) (Some (not l.fixed)) (l.variables ∷ []) w
    ≡ joined l.fixed (map (value calls sub) (drop l.part-index l.parts)) (Some (not l.fixed)) (l.variables ∷ []) w
