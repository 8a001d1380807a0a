use Rattle.std.proofs.Common.{◌≡◌, ◌+◌, [], ◌∷◌, drop, length, map}
use Rattle.pl_value.specs.Meaning.{Calls, Sub, value, values}
use Rattle.pl_quick.proofs.reading.all_read.Given as goal

abbrev pub invariant-loop-e : goal.invariant-loop-e
invariant-loop-e g l = record {
  count : length l.read + length (drop l.e-index l.list) ≡ length l.list;
  are : (calls : Calls g.row.C.Denot) (sub : Sub g.row.C.Denot) (w : g.row.C.Denot)
      → values (map (value calls sub) l.list) [] (l.variables ∷ []) w
      ≡ values (map (value calls sub) (drop l.e-index l.list)) l.read (l.variables ∷ []) w;
}
