use Rattle.std.proofs.Common.{◌≡◌, ◌≤◌, ◌-◌, ◌^◌, ◌++◌, List, ℕ, Some, length}
use Rattle.pl_cli.proofs.reading.take_all.Given as goal

abbrev pub invariant-turns : goal.invariant-turns
invariant-turns g l = record {
  attached : (names : List (List ℕ)) → g.S.Source.attached l.fn.source names → g.S.Source.attached l.source names;
  is_attached : g.S.Source.is_attached l.source;
  faults : g.S.Source.faults l.fn.source ≤ g.S.Source.faults l.source;
  read : (left : List ℕ) → g.S.Source.left l.fn.source ≡ Some left → (rest : List ℕ) × (g.S.Source.left l.source ≡ Some rest) × (l.text.items ++ rest ≡ left);
}

abbrev pub decreases-turns : goal.decreases-turns
decreases-turns g l = 2 ^ 25 - length l.text.items
