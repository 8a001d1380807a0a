use Rattle.std.proofs.Common.{◌≡◌, ◌≤◌, ◌<◌, ◌-◌, ℕ, length, Some}
use Rattle.pl_tables.specs.Slots.{id_at}
use Rattle.pl_tables.proofs.slots.seek.Given as goal

abbrev pub invariant-loop-low : goal.invariant-loop-low
invariant-loop-low l = record {
  below : (at n : ℕ) → at < l.low → id_at l.slots at ≡ Some n → n < l.id;
  above : (at n : ℕ) → l.high ≤ at → id_at l.slots at ≡ Some n → l.id < n;
  within : l.high ≤ length l.slots;
  ordered : l.low ≤ l.high;
}

abbrev pub decreases-loop-low : goal.decreases-loop-low
decreases-loop-low l = l.high - l.low
