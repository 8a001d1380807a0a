use Rattle.std.proofs.Common.{◌≡◌, ◌+◌, drop}
use Rattle.std.specs.Option.{option_map}
use Rattle.pl_keys.specs.Same.{place_of, same}
use Rattle.pl_keys.proofs.keys.place_in.Given as goal

abbrev pub invariant-loop-at : goal.invariant-loop-at
invariant-loop-at l = place_of (same l.row) l.rows ≡ option_map (λ n. l.at + n) (place_of (same l.row) (drop l.at l.rows))
