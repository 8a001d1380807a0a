use Rattle.std.proofs.Common.{◌≡◌, ◌==◌, drop, false}
use Rattle.pl_body_rules.specs.Raising.{places}
use Rattle.pl_body_rules.proofs.raising.has_places.Given as goal

abbrev pub invariant-loop-byte : goal.invariant-loop-byte
invariant-loop-byte l = (places false l.format == l.count) ≡ (places l.is_open (drop l.byte-index l.format) == l.left)
