use Rattle.std.proofs.Common.{◌≡◌, length}
use Rattle.pl_lex.specs.Scan.{has_refused}
use Rattle.pl_lex.specs.declared.escapes.Pending.TheVariants.{Nothing}
use Rattle.pl_lex.proofs.escapes.has_refused.Given as goal

abbrev pub invariant-loop-text : goal.invariant-loop-text
invariant-loop-text l = has_refused l.«open» l.text ≡ has_refused Nothing l.initial.text

abbrev pub decreases-loop-text : goal.decreases-loop-text
decreases-loop-text l = length l.text
