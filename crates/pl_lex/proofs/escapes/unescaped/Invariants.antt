use Rattle.std.proofs.Common.{◌≡◌, ◌++◌, length}
use Rattle.pl_lex.specs.Scan.{unescaped}
use Rattle.pl_lex.specs.declared.escapes.Pending.TheVariants.{Nothing}
use Rattle.pl_lex.proofs.escapes.unescaped.Given as goal

abbrev pub invariant-loop-text : goal.invariant-loop-text
invariant-loop-text l = l.bytes.items ++ unescaped l.«open» l.text ≡ unescaped Nothing l.initial.text

abbrev pub decreases-loop-text : goal.decreases-loop-text
decreases-loop-text l = length l.text
