use Rattle.std.proofs.Common.{◌≡◌, length}
use Rattle.pl_rules.specs.Rules.{fits}
use Rattle.pl_rules.proofs.rules.fits.Given as goal

abbrev pub invariant-loop-columns : goal.invariant-loop-columns
invariant-loop-columns l = fits l.fn.columns l.fn.row ≡ fits l.columns l.row

abbrev pub decreases-loop-columns : goal.decreases-loop-columns
decreases-loop-columns l = length l.columns
