use Rattle.std.proofs.Common.{Err, subst, sym}
use Rattle.pl_calling.proofs.Keeping.{ends_got, settled_error}
use Rattle.pl_calling.proofs.ending.settle.Goals as goal
use Rattle.pl_engine.specs.Engines.{world}
use Rattle.pl_calling.specs.Ends.{EndsAs, settles}
use Rattle.pl_calling.specs.Standing.{keep}
use Rattle.pl_natural.specs.Kept.{ReadsKept}

pub returns-in-Ok : goal.returns-in-Ok
returns-in-Ok g c = λ reading room s same failed reads. ends_got c.args.at room reading s c.in-Ok.x (subst (λ a. ReadsKept (keep c.args.at room) reading a s) c.in-Ok.is reads)

pub returns-in-Fails : goal.returns-in-Fails
returns-in-Fails g c = λ reading room s same failed reads.
    subst (λ f. EndsAs (settles reading c.args.at) (Err f) s) (sym c.error.ensures)
    (settled_error c.args.at room reading s c.in-Fails.state c.args.failure (world c.args.engine.now) same failed
    (subst (λ u. ReadsKept (keep c.args.at room) reading (Err u) s) c.in-Fails.is (subst (λ a. ReadsKept (keep c.args.at room) reading a s) c.in-Err.is reads)))
