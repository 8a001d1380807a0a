use Rattle.std.proofs.Common.{◌∙◌, refl, ap}
use Rattle.pl_tables.specs.Places.{there, settled_place}
use Rattle.pl_tables.proofs.Finding.{there_settled}
use Rattle.pl_tables.proofs.tables.settle.Goals as goal

pub loop-step-preserved : goal.loop-step-preserved
loop-step-preserved c =
    ap there c.settle_at.ensures ∙ (there_settled c.loop-step.places.items c.in-Changed.at settled_place (λ p is. refl) ∙ c.loop-step.invariant)
