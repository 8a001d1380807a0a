use Rattle.std.proofs.Common.{◌++◌, ◌∙◌, List, [], ap, sym}
use Rattle.pl_altering.proofs.Kept.{live_more}
use Rattle.pl_altering.proofs.keeping.keep_slots.Goals as goal
use Rattle.pl_tables.specs.Slots.{before}
use Rattle.pl_world.specs.Changes as spec

pub loop-slot-preserved : goal.loop-slot-preserved
loop-slot-preserved c =
    c.in_ok-keep_slot.ensures
    ∙ (ap (λ (l : List spec.Entry). l ++ before c.slot-item.result.id c.slot-item.result.row []) c.loop-slot.invariant
    ∙ sym (live_more c.args.slots.now c.loop-slot.slot-index c.slot-item.result c.loop-slot-test.true c.slot-item.is))
