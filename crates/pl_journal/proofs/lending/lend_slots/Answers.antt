use Rattle.std.proofs.Common.{◌++◌, ◌∙◌, ℕ, List, [], map, sym, ap}
use Rattle.pl_journal.proofs.Slots.{live_more}
use Rattle.pl_tables.specs.Slots.{before}
use Rattle.pl_value.specs.Frames.{Row}
use Rattle.pl_journal.proofs.lending.lend_slots.Goals as goal

pub loop-slot-preserved : goal.loop-slot-preserved
loop-slot-preserved c =
    c.in_ok-lend_slot.ensures
    ∙ (ap (λ (l : List Row). l ++ map (λ (entry : ℕ × Row). entry.1) (before c.slot-item.result.id c.slot-item.result.row [])) c.loop-slot.invariant
    ∙ sym (live_more (λ (entry : ℕ × Row). entry.1) c.args.slots.now c.loop-slot.slot-index c.slot-item.result c.loop-slot-test.true c.slot-item.is))
