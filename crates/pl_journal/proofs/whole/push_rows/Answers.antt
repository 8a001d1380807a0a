use Rattle.std.proofs.Common.{◌+◌, [], drop}
use Rattle.pl_journal.specs.Whole.{row_ops}
use Rattle.pl_journal.proofs.WholeParts.{all_left, no_slot, none_left, part_stored, rest_left, slot_first}
use Rattle.pl_tables.specs.Slots.{before, live}
use Rattle.pl_journal.proofs.whole.push_rows.Goals as goal

pub loop-slot-init : goal.loop-slot-init
loop-slot-init c = all_left (row_ops c.args.name.now (live c.args.slots.now)) c.args.bytes.now.items c.requires

pub push_slot-requires : goal.push_slot-requires
push_slot-requires c =
    let name = c.args.name.now in
    let slots = c.args.slots.now in
    let i = c.loop-slot.slot-index in
    let s = c.slot-item.result in
    part_stored (row_ops name (before s.id s.row [])) (row_ops name (live (drop (i + 1) slots))) (row_ops name (live (drop i slots))) (row_ops name (live slots)) _ _
    (slot_first name slots i s c.loop-slot-test.true c.slot-item.is) c.loop-slot.invariant

pub loop-slot-preserved : goal.loop-slot-preserved
loop-slot-preserved c =
    let name = c.args.name.now in
    let slots = c.args.slots.now in
    let i = c.loop-slot.slot-index in
    let s = c.slot-item.result in
    rest_left (row_ops name (before s.id s.row [])) (row_ops name (live (drop (i + 1) slots))) (row_ops name (live (drop i slots))) (row_ops name (live slots)) _ _ _
    (slot_first name slots i s c.loop-slot-test.true c.slot-item.is) c.loop-slot.invariant c.in_ok-push_slot.ensures

pub returns : goal.returns
returns c =
    let name = c.args.name.now in
    let slots = c.args.slots.now in
    none_left (row_ops name (live (drop c.loop-slot.slot-index slots))) (row_ops name (live slots)) _ _ (no_slot name slots c.loop-slot.slot-index c.loop-slot-test.false) c.loop-slot.invariant
