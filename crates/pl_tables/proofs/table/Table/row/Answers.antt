use Rattle.std.proofs.Common.{◌≡◌, ◌∙◌, sym, Some, ap}
use Rattle.std.specs.Prelude.{slice_get}
use Rattle.pl_history.specs.History.{History}
use Rattle.pl_tables.specs.Rows.{row_at, Content}
use Rattle.pl_tables.specs.Slots.{id_at}
use Rattle.pl_tables.proofs.Living.{id_within, row_at_slot, row_read}
use Rattle.pl_tables.proofs.table.Table.row.Goals as goal

pub slot-requires : goal.slot-requires
slot-requires c =
    let k = c.self.inside.heap.current in
    id_within k.slots c.in_ok-at.at c.args.id (c.place_of.ensures.some c.in_ok-at.at c.in_ok-at.was)

pub returns : goal.returns
returns c =
    let k = c.self.inside.heap.current in
    let id : id_at k.slots c.in_ok-at.at ≡ Some c.args.id = c.place_of.ensures.some c.in_ok-at.at c.in_ok-at.was in
    let has : slice_get k.slots c.in_ok-at.at ≡ Some c.slot.result.now = c.slot.ensures.slot in
    c.as_ref.ensures.value ∙ (sym (row_read k.slots c.in_ok-at.at c.slot.result.now has)
    ∙ (sym (row_at_slot 0 k.slots k.next c.in_ok-at.at c.args.id c.slot.ensures.order id) ∙ ap (λ (h : History Content). row_at c.args.id h.current.rows) c.self.view_is))
