use Rattle.std.proofs.Common.{◌≡◌, ◌∙◌, List, Option, Some, sym, ap}
use Rattle.std.specs.Prelude.{is_some}
use Rattle.pl_base.specs.declared.value.Value.{Value}
use Rattle.pl_tables.specs.Slots.{id_at}
use Rattle.pl_tables.proofs.Living.{id_within, row_at_slot, row_read}
use Rattle.pl_tables.proofs.heap.Heap.has.Goals as goal

pub slot-requires : goal.slot-requires
slot-requires c = id_within c.args.self.now.current.slots c.in-Some.at c.args.id (c.place_of.ensures.some c.in-Some.at c.in-Some.is)

pub returns-in-Some : goal.returns-in-Some
returns-in-Some c =
    let k = c.args.self.now.current in
    let at = c.in-Some.at in
    let id : id_at k.slots at ≡ Some c.args.id = c.place_of.ensures.some at c.in-Some.is in
    c.is_some.ensures ∙ ap (λ (o : Option (List Value)). is_some o) (sym (row_at_slot 0 k.slots k.next at c.args.id c.place_of.ensures.order id ∙ row_read k.slots at c.slot.result.now c.slot.ensures.slot))
