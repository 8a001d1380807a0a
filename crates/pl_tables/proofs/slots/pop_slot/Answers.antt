use Rattle.std.proofs.Common.{◌≡◌, ◌+◌, [], ◌∙◌, List, ap, length, arith}
use Rattle.pl_tables.specs.declared.slots.Slot.{Slot}
use Rattle.pl_tables.specs.Slots.{live, before}
use Rattle.pl_tables.proofs.Living.{count_popped}
use Rattle.pl_tables.proofs.slots.pop_slot.Goals as goal

pub less_row-requires : goal.less_row-requires
less_row-requires c =
    let n : length (live c.args.slots.now.items) ≡ length (live c.pop.new.self.items) + length (before c.in-Some.slot.id c.in-Some.slot.row []) = ap (λ (xs : List Slot). length (live xs)) c.in-Some.ensures.items ∙ count_popped c.pop.new.self.items c.in-Some.slot in
    omega (arith, n, c.requires)

pub returns-in-Some-clause-count : goal.returns-in-Some-clause-count
returns-in-Some-clause-count c =
    let n : length (live c.args.slots.now.items) ≡ length (live c.pop.new.self.items) + length (before c.in-Some.slot.id c.in-Some.slot.row []) = ap (λ (xs : List Slot). length (live xs)) c.in-Some.ensures.items ∙ count_popped c.pop.new.self.items c.in-Some.slot in
    omega (arith, n, c.requires, c.less_row.ensures)
