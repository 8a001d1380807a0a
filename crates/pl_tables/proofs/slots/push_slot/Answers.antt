use Rattle.std.proofs.Common.{◌≡◌, ◌≤◌, ◌+◌, ◌++◌, ◌∷◌, [], List, Some, ap, length, arith}
use Rattle.pl_tables.specs.declared.slots.Slot.{Slot}
use Rattle.pl_tables.specs.Slots.{live}
use Rattle.pl_tables.proofs.Living.{count_popped, length_live}
use Rattle.pl_tables.proofs.slots.push_slot.Goals as goal

pub overflow_add-result : goal.overflow_add-result
overflow_add-result c =
    let ss = c.args.slots.now.items in
    let m : length (live ss) ≤ length ss = length_live ss in
    omega (arith, m, c.args.slots.now.ok.0, c.args.slots.now.ok.1, c.args.slots.now.small, c.requires)

pub returns-clause-count : goal.returns-clause-count
returns-clause-count c =
    let ss = c.args.slots.now.items in
    let s : Slot = record { id = c.args.id; row = Some c.args.row } in
    let is : c.push.new.self.items ≡ ss ++ s ∷ [] = c.in_ok-push.ensures.items in
    let n : length (live c.push.new.self.items) ≡ length (live (ss ++ s ∷ [])) = ap (λ (xs : List Slot). length (live xs)) is in
    let m : length (live (ss ++ s ∷ [])) ≡ length (live ss) + 1 = count_popped ss s in
    omega (arith, n, m, c.requires)
