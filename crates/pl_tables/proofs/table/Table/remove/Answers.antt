use Rattle.std.proofs.Common.{◌≡◌, ◌∙◌, refl, sym, Option, None, Some, List, ap, subst}
use Rattle.std.specs.Prelude.{IsSome}
use Rattle.pl_base.specs.declared.value.Value.{Value}
use Rattle.pl_history.specs.History.{changed, seen_as, History}
use Rattle.pl_unique.specs.RowKeys.{columns_of}
use Rattle.pl_tables.specs.Rows.{removed, row_at, Content}
use Rattle.pl_tables.specs.Slots.{id_at, live, row_of}
use Rattle.pl_tables.specs.Undo.{content, with_row_at}
use Rattle.pl_tables.proofs.Living.{id_within, not_some, row_at_slot}
use Rattle.pl_tables.proofs.Steps.{all_placed, keys_return, keys_set, seen_removed, some_row, steps_on, steps_stay, view_on, view_stays}
use Rattle.pl_tables.proofs.table.Table.remove.Goals as goal

pub change_keys-requires : goal.change_keys-requires
change_keys-requires c =
    let h = c.self.inside.heap in
    let ks = c.self.inside.keys.items in
    let all = c.self.invariant in
    let there : IsSome (row_at c.args.id (live h.current.slots)) = subst (λ (t : History Content). IsSome (row_at c.args.id t.current.rows)) (sym c.self.view_is) c.requires.there in
    let at = c.in-Some.at in
    let is : id_at h.current.slots at ≡ Some c.args.id = c.place_of.ensures.some at c.in-Some.is in
    let has = some_row (row_at c.args.id (live h.current.slots)) there in
    let own : row_of h.current.slots at ≡ Some has.0 = sym (row_at_slot 0 h.current.slots h.current.next at c.args.id c.place_of.ensures.order is) ∙ has.1 in
    record { there = all_placed h at (id_within h.current.slots at c.args.id is) ks all }

pub put-requires : goal.put-requires
put-requires c =
    let h = c.self.inside.heap in
    let ks = c.self.inside.keys.items in
    let all = c.self.invariant in
    let there : IsSome (row_at c.args.id (live h.current.slots)) = subst (λ (t : History Content). IsSome (row_at c.args.id t.current.rows)) (sym c.self.view_is) c.requires.there in
    let at = c.in-Some.at in
    let is : id_at h.current.slots at ≡ Some c.args.id = c.place_of.ensures.some at c.in-Some.is in
    let has = some_row (row_at c.args.id (live h.current.slots)) there in
    let own : row_of h.current.slots at ≡ Some has.0 = sym (row_at_slot 0 h.current.slots h.current.next at c.args.id c.place_of.ensures.order is) ∙ has.1 in
    record { there = subst (λ (o : Option (List Value)). IsSome o) (row_at_slot 0 h.current.slots h.current.next at c.args.id c.place_of.ensures.order is) there }

pub invariant_of-self-in-Ok-put : goal.invariant_of-self-in-Ok-put
invariant_of-self-in-Ok-put c =
    let h = c.self.inside.heap in
    let ks = c.self.inside.keys.items in
    let all = c.self.invariant in
    let there : IsSome (row_at c.args.id (live h.current.slots)) = subst (λ (t : History Content). IsSome (row_at c.args.id t.current.rows)) (sym c.self.view_is) c.requires.there in
    let at = c.in-Some.at in
    let is : id_at h.current.slots at ≡ Some c.args.id = c.place_of.ensures.some at c.in-Some.is in
    let has = some_row (row_at c.args.id (live h.current.slots)) there in
    let own : row_of h.current.slots at ≡ Some has.0 = sym (row_at_slot 0 h.current.slots h.current.next at c.args.id c.place_of.ensures.order is) ∙ has.1 in
    steps_on h c.put.new.self ks c.change_keys.new.keys.items (Some at) None (with_row_at at None h.current) c.in-Ok.ensures.ok c.in-Ok-put.ensures.ok (λ columns. keys_set columns at None h.current) all

pub returns-in-Ok-put-clause-ok : goal.returns-in-Ok-put-clause-ok
returns-in-Ok-put-clause-ok c =
    let h = c.self.inside.heap in
    let ks = c.self.inside.keys.items in
    let all = c.self.invariant in
    let there : IsSome (row_at c.args.id (live h.current.slots)) = subst (λ (t : History Content). IsSome (row_at c.args.id t.current.rows)) (sym c.self.view_is) c.requires.there in
    let at = c.in-Some.at in
    let is : id_at h.current.slots at ≡ Some c.args.id = c.place_of.ensures.some at c.in-Some.is in
    let has = some_row (row_at c.args.id (live h.current.slots)) there in
    let own : row_of h.current.slots at ≡ Some has.0 = sym (row_at_slot 0 h.current.slots h.current.next at c.args.id c.place_of.ensures.order is) ∙ has.1 in
    view_on h c.put.new.self ks c.change_keys.new.keys.items (Some at) None (with_row_at at None h.current) c.in-Ok.ensures.ok c.in-Ok-put.ensures.ok
    ∙ (ap (λ (k : Content). changed k (seen_as (content (columns_of ks)) h)) (seen_removed (columns_of ks) h.current at c.args.id has.0 c.place_of.ensures.order is own)
    ∙ ap (λ (t : History Content). changed (removed c.args.id t.current) t) c.self.view_is)

pub invariant_of-self-in-Err-put : goal.invariant_of-self-in-Err-put
invariant_of-self-in-Err-put c =
    let h = c.self.inside.heap in
    let ks = c.self.inside.keys.items in
    let all = c.self.invariant in
    let there : IsSome (row_at c.args.id (live h.current.slots)) = subst (λ (t : History Content). IsSome (row_at c.args.id t.current.rows)) (sym c.self.view_is) c.requires.there in
    let at = c.in-Some.at in
    let is : id_at h.current.slots at ≡ Some c.args.id = c.place_of.ensures.some at c.in-Some.is in
    let has = some_row (row_at c.args.id (live h.current.slots)) there in
    let own : row_of h.current.slots at ≡ Some has.0 = sym (row_at_slot 0 h.current.slots h.current.next at c.args.id c.place_of.ensures.order is) ∙ has.1 in
    steps_stay h c.put.new.self ks c.undo_keys.new.keys.items (keys_return ks c.change_keys.new.keys.items c.undo_keys.new.keys.items (Some at) None c.in-Ok.ensures.ok c.undo_keys.ensures) c.in-Err-put.ensures.err all

pub returns-in-Err-put-clause-err : goal.returns-in-Err-put-clause-err
returns-in-Err-put-clause-err c =
    let h = c.self.inside.heap in
    let ks = c.self.inside.keys.items in
    let all = c.self.invariant in
    let there : IsSome (row_at c.args.id (live h.current.slots)) = subst (λ (t : History Content). IsSome (row_at c.args.id t.current.rows)) (sym c.self.view_is) c.requires.there in
    let at = c.in-Some.at in
    let is : id_at h.current.slots at ≡ Some c.args.id = c.place_of.ensures.some at c.in-Some.is in
    let has = some_row (row_at c.args.id (live h.current.slots)) there in
    let own : row_of h.current.slots at ≡ Some has.0 = sym (row_at_slot 0 h.current.slots h.current.next at c.args.id c.place_of.ensures.order is) ∙ has.1 in
    view_stays h c.put.new.self ks c.undo_keys.new.keys.items (keys_return ks c.change_keys.new.keys.items c.undo_keys.new.keys.items (Some at) None c.in-Ok.ensures.ok c.undo_keys.ensures) c.in-Err-put.ensures.err
    ∙ c.self.view_is

pub invariant_of-self : goal.invariant_of-self
invariant_of-self c =
    let h = c.self.inside.heap in
    let ks = c.self.inside.keys.items in
    let all = c.self.invariant in
    steps_stay h h ks c.change_keys.new.keys.items c.in-Err.ensures.err refl all

pub returns-in-Err-clause-err : goal.returns-in-Err-clause-err
returns-in-Err-clause-err c =
    let h = c.self.inside.heap in
    let ks = c.self.inside.keys.items in
    let all = c.self.invariant in
    view_stays h h ks c.change_keys.new.keys.items c.in-Err.ensures.err refl ∙ c.self.view_is

pub returns-in_default-clause-ok : goal.returns-in_default-clause-ok
returns-in_default-clause-ok c =
    let h = c.self.inside.heap in
    let ks = c.self.inside.keys.items in
    let all = c.self.invariant in
    let there : IsSome (row_at c.args.id (live h.current.slots)) = subst (λ (t : History Content). IsSome (row_at c.args.id t.current.rows)) (sym c.self.view_is) c.requires.there in
    absurd (not_some (row_at c.args.id (live h.current.slots)) there (c.place_of.ensures.none c.in_default.is))
