use Rattle.std.proofs.Common.{◌≡◌, ◌∙◌, refl, sym, Option, Some, List, ℕ, ap, subst, map}
use Rattle.std.specs.Prelude.{IsSome}
use Rattle.std.specs.List.{AllByRecursion}
use Rattle.pl_base.specs.declared.value.Value.{Value}
use Rattle.pl_history.specs.History.{changed, seen_as, History}
use Rattle.pl_unique.specs.declared.row_keys.KeyFail.TheVariants as keys
use Rattle.pl_unique.specs.RowKeys.{changed_key, columns_of, IsTaken, KeyIsFree}
use Rattle.pl_tables.specs.Rows.{replaced, row_at, Content, Holds}
use Rattle.pl_tables.specs.Slots.{id_at, live, row_of}
use Rattle.pl_tables.specs.Undo.{content, with_row_at}
use Rattle.pl_tables.proofs.Living.{id_within, not_some, row_at_slot}
use Rattle.pl_tables.proofs.Steps.{all_placed, keys_return, keys_set, not_full_fail, one_holder, other_holder, same_err, seen_replaced, some_row, steps_on, steps_stay, taken_fail, taken_holds, taken_within, view_on, view_stays}
use Rattle.pl_tables.proofs.table.Table.replace.Goals as goal

pub change_keys-requires : goal.change_keys-requires
change_keys-requires c =
    let h = c.self.inside.heap in
    let ks = c.self.inside.keys.items in
    let all = c.self.invariant in
    let there : IsSome (row_at c.args.id (live h.current.slots)) = subst (λ (t : History Content). IsSome (row_at c.args.id t.current.rows)) (sym c.self.view_is) c.requires.there in
    let at = c.in-Some.at in
    let is : id_at h.current.slots at ≡ Some c.args.id = c.place_of.ensures.some at c.in-Some.is in
    let has = some_row (row_at c.args.id (live h.current.slots)) there in
    let own : row_of h.current.slots at ≡ Some has.0 = sym (row_at_slot 0 h.current.slots h.current.next at c.args.id c.place_of.ensures.order is) ∙ has.1 in
    record { there = all_placed h at (id_within h.current.slots at c.args.id is) ks all }

pub put-requires : goal.put-requires
put-requires c =
    let h = c.self.inside.heap in
    let ks = c.self.inside.keys.items in
    let all = c.self.invariant in
    let there : IsSome (row_at c.args.id (live h.current.slots)) = subst (λ (t : History Content). IsSome (row_at c.args.id t.current.rows)) (sym c.self.view_is) c.requires.there in
    let at = c.in-Some.at in
    let is : id_at h.current.slots at ≡ Some c.args.id = c.place_of.ensures.some at c.in-Some.is in
    let has = some_row (row_at c.args.id (live h.current.slots)) there in
    let own : row_of h.current.slots at ≡ Some has.0 = sym (row_at_slot 0 h.current.slots h.current.next at c.args.id c.place_of.ensures.order is) ∙ has.1 in
    record { there = subst (λ (o : Option (List Value)). IsSome o) (row_at_slot 0 h.current.slots h.current.next at c.args.id c.place_of.ensures.order is) there }

pub invariant_of-self-in-Ok-put : goal.invariant_of-self-in-Ok-put
invariant_of-self-in-Ok-put c =
    let h = c.self.inside.heap in
    let ks = c.self.inside.keys.items in
    let all = c.self.invariant in
    let there : IsSome (row_at c.args.id (live h.current.slots)) = subst (λ (t : History Content). IsSome (row_at c.args.id t.current.rows)) (sym c.self.view_is) c.requires.there in
    let at = c.in-Some.at in
    let is : id_at h.current.slots at ≡ Some c.args.id = c.place_of.ensures.some at c.in-Some.is in
    let has = some_row (row_at c.args.id (live h.current.slots)) there in
    let own : row_of h.current.slots at ≡ Some has.0 = sym (row_at_slot 0 h.current.slots h.current.next at c.args.id c.place_of.ensures.order is) ∙ has.1 in
    steps_on h c.put.new.self ks c.change_keys.new.keys.items (Some at) (Some c.args.row) (with_row_at at (Some c.args.row) h.current) (subst (λ (r : List Value). c.change_keys.new.keys.items ≡ map (changed_key (Some c.in-Some.at) (Some r)) ks) c.as_slice.ensures c.in-Ok.ensures.ok) c.in-Ok-put.ensures.ok (λ columns. keys_set columns at (Some c.args.row) h.current) all

pub returns-in-Ok-put-clause-ok : goal.returns-in-Ok-put-clause-ok
returns-in-Ok-put-clause-ok c =
    let h = c.self.inside.heap in
    let ks = c.self.inside.keys.items in
    let all = c.self.invariant in
    let there : IsSome (row_at c.args.id (live h.current.slots)) = subst (λ (t : History Content). IsSome (row_at c.args.id t.current.rows)) (sym c.self.view_is) c.requires.there in
    let at = c.in-Some.at in
    let is : id_at h.current.slots at ≡ Some c.args.id = c.place_of.ensures.some at c.in-Some.is in
    let has = some_row (row_at c.args.id (live h.current.slots)) there in
    let own : row_of h.current.slots at ≡ Some has.0 = sym (row_at_slot 0 h.current.slots h.current.next at c.args.id c.place_of.ensures.order is) ∙ has.1 in
    view_on h c.put.new.self ks c.change_keys.new.keys.items (Some at) (Some c.args.row) (with_row_at at (Some c.args.row) h.current) (subst (λ (r : List Value). c.change_keys.new.keys.items ≡ map (changed_key (Some c.in-Some.at) (Some r)) ks) c.as_slice.ensures c.in-Ok.ensures.ok) c.in-Ok-put.ensures.ok
    ∙ (ap (λ (k : Content). changed k (seen_as (content (columns_of ks)) h)) (seen_replaced (columns_of ks) h.current at c.args.id has.0 c.args.row c.place_of.ensures.order is own)
    ∙ ap (λ (t : History Content). changed (replaced c.args.id c.args.row t.current) t) c.self.view_is)

pub invariant_of-self-in-Err-put : goal.invariant_of-self-in-Err-put
invariant_of-self-in-Err-put c =
    let h = c.self.inside.heap in
    let ks = c.self.inside.keys.items in
    let all = c.self.invariant in
    let there : IsSome (row_at c.args.id (live h.current.slots)) = subst (λ (t : History Content). IsSome (row_at c.args.id t.current.rows)) (sym c.self.view_is) c.requires.there in
    let at = c.in-Some.at in
    let is : id_at h.current.slots at ≡ Some c.args.id = c.place_of.ensures.some at c.in-Some.is in
    let has = some_row (row_at c.args.id (live h.current.slots)) there in
    let own : row_of h.current.slots at ≡ Some has.0 = sym (row_at_slot 0 h.current.slots h.current.next at c.args.id c.place_of.ensures.order is) ∙ has.1 in
    steps_stay h c.put.new.self ks c.undo_keys.new.keys.items (keys_return ks c.change_keys.new.keys.items c.undo_keys.new.keys.items (Some at) (Some c.args.row) (subst (λ (r : List Value). c.change_keys.new.keys.items ≡ map (changed_key (Some c.in-Some.at) (Some r)) ks) c.as_slice.ensures c.in-Ok.ensures.ok) c.undo_keys.ensures) c.in-Err-put.ensures.err all

pub returns-in-Err-put-clause-err : goal.returns-in-Err-put-clause-err
returns-in-Err-put-clause-err c =
    let h = c.self.inside.heap in
    let ks = c.self.inside.keys.items in
    let all = c.self.invariant in
    let there : IsSome (row_at c.args.id (live h.current.slots)) = subst (λ (t : History Content). IsSome (row_at c.args.id t.current.rows)) (sym c.self.view_is) c.requires.there in
    let at = c.in-Some.at in
    let is : id_at h.current.slots at ≡ Some c.args.id = c.place_of.ensures.some at c.in-Some.is in
    let has = some_row (row_at c.args.id (live h.current.slots)) there in
    let own : row_of h.current.slots at ≡ Some has.0 = sym (row_at_slot 0 h.current.slots h.current.next at c.args.id c.place_of.ensures.order is) ∙ has.1 in
    view_stays h c.put.new.self ks c.undo_keys.new.keys.items (keys_return ks c.change_keys.new.keys.items c.undo_keys.new.keys.items (Some at) (Some c.args.row) (subst (λ (r : List Value). c.change_keys.new.keys.items ≡ map (changed_key (Some c.in-Some.at) (Some r)) ks) c.as_slice.ensures c.in-Ok.ensures.ok) c.undo_keys.ensures) c.in-Err-put.ensures.err
    ∙ c.self.view_is

pub invariant_of-self : goal.invariant_of-self
invariant_of-self c =
    let h = c.self.inside.heap in
    let ks = c.self.inside.keys.items in
    let all = c.self.invariant in
    steps_stay h h ks c.change_keys.new.keys.items c.in-Err.ensures.err refl all

pub returns-in-Err-clause-err : goal.returns-in-Err-clause-err
returns-in-Err-clause-err c =
    let h = c.self.inside.heap in
    let ks = c.self.inside.keys.items in
    let all = c.self.invariant in
    view_stays h h ks c.change_keys.new.keys.items c.in-Err.ensures.err refl ∙ c.self.view_is

pub returns-in_default-clause-ok : goal.returns-in_default-clause-ok
returns-in_default-clause-ok c =
    let h = c.self.inside.heap in
    let ks = c.self.inside.keys.items in
    let all = c.self.invariant in
    let there : IsSome (row_at c.args.id (live h.current.slots)) = subst (λ (t : History Content). IsSome (row_at c.args.id t.current.rows)) (sym c.self.view_is) c.requires.there in
    absurd (not_some (row_at c.args.id (live h.current.slots)) there (c.place_of.ensures.none c.in_default.is))

pub returns-in_default-clause-free : goal.returns-in_default-clause-free
returns-in_default-clause-free c =
    let h = c.self.inside.heap in
    let ks = c.self.inside.keys.items in
    let all = c.self.invariant in
    let there : IsSome (row_at c.args.id (live h.current.slots)) = subst (λ (t : History Content). IsSome (row_at c.args.id t.current.rows)) (sym c.self.view_is) c.requires.there in
    absurd (not_some (row_at c.args.id (live h.current.slots)) there (c.place_of.ensures.none c.in_default.is))

pub refusal-requires : goal.refusal-requires
refusal-requires c at e =
    let h = c.self.inside.heap in
    let ks = c.self.inside.keys.items in
    let all = c.self.invariant in
    taken_within h ks all c.args.row (Some c.in-Some.at) at (subst (λ (r : List Value). IsTaken (Some c.in-Some.at) (Some r) ks at) c.as_slice.ensures (c.change_keys.ensures.taken at (c.in-Err.is ∙ same_err c.in-Err.fail (keys.Taken at) e)))

pub returns-in-Ok-put-clause-free : goal.returns-in-Ok-put-clause-free
returns-in-Ok-put-clause-free c =
    let h = c.self.inside.heap in
    let ks = c.self.inside.keys.items in
    let all = c.self.invariant in
    let there : IsSome (row_at c.args.id (live h.current.slots)) = subst (λ (t : History Content). IsSome (row_at c.args.id t.current.rows)) (sym c.self.view_is) c.requires.there in
    let at = c.in-Some.at in
    let is : id_at h.current.slots at ≡ Some c.args.id = c.place_of.ensures.some at c.in-Some.is in
    let has = some_row (row_at c.args.id (live h.current.slots)) there in
    let own : row_of h.current.slots at ≡ Some has.0 = sym (row_at_slot 0 h.current.slots h.current.next at c.args.id c.place_of.ensures.order is) ∙ has.1 in
    subst (λ (t : History Content). (holder : ℕ) → Holds c.args.row t.current holder → holder ≡ c.args.id) c.self.view_is (one_holder h ks all c.args.row at c.args.id is (subst (λ (r : List Value). AllByRecursion (KeyIsFree (Some c.in-Some.at) (Some r)) ks) c.as_slice.ensures c.in-Ok.ensures.free))

pub returns-in-Err-clause-full : goal.returns-in-Err-clause-full
returns-in-Err-clause-full c e =
    let h = c.self.inside.heap in
    let ks = c.self.inside.keys.items in
    let all = c.self.invariant in
    not_full_fail h.current c.refusal.result c.in-Err.fail c.refusal.ensures.taken c.refusal.ensures.memory e

pub returns-in-Err-clause-taken : goal.returns-in-Err-clause-taken
returns-in-Err-clause-taken c holder e =
    let h = c.self.inside.heap in
    let ks = c.self.inside.keys.items in
    let all = c.self.invariant in
    let there : IsSome (row_at c.args.id (live h.current.slots)) = subst (λ (t : History Content). IsSome (row_at c.args.id t.current.rows)) (sym c.self.view_is) c.requires.there in
    let at = c.in-Some.at in
    let is : id_at h.current.slots at ≡ Some c.args.id = c.place_of.ensures.some at c.in-Some.is in
    let has = some_row (row_at c.args.id (live h.current.slots)) there in
    let own : row_of h.current.slots at ≡ Some has.0 = sym (row_at_slot 0 h.current.slots h.current.next at c.args.id c.place_of.ensures.order is) ∙ has.1 in
    let t = taken_fail h.current c.refusal.result c.in-Err.fail holder c.refusal.ensures.taken c.refusal.ensures.memory e in
    let taken : IsTaken (Some at) (Some c.args.row) ks t.0 = subst (λ (r : List Value). IsTaken (Some at) (Some r) ks t.0) c.as_slice.ensures (c.change_keys.ensures.taken t.0 (c.in-Err.is ∙ same_err c.in-Err.fail (keys.Taken t.0) t.1)) in (
      other_holder h ks all c.args.row at c.args.id t.0 holder c.refusal.ensures.order is taken t.2,
      subst (λ (t : History Content). Holds c.args.row t.current holder) c.self.view_is (taken_holds h ks all c.args.row (Some at) t.0 holder c.refusal.ensures.order taken t.2),
    )
