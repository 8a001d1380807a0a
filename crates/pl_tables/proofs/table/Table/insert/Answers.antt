use Rattle.std.proofs.Common.{◌≡◌, ◌∙◌, refl, sym, None, Some, List, ℕ, Bool, true, false, ap, subst, map}
use Rattle.std.specs.List.{AllByRecursion}
use Rattle.pl_base.specs.declared.value.Value.{Value}
use Rattle.pl_history.specs.History.{changed, seen_as, History}
use Rattle.pl_unique.specs.declared.row_keys.KeyFail.TheVariants as keys
use Rattle.pl_unique.specs.RowKeys.{changed_key, columns_of, IsTaken, KeyIsFree}
use Rattle.pl_tables.specs.Rows.{inserted, is_full, Content, Holds}
use Rattle.pl_tables.specs.Undo.{content, with_slot}
use Rattle.pl_tables.proofs.Steps.{keys_pushed, keys_return, no_holder, none_placed, not_full_fail, same_err, seen_inserted, steps_on, steps_stay, taken_fail, taken_holds, taken_within, view_on, view_stays}
use Rattle.pl_tables.proofs.table.Table.insert.Goals as goal

pub change_keys-requires : goal.change_keys-requires
change_keys-requires c = record { there = none_placed c.self.inside.keys.items }

pub refusal-requires : goal.refusal-requires
refusal-requires c at e =
    let h = c.self.inside.heap in
    let ks = c.self.inside.keys.items in
    let all = c.self.invariant in
    taken_within h ks all c.args.row None at (subst (λ (r : List Value). IsTaken None (Some r) ks at) c.as_slice.ensures (c.change_keys.ensures.taken at (c.in-Err.is ∙ same_err c.in-Err.fail (keys.Taken at) e)))

pub append-requires : goal.append-requires
append-requires c = record { room = ap (λ (t : History Content). is_full t.current) c.self.view_is ∙ (sym c.is_full.ensures ∙ c.if-is_full.false) }

pub invariant_of-self-in-Ok-append : goal.invariant_of-self-in-Ok-append
invariant_of-self-in-Ok-append c =
    let h = c.self.inside.heap in
    let ks = c.self.inside.keys.items in
    let all = c.self.invariant in
    steps_on h c.append.new.self ks c.change_keys.new.keys.items None (Some c.args.row) (with_slot c.args.row h.current) (subst (λ (r : List Value). c.change_keys.new.keys.items ≡ map (changed_key None (Some r)) ks) c.as_slice.ensures c.in-Ok.ensures.ok) c.in-Ok-append.ensures.ok (λ columns. keys_pushed columns c.args.row h.current) all

pub returns-in-Ok-append-clause-ok : goal.returns-in-Ok-append-clause-ok
returns-in-Ok-append-clause-ok c =
    let h = c.self.inside.heap in
    let ks = c.self.inside.keys.items in
    let all = c.self.invariant in
    view_on h c.append.new.self ks c.change_keys.new.keys.items None (Some c.args.row) (with_slot c.args.row h.current) (subst (λ (r : List Value). c.change_keys.new.keys.items ≡ map (changed_key None (Some r)) ks) c.as_slice.ensures c.in-Ok.ensures.ok) c.in-Ok-append.ensures.ok
    ∙ (ap (λ (k : Content). changed k (seen_as (content (columns_of ks)) h)) (seen_inserted (columns_of ks) h.current c.args.row)
    ∙ ap (λ (t : History Content). changed (inserted c.args.row t.current) t) c.self.view_is)

pub returns-in-Ok-append-clause-free : goal.returns-in-Ok-append-clause-free
returns-in-Ok-append-clause-free c =
    let h = c.self.inside.heap in
    let ks = c.self.inside.keys.items in
    let all = c.self.invariant in
    subst (λ (t : History Content). (id : ℕ) → Holds c.args.row t.current id → ⊥) c.self.view_is (no_holder h ks all c.args.row (subst (λ (r : List Value). AllByRecursion (KeyIsFree None (Some r)) ks) c.as_slice.ensures c.in-Ok.ensures.free))

pub invariant_of-self-in-Err-append : goal.invariant_of-self-in-Err-append
invariant_of-self-in-Err-append c =
    let h = c.self.inside.heap in
    let ks = c.self.inside.keys.items in
    let all = c.self.invariant in
    steps_stay h c.append.new.self ks c.undo_keys.new.keys.items (keys_return ks c.change_keys.new.keys.items c.undo_keys.new.keys.items None (Some c.args.row) (subst (λ (r : List Value). c.change_keys.new.keys.items ≡ map (changed_key None (Some r)) ks) c.as_slice.ensures c.in-Ok.ensures.ok) c.undo_keys.ensures) c.in-Err-append.ensures.err all

pub returns-in-Err-append-clause-err : goal.returns-in-Err-append-clause-err
returns-in-Err-append-clause-err c =
    let h = c.self.inside.heap in
    let ks = c.self.inside.keys.items in
    let all = c.self.invariant in
    view_stays h c.append.new.self ks c.undo_keys.new.keys.items (keys_return ks c.change_keys.new.keys.items c.undo_keys.new.keys.items None (Some c.args.row) (subst (λ (r : List Value). c.change_keys.new.keys.items ≡ map (changed_key None (Some r)) ks) c.as_slice.ensures c.in-Ok.ensures.ok) c.undo_keys.ensures) c.in-Err-append.ensures.err
    ∙ c.self.view_is

pub invariant_of-self : goal.invariant_of-self
invariant_of-self c =
    let h = c.self.inside.heap in
    let ks = c.self.inside.keys.items in
    let all = c.self.invariant in
    steps_stay h h ks c.change_keys.new.keys.items c.in-Err.ensures.err refl all

pub returns-in-Err-clause-err : goal.returns-in-Err-clause-err
returns-in-Err-clause-err c =
    let h = c.self.inside.heap in
    let ks = c.self.inside.keys.items in
    let all = c.self.invariant in
    view_stays h h ks c.change_keys.new.keys.items c.in-Err.ensures.err refl ∙ c.self.view_is

pub returns-in-Err-clause-full : goal.returns-in-Err-clause-full
returns-in-Err-clause-full c =
    let h = c.self.inside.heap in
    let ks = c.self.inside.keys.items in
    let all = c.self.invariant in (
      λ e. absurd (not_full_fail h.current c.refusal.result c.in-Err.fail c.refusal.ensures.taken c.refusal.ensures.memory e),
      λ t. absurd (let f : (let b : Bool = true in b ≡ false) = sym (c.is_full.ensures ∙ t) ∙ c.if-is_full.false in cc),
    )

pub returns-in-Err-clause-taken : goal.returns-in-Err-clause-taken
returns-in-Err-clause-taken c id e =
    let h = c.self.inside.heap in
    let ks = c.self.inside.keys.items in
    let all = c.self.invariant in
    let t = taken_fail h.current c.refusal.result c.in-Err.fail id c.refusal.ensures.taken c.refusal.ensures.memory e in
    subst (λ (t : History Content). Holds c.args.row t.current id) c.self.view_is
    (taken_holds h ks all c.args.row None t.0 id c.refusal.ensures.order (subst (λ (r : List Value). IsTaken None (Some r) ks t.0) c.as_slice.ensures (c.change_keys.ensures.taken t.0 (c.in-Err.is ∙ same_err c.in-Err.fail (keys.Taken t.0) t.1))) t.2)
