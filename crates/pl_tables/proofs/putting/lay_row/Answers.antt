use Rattle.std.proofs.Common.{◌≡◌, ◌∙◌, List, Some, sym, ap, subst, map}
use Rattle.std.specs.List.{AllByRecursion}
use Rattle.pl_base.specs.declared.value.Value.{Value}
use Rattle.pl_history.specs.History.{History}
use Rattle.pl_unique.specs.declared.row_keys.Key.{Key}
use Rattle.pl_unique.specs.declared.row_keys.KeyFail.TheVariants as keys
use Rattle.pl_unique.specs.RowKeys.{changed_key, columns_of, settled_key, IsTaken, KeyIsFree}
use Rattle.pl_tables.specs.Undo.{InStep, Kept}
use Rattle.pl_tables.proofs.Steps.{keys_return, not_full_fail, same_err, steps_stay, taken_fail, taken_within}
use Rattle.pl_tables.proofs.Laying.{laid_columns, laid_free, laid_steps, laid_taken, may_place}
use Rattle.pl_tables.proofs.putting.lay_row.Goals as goal

pub change_keys-requires : goal.change_keys-requires
change_keys-requires c =
    let h = c.args.heap.now in
    let ks = c.args.keys.now.items in
    let all = c.requires.step in
    record { there = may_place h ks all c.args.place c.args.id c.requires.place }

pub refusal-requires : goal.refusal-requires
refusal-requires c at e =
    let h = c.args.heap.now in
    let ks = c.args.keys.now.items in
    let all = c.requires.step in
    taken_within h ks all c.args.row c.args.place at
    (subst (λ (r : List Value). IsTaken c.args.place (Some r) ks at) c.as_slice.ensures (c.change_keys.ensures.taken at (c.in-Err.is ∙ same_err c.in-Err.fail (keys.Taken at) e)))

pub returns-in-Err-clause-full : goal.returns-in-Err-clause-full
returns-in-Err-clause-full c e =
    not_full_fail c.args.heap.now.current c.refusal.result c.in-Err.fail c.refusal.ensures.taken c.refusal.ensures.memory e

pub returns-in-Err-clause-taken : goal.returns-in-Err-clause-taken
returns-in-Err-clause-taken c holder e =
    let h = c.args.heap.now in
    let ks = c.args.keys.now.items in
    let all = c.requires.step in
    let t = taken_fail h.current c.refusal.result c.in-Err.fail holder c.refusal.ensures.taken c.refusal.ensures.memory e in
    let taken : IsTaken c.args.place (Some c.args.row) ks t.0 =
    subst (λ (r : List Value). IsTaken c.args.place (Some r) ks t.0) c.as_slice.ensures (c.change_keys.ensures.taken t.0 (c.in-Err.is ∙ same_err c.in-Err.fail (keys.Taken t.0) t.1)) in
    laid_taken h ks all c.args.row c.args.place c.args.id t.0 holder c.refusal.ensures.order c.requires.place taken t.2

pub returns-in-Ok-lay-clause-step : goal.returns-in-Ok-lay-clause-step
returns-in-Ok-lay-clause-step c =
    let h = c.args.heap.now in
    let ks = c.args.keys.now.items in
    let all = c.requires.step in
    let on : c.change_keys.new.keys.items ≡ map (changed_key c.args.place (Some c.args.row)) ks =
    subst (λ (r : List Value). c.change_keys.new.keys.items ≡ map (changed_key c.args.place (Some r)) ks) c.as_slice.ensures c.in-Ok.ensures.ok in
    let keys : c.forget_keys.new.keys.items ≡ map settled_key (map (changed_key c.args.place (Some c.args.row)) ks) = c.forget_keys.ensures ∙ ap (λ (l : List Key). map settled_key l) on in
    subst (λ (l : List Key). AllByRecursion (InStep c.lay.new.self) l) (sym keys)
    (subst (λ (g : History Kept). AllByRecursion (InStep g) (map settled_key (map (changed_key c.args.place (Some c.args.row)) ks))) (sym c.in-Ok-lay.ensures.ok) (laid_steps h ks all c.args.row c.args.place c.args.id))

pub returns-in-Ok-lay-clause-columns : goal.returns-in-Ok-lay-clause-columns
returns-in-Ok-lay-clause-columns c =
    let h = c.args.heap.now in
    let ks = c.args.keys.now.items in
    let all = c.requires.step in
    let on : c.change_keys.new.keys.items ≡ map (changed_key c.args.place (Some c.args.row)) ks =
    subst (λ (r : List Value). c.change_keys.new.keys.items ≡ map (changed_key c.args.place (Some r)) ks) c.as_slice.ensures c.in-Ok.ensures.ok in
    let keys : c.forget_keys.new.keys.items ≡ map settled_key (map (changed_key c.args.place (Some c.args.row)) ks) = c.forget_keys.ensures ∙ ap (λ (l : List Key). map settled_key l) on in
    ap columns_of keys ∙ laid_columns h ks all c.args.row c.args.place

pub returns-in-Ok-lay-clause-free : goal.returns-in-Ok-lay-clause-free
returns-in-Ok-lay-clause-free c =
    let h = c.args.heap.now in
    let ks = c.args.keys.now.items in
    let all = c.requires.step in
    laid_free h ks all c.args.row c.args.place c.args.id c.requires.place
    (subst (λ (r : List Value). AllByRecursion (KeyIsFree c.args.place (Some r)) ks) c.as_slice.ensures c.in-Ok.ensures.free)

pub returns-in-Err-lay-clause-step : goal.returns-in-Err-lay-clause-step
returns-in-Err-lay-clause-step c =
    let h = c.args.heap.now in
    let ks = c.args.keys.now.items in
    let all = c.requires.step in
    let on : c.change_keys.new.keys.items ≡ map (changed_key c.args.place (Some c.args.row)) ks =
    subst (λ (r : List Value). c.change_keys.new.keys.items ≡ map (changed_key c.args.place (Some r)) ks) c.as_slice.ensures c.in-Ok.ensures.ok in
    let returned : c.undo_keys.new.keys.items ≡ ks = keys_return ks c.change_keys.new.keys.items c.undo_keys.new.keys.items c.args.place (Some c.args.row) on c.undo_keys.ensures in
    let same : c.lay.new.self ≡ h = c.in-Err-lay.ensures.err ∙ ap (λ (p : List Kept). let g : History Kept = record { current = h.current; past = p } in g) (sym c.requires.rest) in
    steps_stay h c.lay.new.self ks c.undo_keys.new.keys.items returned same all

pub returns-in-Err-lay-clause-columns : goal.returns-in-Err-lay-clause-columns
returns-in-Err-lay-clause-columns c =
    let h = c.args.heap.now in
    let ks = c.args.keys.now.items in
    let all = c.requires.step in
    let on : c.change_keys.new.keys.items ≡ map (changed_key c.args.place (Some c.args.row)) ks =
    subst (λ (r : List Value). c.change_keys.new.keys.items ≡ map (changed_key c.args.place (Some r)) ks) c.as_slice.ensures c.in-Ok.ensures.ok in
    let returned : c.undo_keys.new.keys.items ≡ ks = keys_return ks c.change_keys.new.keys.items c.undo_keys.new.keys.items c.args.place (Some c.args.row) on c.undo_keys.ensures in
    ap columns_of returned

pub returns-in-Err-lay-clause-err : goal.returns-in-Err-lay-clause-err
returns-in-Err-lay-clause-err c =
    let h = c.args.heap.now in
    let ks = c.args.keys.now.items in
    let all = c.requires.step in
    let same : c.lay.new.self ≡ h = c.in-Err-lay.ensures.err ∙ ap (λ (p : List Kept). let g : History Kept = record { current = h.current; past = p } in g) (sym c.requires.rest) in
    same
