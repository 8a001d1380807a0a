use Rattle.std.proofs.Common.{◌≡◌, ◌∙◌, List, None, sym, ap, subst, map, take, drop}
use Rattle.std.specs.List.{AllByRecursion}
use Rattle.pl_unique.specs.declared.row_keys.Key.{Key}
use Rattle.pl_unique.specs.RowKeys.{changed_key, columns_of, settled_key}
use Rattle.pl_tables.specs.declared.slots.Slot.{Slot}
use Rattle.pl_tables.specs.Undo.{at_rest, kept, pushed_key, with_gap, InStep}
use Rattle.pl_tables.proofs.Gaps.{all_over, columns_over, tail_all}
use Rattle.pl_tables.proofs.putting.keys_with_gap.Goals as goal

pub returns-clause-step : goal.returns-clause-step
returns-clause-step c id next =
    let ss = c.args.slots.now in
    let at = c.args.at in
    let made = c.in_ok-wider.wider.items in
    let a : c.push_rows.new.keys.items ≡ map (pushed_key (take at ss)) made = c.in_ok-push_rows.ensures in
    let b : c.push_row.new.keys.items ≡ map (changed_key None None) (map (pushed_key (take at ss)) made) = c.in_ok-push_row.ensures ∙ ap (λ (l : List Key). map (changed_key None None) l) a in
    let d : c.push_rows-2.new.keys.items ≡ map (pushed_key (drop at ss)) (map (changed_key None None) (map (pushed_key (take at ss)) made)) = c.in_ok-push_rows-2.ensures ∙ (ap (λ (l : List Slot). map (pushed_key l) c.push_row.new.keys.items) (tail_all ss at) ∙ ap (λ (l : List Key). map (pushed_key (drop at ss)) l) b) in
    let e : c.forget_keys.new.keys.items ≡ map settled_key (map (pushed_key (drop at ss)) (map (changed_key None None) (map (pushed_key (take at ss)) made))) = c.forget_keys.ensures ∙ ap (λ (l : List Key). map settled_key l) d in
    subst (λ (l : List Key). AllByRecursion (InStep (at_rest (with_gap at id (kept ss next)))) l) (sym e) (all_over ss at id next made c.in_ok-wider.ensures.new)

pub returns-clause-columns : goal.returns-clause-columns
returns-clause-columns c =
    let ss = c.args.slots.now in
    let at = c.args.at in
    let made = c.in_ok-wider.wider.items in
    let a : c.push_rows.new.keys.items ≡ map (pushed_key (take at ss)) made = c.in_ok-push_rows.ensures in
    let b : c.push_row.new.keys.items ≡ map (changed_key None None) (map (pushed_key (take at ss)) made) = c.in_ok-push_row.ensures ∙ ap (λ (l : List Key). map (changed_key None None) l) a in
    let d : c.push_rows-2.new.keys.items ≡ map (pushed_key (drop at ss)) (map (changed_key None None) (map (pushed_key (take at ss)) made)) = c.in_ok-push_rows-2.ensures ∙ (ap (λ (l : List Slot). map (pushed_key l) c.push_row.new.keys.items) (tail_all ss at) ∙ ap (λ (l : List Key). map (pushed_key (drop at ss)) l) b) in
    let e : c.forget_keys.new.keys.items ≡ map settled_key (map (pushed_key (drop at ss)) (map (changed_key None None) (map (pushed_key (take at ss)) made))) = c.forget_keys.ensures ∙ ap (λ (l : List Key). map settled_key l) d in
    ap columns_of e ∙ (columns_over (take at ss) (drop at ss) made ∙ c.in_ok-wider.ensures.columns)
