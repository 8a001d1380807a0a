use Rattle.std.proofs.Common.{◌≡◌, ◌+◌, ◌∙◌, List, Option, None, sym, ap, map, drop}
use Rattle.pl_base.specs.declared.value.Value.{Value}
use Rattle.pl_unique.specs.declared.row_keys.Key.{Key}
use Rattle.pl_unique.specs.RowKeys.{changed_key}
use Rattle.pl_tables.specs.declared.slots.Slot.{Slot}
use Rattle.pl_tables.specs.Undo.{pushed_key}
use Rattle.pl_tables.proofs.Gaps.{drop_all, none_pushed, pushed_on, slot_step}
use Rattle.pl_tables.proofs.putting.push_rows.Goals as goal

pub loop-slot-preserved : goal.loop-slot-preserved
loop-slot-preserved c =
    let ss = c.args.slots.now in
    let i = c.loop-slot.slot-index in
    let s : Slot = c.slot-item.result in
    let ks = c.loop-slot.keys.items in
    let rest : List Slot = drop (i + 1) ss in
    let on : c.push_row.new.keys.items ≡ map (changed_key None s.row) ks =
    c.in_ok-push_row.ensures ∙ ap (λ (o : Option (List Value)). map (changed_key None o) ks) c.as_ref.ensures.value in
    ap (λ (l : List Key). map (pushed_key rest) l) on
    ∙ (sym (pushed_on (drop i ss) rest s ks (slot_step ss i s c.loop-slot-test.true c.slot-item.is)) ∙ c.loop-slot.invariant)

pub returns : goal.returns
returns c =
    let ss = c.args.slots.now in
    let ks = c.loop-slot.keys.items in
    sym (none_pushed ks) ∙ (ap (λ (l : List Slot). map (pushed_key l) ks) (sym (drop_all ss c.loop-slot.slot-index c.loop-slot-test.false)) ∙ c.loop-slot.invariant)
