use Rattle.std.proofs.Common.{◌≡◌, ◌∙◌, List, ap, arith, length, rules, subst, sym, vec_len}
use Rattle.pl_altering.proofs.Over.{over}
use Rattle.pl_altering.proofs.Turns.{Left, all_left, none_left, turn_ends, turn_goes, turn_stops}
use Rattle.pl_altering.proofs.running.update_each.Goals as goal
use Rattle.pl_altering.specs.Entries.{entries, entry_of}
use Rattle.pl_altering.specs.declared.keeping.Entry.{Entry}
use Rattle.pl_world.specs.Changes.{updates}

pub loop-entry-init : goal.loop-entry-init
loop-entry-init g c =
    let given = c.into_iter-entry-iterator.ensures.into_iter_gives in
    let kept = c.args.kept.items in
    let adds = updates (over c.args.command.now c.args.inside.now) c.args.columns.now c.args.parts.now c.args.condition.now in
    record {
      left = subst (λ (es : List Entry). Left c.args.command.now adds (entries kept) (entries es) c.new-rows.result c.args.calling.now c.args.calling.now) (sym given.0)
          (all_left c.args.command.now adds (entries kept) c.new-rows.result c.args.calling.now c.new-rows.ensures);
      counted = ap length given.0 ∙ (let counts : length kept ≡ vec_len c.args.kept = search rules in counts) ∙ sym given.1;
    }

pub loop-entry-preserved : goal.loop-entry-preserved
loop-entry-preserved g c =
    let was = c.loop-entry.invariant in
    let steps = c.in-Some.ensures.steps in
    record {
      left = turn_goes c.args.command.now (updates (over c.args.command.now c.args.inside.now) c.args.columns.now c.args.parts.now c.args.condition.now) (entries c.args.kept.items) _ _ (entry_of c.in-Some.entry) (ap (λ (es : List Entry). entries es) steps.0) c.loop-entry.rows
          c.in-Ok.more c.args.calling.now c.loop-entry.calling c.update_row.new.calling was.left c.in-Ok.ensures;
      counted = omega (arith, was.counted, ap length steps.0, steps.1);
    }

pub returns-in-Err : goal.returns-in-Err
returns-in-Err g c =
    let steps = c.in-Some.ensures.steps in
    turn_stops c.args.command.now (updates (over c.args.command.now c.args.inside.now) c.args.columns.now c.args.parts.now c.args.condition.now) (entries c.args.kept.items) _ _ (entry_of c.in-Some.entry) (ap (λ (es : List Entry). entries es) steps.0) c.loop-entry.rows
    c.in-Err.why c.args.calling.now c.loop-entry.calling c.update_row.new.calling c.loop-entry.invariant.left c.in-Err.ensures

pub returns : goal.returns
returns g c =
    let was = c.loop-entry.invariant in
    turn_ends c.args.command.now (updates (over c.args.command.now c.args.inside.now) c.args.columns.now c.args.parts.now c.args.condition.now) (entries c.args.kept.items) _ c.loop-entry.rows c.args.calling.now c.loop-entry.calling
    (none_left _ (was.counted ∙ c.in-None.ensures.steps.0)) was.left
