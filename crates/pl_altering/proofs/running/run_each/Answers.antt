use Rattle.std.proofs.Common.{◌∷◌, List, [], subst, sym, ℕ}
use Rattle.pl_altering.proofs.Over.{over}
use Rattle.pl_altering.proofs.running.run_each.Goals as goal
use Rattle.pl_altering.specs.Entries.{entries}
use Rattle.pl_altering.specs.Settings.{ReadsOver}
use Rattle.pl_altering.specs.declared.keeping.Entry.{Entry}
use Rattle.pl_query.specs.Rows.{in_turn}
use Rattle.pl_resolved.specs.declared.expression.RExpr.{RExpr}
use Rattle.pl_targets.specs.declared.change.RWhat.{RWhat}
use Rattle.pl_value.specs.Frames.{Row}
use Rattle.pl_world.specs.Calls.{Within}
use Rattle.pl_world.specs.Changes.{deletes, does, updates}

pub returns-in-Insert : goal.returns-in-Insert
returns-in-Insert g c =
    subst (λ (what : RWhat). ReadsOver {A = List Row} c.args.command.now (λ (x : Within). does (over c.args.command.now c.args.inside.now) (c.args.command.now.variables.now ∷ []) (entries c.args.kept.items) what x) c.insert.result c.args.calling.now c.insert.new.calling)
    (sym c.in-Insert.is) c.insert.ensures

pub returns-in-Update : goal.returns-in-Update
returns-in-Update g c =
    let s = over c.args.command.now c.args.inside.now in
    subst (λ (what : RWhat). ReadsOver {A = List Row} c.args.command.now (λ (x : Within). does (over c.args.command.now c.args.inside.now) (c.args.command.now.variables.now ∷ []) (entries c.args.kept.items) what x) c.update_each.result c.args.calling.now c.update_each.new.calling)
    (sym c.in-Update.is)
    (subst (λ (columns : List ℕ). ReadsOver {A = List Row} c.args.command.now (λ (x : Within). in_turn (updates s columns c.in-Update.values c.in-Update.condition) (entries c.args.kept.items) [] x) c.update_each.result c.args.calling.now c.update_each.new.calling) c.as_slice.ensures
    (subst (λ (values : List RExpr). ReadsOver {A = List Row} c.args.command.now (λ (x : Within). in_turn (updates s c.as_slice.result.now values c.in-Update.condition) (entries c.args.kept.items) [] x) c.update_each.result c.args.calling.now c.update_each.new.calling) c.as_slice-in-Update.ensures c.update_each.ensures))

pub returns-in-Delete : goal.returns-in-Delete
returns-in-Delete g c =
    subst (λ (what : RWhat). ReadsOver {A = List Row} c.args.command.now (λ (x : Within). does (over c.args.command.now c.args.inside.now) (c.args.command.now.variables.now ∷ []) (entries c.args.kept.items) what x) c.delete_each.result c.args.calling.now c.delete_each.new.calling)
    (sym c.in-Delete.is)
    (subst (λ (kept : List Entry). ReadsOver {A = List Row} c.args.command.now (λ (x : Within). in_turn (deletes (over c.args.command.now c.args.inside.now) c.in-Delete.condition) (entries kept) [] x) c.delete_each.result c.args.calling.now c.delete_each.new.calling) c.as_slice-in-Delete.ensures.value c.delete_each.ensures)
