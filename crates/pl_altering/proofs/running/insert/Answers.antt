use Rattle.std.proofs.Common.{◌∷◌, List, [], subst, sym}
use Rattle.pl_altering.proofs.Over.{over}
use Rattle.pl_altering.proofs.running.insert.Goals as goal
use Rattle.pl_altering.specs.Settings.{ReadsOver}
use Rattle.pl_query.specs.Rows.{in_turn}
use Rattle.pl_resolved.specs.declared.expression.RExpr.{RExpr}
use Rattle.pl_targets.specs.declared.change.RRow.{RRow}
use Rattle.pl_targets.specs.declared.change.RRows.{RRows}
use Rattle.pl_targets.specs.declared.change.RRows.TheVariants.{Query}
use Rattle.pl_value.specs.Frames.{Row}
use Rattle.pl_world.specs.Calls.{Within}
use Rattle.pl_world.specs.Changes.{adds_values, inserts}

pub returns-in-Values : goal.returns-in-Values
returns-in-Values g c =
    let s = over c.args.command.now c.args.inside.now in
    subst (λ (source : RRows). ReadsOver {A = List Row} c.args.command.now (λ (x : Within). inserts s (c.args.command.now.variables.now ∷ []) source x) c.insert_values.result c.args.calling.now c.insert_values.new.calling) (sym c.in-Values.is)
    (subst (λ (list : List RRow). ReadsOver {A = List Row} c.args.command.now (λ (x : Within). in_turn (adds_values s) list [] x) c.insert_values.result c.args.calling.now c.insert_values.new.calling) c.as_slice.ensures c.insert_values.ensures)

pub returns-in-Query : goal.returns-in-Query
returns-in-Query g c =
    let s = over c.args.command.now c.args.inside.now in
    subst (λ (source : RRows). ReadsOver {A = List Row} c.args.command.now (λ (x : Within). inserts s (c.args.command.now.variables.now ∷ []) source x) c.insert_query.result c.args.calling.now c.insert_query.new.calling) (sym c.in-Query.is)
    (subst (λ (list : List RExpr). ReadsOver {A = List Row} c.args.command.now (λ (x : Within). inserts s (c.args.command.now.variables.now ∷ []) (Query c.in-Query.query list) x) c.insert_query.result c.args.calling.now c.insert_query.new.calling) c.as_slice-in-Query.ensures c.insert_query.ensures)
