use Rattle.std.proofs.Common.{◌∙◌, ◌++◌, ◌∷◌, [], ap, subst, List, Option}
use Rattle.pl_change.specs.Changes.{read_if}
use Rattle.pl_change.specs.Running.{setting_of}
use Rattle.pl_resolved.specs.declared.expression.RExpr.{RExpr}
use Rattle.pl_value.specs.Answers.{Reads}
use Rattle.pl_value.specs.Frames.{Frame, Row, rows_of}
use Rattle.pl_change.proofs.rows.show_if.Goals as goal

pub returns : goal.returns
returns g c objects =
    let s = setting_of g.C.Caller.calls (g.S.Subqueries.sub c.args.sub.now) objects c.args.command.now in
    subst (λ (list : List RExpr). Reads {A = Option Row} (read_if s c.args.condition.now list (rows_of c.args.command.now.around.now ++ c.args.row.now ∷ []) c.args.caller.now) c.read_if.result c.read_if.new.caller) c.as_slice.ensures
    (subst (λ (frame : Frame). Reads {A = Option Row} (read_if s c.args.condition.now c.as_slice.result.now frame c.args.caller.now) c.read_if.result c.read_if.new.caller)
    (ap rows_of c.as_slice-2.ensures.value ∙ c.in_ok-frame.ensures) (c.read_if.ensures objects c.args.command.now))
