use Rattle.std.proofs.Common.{◌∙◌, ◌++◌, ap, subst, List, [], ◌∷◌, map}
use Rattle.pl_resolved.specs.declared.expression.RExpr.{RExpr}
use Rattle.pl_value.specs.Answers.{Reads}
use Rattle.pl_value.specs.Frames.{Frame, Row, rows_of}
use Rattle.pl_value.specs.Meaning.{value, values}
use Rattle.pl_change.proofs.evaluation.show.Goals as goal

pub returns : goal.returns
returns g c objects =
    subst (λ (list : List RExpr). Reads {A = Row} (values (map (value g.C.Caller.calls (g.S.Subqueries.sub c.args.sub.now)) list) [] (rows_of c.args.command.now.around.now ++ c.args.row.now ∷ []) c.args.caller.now) c.values.result c.values.new.caller) c.as_slice.ensures
    (subst (λ (frame : Frame). Reads {A = Row} (values (map (value g.C.Caller.calls (g.S.Subqueries.sub c.args.sub.now)) c.as_slice.result.now) [] frame c.args.caller.now) c.values.result c.values.new.caller)
    (ap rows_of c.as_slice-2.ensures.value ∙ c.in_ok-frame.ensures) c.values.ensures)
