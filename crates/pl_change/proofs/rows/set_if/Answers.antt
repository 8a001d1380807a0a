use Rattle.std.proofs.Common.{◌∙◌, ap, subst, Option}
use Rattle.std.specs.Prelude.{option_map}
use Rattle.pl_change.specs.Changes.{assigned, read_if}
use Rattle.pl_change.specs.Running.{setting_of}
use Rattle.pl_value.specs.Answers.{Reads}
use Rattle.pl_value.specs.Frames.{Frame, Row, rows_of}
use Rattle.pl_value.specs.Reading.{got, then_read}
use Rattle.pl_change.proofs.rows.set_if.Goals as goal

pub returns : goal.returns
returns g c objects =
    subst (λ (frame : Frame). Reads {A = Option Row} (then_read (read_if (setting_of g.C.Caller.calls (g.S.Subqueries.sub c.args.sub.now) objects c.args.command.now) c.args.condition.now c.args.values.now frame c.args.caller.now)
    (λ vs w. got (option_map (λ (vs : Row). assigned c.args.columns.now vs c.args.row.now) vs) w)) c.set_over.result c.set_over.new.caller)
    (ap rows_of c.as_slice.ensures.value ∙ c.in_ok-frame.ensures) (c.set_over.ensures objects c.args.command.now)
