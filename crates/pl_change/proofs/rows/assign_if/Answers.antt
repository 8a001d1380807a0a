use Rattle.std.proofs.Common.{sym, ap, subst, Option, Some}
use Rattle.std.specs.Prelude.{option_map}
use Rattle.pl_change.specs.Changes.{assigned}
use Rattle.pl_value.specs.Answers.{Reads}
use Rattle.pl_value.specs.Frames.{Row}
use Rattle.pl_value.specs.Reading.{got}
use Rattle.pl_change.proofs.rows.assign_if.Goals as goal

pub returns-in-None : goal.returns-in-None
returns-in-None g c w = ap (λ (o : Option Row). got (option_map (λ (vs : Row). assigned c.args.columns.now vs c.args.row.now) o) w) c.in-None.is

pub returns-in-Some : goal.returns-in-Some
returns-in-Some g c w =
    subst (λ (o : Option Row). Reads {A = Option Row} (got (option_map (λ (vs : Row). assigned c.args.columns.now vs c.args.row.now) o) w) c.assign_all.result w) (sym c.in-Some.is)
    (subst (λ (vs : Row). Reads {A = Option Row} (got (let o : Option Row = Some (assigned c.args.columns.now vs c.args.row.now) in o) w) c.assign_all.result w) c.as_slice.ensures (c.assign_all.ensures w))
