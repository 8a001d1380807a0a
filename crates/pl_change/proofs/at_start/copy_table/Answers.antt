use Rattle.std.proofs.Common.{◌∙◌, ap, List}
use Rattle.pl_change.specs.declared.at_start.Copied.{Copied}
use Rattle.pl_value.specs.Frames.{Row}
use Rattle.pl_value.specs.Frames.{rows_of}
use Rattle.pl_change.proofs.at_start.copy_table.Goals as goal

pub returns : goal.returns
returns c =
    ap (λ (rows : List Row). let t : Copied = record { name = c.args.name; rows = rows } in t) (c.in_ok-rows.ensures ∙ (ap rows_of c.as_slice.ensures.value ∙ c.in_ok-lent.ensures))
