use Rattle.std.proofs.Common.{◌++◌, ◌∷◌, ◌∙◌, List, [], ap}
use Rattle.pl_altering.proofs.Kept.{entries_more}
use Rattle.pl_altering.proofs.keeping.keep_row.Goals as goal
use Rattle.pl_altering.specs.Entries.{entries}
use Rattle.pl_altering.specs.declared.keeping.Entry.{Entry}
use Rattle.pl_value.specs.Frames.{Row}
use Rattle.pl_world.specs.Changes as spec

pub returns : goal.returns
returns c =
    ap (λ (kept : List Entry). entries kept) c.in_ok-push.ensures.items
    ∙ (entries_more c.args.kept.now.items (record { id = c.args.id; row = c.in_ok-row.row })
    ∙ ap (λ (row : Row). entries c.args.kept.now.items ++ (let e : spec.Entry = (c.args.id, row) in e) ∷ []) (c.in_ok-row.ensures ∙ c.as_slice.ensures))
