use Rattle.std.proofs.Common.{◌≡◌, ◌++◌, Option, [], subst, sym}
use Rattle.std.specs.Prelude.{OnOk}
use Rattle.pl_altering.proofs.Kept.{nothing_more}
use Rattle.pl_altering.proofs.keeping.keep_slot.Goals as goal
use Rattle.pl_altering.specs.Entries.{entries}
use Rattle.pl_tables.specs.Slots.{before}
use Rattle.pl_value.specs.Frames.{Row}

pub returns-in-None : goal.returns-in-None
returns-in-None c = nothing_more (entries c.args.kept.now.items) c.args.slot.now.id c.args.slot.now.row c.in-None.is

pub returns-in-Some : goal.returns-in-Some
returns-in-Some c = subst (λ (o : Option Row). OnOk c.keep_row.result (entries c.keep_row.new.kept.items ≡ entries c.args.kept.now.items ++ before c.args.slot.now.id o [])) (sym c.in-Some.is) c.keep_row.ensures
