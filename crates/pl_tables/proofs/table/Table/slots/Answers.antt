use Rattle.std.proofs.Common.{◌∙◌, ap}
use Rattle.pl_history.specs.History.{History}
use Rattle.pl_tables.specs.Rows.{Content}
use Rattle.pl_tables.specs.Slots.{live}
use Rattle.pl_tables.proofs.table.Table.slots.Goals as goal

pub returns : goal.returns
returns c = ap live c.slots.ensures.slots ∙ ap (λ (h : History Content). h.current.rows) c.self.view_is
