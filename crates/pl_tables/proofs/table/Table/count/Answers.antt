use Rattle.std.proofs.Common.{◌∙◌, ap, length}
use Rattle.pl_history.specs.History.{History}
use Rattle.pl_tables.specs.Rows.{Content}
use Rattle.pl_tables.proofs.table.Table.count.Goals as goal

pub returns : goal.returns
returns c = c.count.ensures ∙ ap (λ (h : History Content). length h.current.rows) c.self.view_is
