use Rattle.std.proofs.Common.{sym, ◌∙◌}
use Rattle.pl_keys.proofs.Marked.{unknown}
use Rattle.pl_keys.proofs.keys.Keys.find.Goals as goal

pub returns-in-None : goal.returns-in-None
returns-in-None c = rw (← c.self.view_is) (sym (unknown c.args.row.now c.self.inside.rows.items c.mark_of-mark.result c.mark_of-mark.ensures (sym (c.self.invariant c.mark_of-mark.result) ∙ sym c.in-None.ensures)))
