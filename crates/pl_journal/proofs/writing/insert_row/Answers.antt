use Rattle.std.proofs.Common.{sym}
use Rattle.pl_journal.proofs.Writes.{full_leads}
use Rattle.pl_journal.proofs.writing.insert_row.Goals as goal

pub returns-in-None-clause-leads : goal.returns-in-None-clause-leads
returns-in-None-clause-leads c = full_leads c.args.payload.now.items c.args.store.now c.requires.kept c.args.name c.args.row c.in_ok-judge.ensures (sym c.in-None.ensures)
