use Rattle.pl_journal.proofs.WholeLeads.{leads}
use Rattle.pl_journal.proofs.WholeStored.{is_stored}
use Rattle.pl_journal.proofs.whole.whole_leads_to_itself.Goals as goal

pub returns-clause-leads : goal.returns-clause-leads
returns-clause-leads c = leads

pub returns-clause-stored : goal.returns-clause-stored
returns-clause-stored c = is_stored
