use Rattle.std.proofs.Common.{◌∙◌, subst}
use Rattle.pl_codec.specs.Spelling.{are_stored}
use Rattle.pl_journal.specs.Journal.{LeadsTo}
use Rattle.pl_journal.specs.Operation.{empty}
use Rattle.pl_journal.specs.Whole.{whole_of}
use Rattle.pl_journal.proofs.WholeLeads.{written_leads}
use Rattle.pl_journal.proofs.WholeStored.{is_stored}
use Rattle.pl_undo.specs.Store.{Stored}
use Rattle.pl_journal.proofs.journal.Journal.whole.Goals as goal

pub push_objects-requires : goal.push_objects-requires
push_objects-requires c =
    (λ i. are_stored (whole_of (c.catalog.ensures.objects i) (c.tables.ensures i))) ∙ is_stored c.self.inside.store.now c.self.invariant.kept.now

pub returns : goal.returns
returns c =
    subst (λ (s : Stored). LeadsTo c.from_vec.result empty s.now) c.self.view_is
    (written_leads c.self.inside.store.now c.self.invariant.kept.now _ _ _ _ _ c.catalog.ensures.objects c.tables.ensures c.new-bytes.ensures.items c.from_vec.ensures c.in_ok-push_objects.ensures)
