use Rattle.std.proofs.Common.{false, refl, length}
use Rattle.std.proofs.lemmas.Option.{slice_get_read}
use Rattle.pl_catalog.specs.Entries.{gone}
use Rattle.pl_catalog.proofs.Found.{entry_set}
use Rattle.pl_catalog.proofs.entries.take_out.Goals as goal

pub returns : goal.returns
returns c =
    let es = c.args.entries.now.items in
    entry_set es c.args.at c.index_mut.result.now (gone false) (slice_get_read es (length es) c.args.at c.index_mut.result.now refl c.requires c.index_mut.ensures.value)
