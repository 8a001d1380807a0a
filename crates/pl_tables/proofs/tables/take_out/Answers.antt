use Rattle.std.proofs.Common.{false, refl, length}
use Rattle.std.proofs.lemmas.Option.{slice_get_read}
use Rattle.pl_tables.specs.Places.{gone}
use Rattle.pl_tables.proofs.Finding.{place_set}
use Rattle.pl_tables.proofs.tables.take_out.Goals as goal

pub returns : goal.returns
returns c =
    let ps = c.args.places.now.items in
    place_set ps c.args.at c.index_mut.result.now (gone false) (slice_get_read ps (length ps) c.args.at c.index_mut.result.now refl c.requires c.index_mut.ensures.value)
