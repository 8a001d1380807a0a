use Rattle.std.proofs.Common.{◌≡◌, ◌∙◌, refl, Some, sym, ap, length}
use Rattle.std.specs.Prelude.{slice_get}
use Rattle.std.proofs.lemmas.Option.{slice_get_read}
use Rattle.pl_tables.specs.Slots.{with_row}
use Rattle.pl_tables.proofs.Living.{slot_set, row_read}
use Rattle.pl_tables.proofs.slots.swap_row.Goals as goal

pub returns-clause-slots : goal.returns-clause-slots
returns-clause-slots c =
    let ss = c.args.slots.now.items in
    let has : slice_get ss c.args.at ≡ Some c.index_mut.result.now = slice_get_read ss (length ss) c.args.at c.index_mut.result.now refl c.requires c.index_mut.ensures.value in
    slot_set ss c.args.at c.index_mut.result.now c.replace.new.dest has ∙ ap (with_row ss c.args.at) c.replace.ensures.after

pub returns-clause-row : goal.returns-clause-row
returns-clause-row c =
    let ss = c.args.slots.now.items in
    let has : slice_get ss c.args.at ≡ Some c.index_mut.result.now = slice_get_read ss (length ss) c.args.at c.index_mut.result.now refl c.requires c.index_mut.ensures.value in
    c.replace.ensures.value ∙ sym (row_read ss c.args.at c.index_mut.result.now has)
