use Rattle.std.proofs.Common.{◌≡◌, ◌∙◌, refl, Some, List, Option, ap, length}
use Rattle.std.specs.Prelude.{slice_get, slice_set}
use Rattle.std.proofs.lemmas.Option.{slice_get_read}
use Rattle.pl_history.specs.History.{History}
use Rattle.pl_unique.specs.declared.key.Part.{Part}
use Rattle.pl_unique.specs.declared.row_keys.Key.{Key}
use Rattle.pl_unique.specs.RowKeys.{undone_key}
use Rattle.pl_unique.proofs.RowKeys.{key_set}
use Rattle.pl_unique.proofs.row_keys.undo_key.Goals as goal

pub returns : goal.returns
returns c =
    let ks = c.args.keys.now.items in
    let has : slice_get ks c.args.number ≡ Some c.index_mut.result.now = slice_get_read ks (length ks) c.args.number c.index_mut.result.now refl c.requires c.index_mut.ensures.value in
    ap (λ (h : History (List (Option (List Part)))). slice_set ks c.args.number (let k : Key = record { columns = c.index_mut.result.now.columns; at = h } in k)) c.undo.ensures.back
    ∙ key_set undone_key ks c.args.number c.index_mut.result.now has
