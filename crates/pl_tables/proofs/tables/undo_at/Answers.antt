use Rattle.std.proofs.Common.{◌≡◌, ◌<◌, ◌∙◌, refl, Some, sym, ap, vec_len, length, rules, arith}
use Rattle.std.specs.Prelude.{slice_get, slice_set}
use Rattle.std.proofs.lemmas.Option.{slice_get_read}
use Rattle.pl_history.specs.History.{History}
use Rattle.pl_tables.specs.declared.tables.Place.{Place}
use Rattle.pl_tables.specs.Rows.{Content}
use Rattle.pl_tables.specs.Places.{undone_place}
use Rattle.pl_tables.proofs.Finding.{place_set, place_past}
use Rattle.pl_tables.proofs.tables.undo_at.Goals as goal

pub returns-then-at-len : goal.returns-then-at-len
returns-then-at-len c =
    let ps = c.args.places.now.items in
    let l : vec_len c.args.places.now ≡ length ps = search rules in
    let lt : c.args.at < length ps = omega (arith, l, c.len.ensures, c.if-at-len.true) in
    let has : slice_get ps c.args.at ≡ Some c.index_mut.result.now = slice_get_read ps (length ps) c.args.at c.index_mut.result.now refl lt c.index_mut.ensures.value in
    ap (λ (h : History Content). slice_set ps c.args.at (let p : Place = record { name = c.index_mut.result.now.name; table = h; is_there = c.index_mut.result.now.is_there } in p)) c.undo.ensures.back
    ∙ place_set ps c.args.at c.index_mut.result.now undone_place has

pub returns-else-at-len : goal.returns-else-at-len
returns-else-at-len c =
    let ps = c.args.places.now.items in
    let l : vec_len c.args.places.now ≡ length ps = search rules in
    sym (place_past ps c.args.at (undone_place) (omega (arith, l, c.len.ensures, c.if-at-len.false)))
