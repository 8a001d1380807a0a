use Rattle.std.proofs.Common.{true, ◌≡◌, ◌<◌, refl, Some, sym, vec_len, length, rules, arith}
use Rattle.std.specs.Prelude.{slice_get}
use Rattle.std.proofs.lemmas.Option.{slice_get_read}
use Rattle.pl_tables.specs.Places.{gone}
use Rattle.pl_tables.proofs.Finding.{place_set, place_past}
use Rattle.pl_tables.proofs.tables.bring_back.Goals as goal

pub returns-then-at-len : goal.returns-then-at-len
returns-then-at-len c =
    let ps = c.args.places.now.items in
    let l : vec_len c.args.places.now ≡ length ps = search rules in
    let lt : c.args.at < length ps = omega (arith, l, c.len.ensures, c.if-at-len.true) in
    let has : slice_get ps c.args.at ≡ Some c.index_mut.result.now = slice_get_read ps (length ps) c.args.at c.index_mut.result.now refl lt c.index_mut.ensures.value in
    place_set ps c.args.at c.index_mut.result.now (gone true) has

pub returns-else-at-len : goal.returns-else-at-len
returns-else-at-len c =
    let ps = c.args.places.now.items in
    let l : vec_len c.args.places.now ≡ length ps = search rules in
    sym (place_past ps c.args.at (gone true) (omega (arith, l, c.len.ensures, c.if-at-len.false)))
