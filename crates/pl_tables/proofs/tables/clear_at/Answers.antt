use Rattle.std.proofs.Common.{◌≡◌, ◌<◌, ◌∙◌, false, refl, Some, ap, vec_len, length, rules, arith}
use Rattle.std.specs.Prelude.{slice_get}
use Rattle.std.proofs.lemmas.Option.{slice_get_read}
use Rattle.pl_tables.specs.declared.tables.Place.{Place}
use Rattle.pl_tables.proofs.Finding.{there_cleared, same_place}
use Rattle.pl_tables.proofs.tables.clear_at.Goals as goal

pub returns-then-not-index : goal.returns-then-not-index
returns-then-not-index c =
    let ps = c.args.places.now.items in
    let at = c.args.at in
    let p = c.index_mut.result.now in
    let l : vec_len c.args.places.now ≡ length ps = search rules in
    let lt : at < length ps = omega (arith, l, c.len.ensures, c.if-at-len.true) in
    let has : slice_get ps at ≡ Some c.index.result.now = slice_get_read ps (length ps) at c.index.result.now refl lt c.index.ensures in
    let also : slice_get ps at ≡ Some p = slice_get_read ps (length ps) at p refl lt c.index_mut.ensures.value in
    let was : p.is_there ≡ false = ap (λ (q : Place). q.is_there) (same_place ps at p c.index.result.now also has) ∙ c.if-not-index.true in
    there_cleared ps at p (record { name = p.name; table = c.empty.result; is_there = p.is_there }) also was was
