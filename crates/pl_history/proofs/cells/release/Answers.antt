use Rattle.std.proofs.Common.{◌≡◌, ◌<◌, ◌∙◌, refl, sym, Option, Some, ap, length, ℕ, vec_len, rules, arith}
use Rattle.std.specs.List.{slice_get}
use Rattle.std.proofs.lemmas.Option.{slice_get_read}
use Rattle.pl_history.proofs.Inverses.{released, within}
use Rattle.pl_history.proofs.cells.release.Goals as goal

pub index_mut-requires : goal.index_mut-requires
index_mut-requires c =
    let numbers = c.args.numbers.now.items in
    let places = c.args.places.now.items in
    let has : slice_get numbers c.args.at ≡ Some c.index.result.now = slice_get_read numbers (length numbers) c.args.at c.index.result.now refl c.requires.there c.index.ensures in
    let is : slice_get numbers c.args.at ≡ Some (Some c.in-Some.number) = has ∙ ap (λ (o : Option ℕ). let r : Option (Option ℕ) = Some o in r) (sym c.get.ensures ∙ c.in-Some.is) in
    let lt : c.in-Some.number < length places = within places c.in-Some.number (Some c.args.at) ((c.requires.inverse c.args.at c.in-Some.number).0 is) in
    let l : vec_len c.args.places.now ≡ length places = search rules in
    omega (arith, lt, l)

pub returns-in-Some-clause-inverse : goal.returns-in-Some-clause-inverse
returns-in-Some-clause-inverse c =
    let numbers = c.args.numbers.now.items in
    let has : slice_get numbers c.args.at ≡ Some c.index.result.now = slice_get_read numbers (length numbers) c.args.at c.index.result.now refl c.requires.there c.index.ensures in
    released numbers c.args.places.now.items c.args.at c.in-Some.number c.requires.inverse (has ∙ ap (λ (o : Option ℕ). let r : Option (Option ℕ) = Some o in r) (sym c.get.ensures ∙ c.in-Some.is))
