use Rattle.std.proofs.Common.{◌≡◌, ◌∙◌, refl, Some, List, sym, ap, length}
use Rattle.std.specs.Prelude.{slice_get}
use Rattle.std.specs.List.{position}
use Rattle.std.proofs.lemmas.Option.{slice_get_read}
use Rattle.pl_history.specs.History.{History}
use Rattle.pl_tables.specs.declared.tables.Place.{Place}
use Rattle.pl_tables.specs.Named.{Named, content_named}
use Rattle.pl_tables.specs.Places.{is_at}
use Rattle.pl_tables.proofs.Finding.{not_there, is_found, within}
use Rattle.pl_tables.proofs.tables.Tables.table.Goals as goal

pub returns-in-Some : goal.returns-in-Some
returns-in-Some c =
    let ps = c.self.inside.places.items in
    let p : c.place_of.result ≡ position (is_at c.args.name) ps = c.place_of.ensures ∙ ap (λ (l : List Place). position (is_at c.args.name) l) c.as_slice.ensures.value in
    let at = c.in-Some.at in
    let is : position (is_at c.args.name) ps ≡ Some at = sym p ∙ c.in-Some.is in
    let has : slice_get ps at ≡ Some c.index.result.now = slice_get_read ps (length ps) at c.index.result.now refl (within c.args.name ps at is) c.index.ensures in
    sym (is_found c.args.name ps at c.index.result.now is has) ∙ ap (λ (h : History (List Named)). content_named c.args.name h.current) c.self.view_is

pub returns-in-None : goal.returns-in-None
returns-in-None c =
    let ps = c.self.inside.places.items in
    let p : c.place_of.result ≡ position (is_at c.args.name) ps = c.place_of.ensures ∙ ap (λ (l : List Place). position (is_at c.args.name) l) c.as_slice.ensures.value in
    sym (not_there c.args.name ps (sym p ∙ c.in-None.is)) ∙ ap (λ (h : History (List Named)). content_named c.args.name h.current) c.self.view_is
