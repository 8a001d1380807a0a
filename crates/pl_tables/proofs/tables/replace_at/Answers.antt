use Rattle.std.proofs.Common.{◌≡◌, ◌∙◌, refl, sym, Option, Some, ap, subst, length}
use Rattle.std.specs.Prelude.{IsSome, slice_get, slice_set}
use Rattle.std.proofs.lemmas.Option.{slice_get_read}
use Rattle.pl_history.specs.History.{History}
use Rattle.pl_tables.specs.declared.tables.Place.{Place}
use Rattle.pl_tables.specs.Named.{HoldsIn}
use Rattle.pl_tables.specs.Rows.{Content}
use Rattle.pl_tables.specs.Places.{content_in, with_replace, row_in}
use Rattle.pl_tables.proofs.Finding.{place_set}
use Rattle.pl_tables.proofs.tables.replace_at.Goals as goal

pub returns-in-Ok-clause-ok : goal.returns-in-Ok-clause-ok
returns-in-Ok-clause-ok c =
    let ps = c.args.places.now.items in
    let has : slice_get ps c.args.at ≡ Some c.index_mut.result.now = slice_get_read ps (length ps) c.args.at c.index_mut.result.now refl c.requires.place c.index_mut.ensures.value in
    ap (λ (h : History Content). slice_set ps c.args.at (let p : Place = record { name = c.index_mut.result.now.name; table = h; is_there = c.index_mut.result.now.is_there } in p)) c.in-Ok.ensures.ok
    ∙ place_set ps c.args.at c.index_mut.result.now (with_replace c.args.id c.args.row) has

pub replace-requires : goal.replace-requires
replace-requires c =
    let ps = c.args.places.now.items in
    let has : slice_get ps c.args.at ≡ Some c.index_mut.result.now = slice_get_read ps (length ps) c.args.at c.index_mut.result.now refl c.requires.place c.index_mut.ensures.value in
    record { there = subst (λ (o : Option Place). IsSome (row_in c.args.id o)) has c.requires.there }

pub returns-in-Ok-clause-free : goal.returns-in-Ok-clause-free
returns-in-Ok-clause-free c holder holds =
    let ps = c.args.places.now.items in
    let has : slice_get ps c.args.at ≡ Some c.index_mut.result.now = slice_get_read ps (length ps) c.args.at c.index_mut.result.now refl c.requires.place c.index_mut.ensures.value in
    c.in-Ok.ensures.free holder (subst (λ (o : Option Place). HoldsIn c.args.row holder (content_in o)) has holds)

pub returns-in-Err-clause-taken : goal.returns-in-Err-clause-taken
returns-in-Err-clause-taken c holder e =
    let ps = c.args.places.now.items in
    let has : slice_get ps c.args.at ≡ Some c.index_mut.result.now = slice_get_read ps (length ps) c.args.at c.index_mut.result.now refl c.requires.place c.index_mut.ensures.value in
    let t = c.replace.ensures.taken holder (c.in-Err.is ∙ e) in
    (t.0, subst (λ (o : Option Place). HoldsIn c.args.row holder (content_in o)) (sym has) t.1)
