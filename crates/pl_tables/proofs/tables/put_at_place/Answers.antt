use Rattle.std.proofs.Common.{◌≡◌, ◌∙◌, [], refl, sym, List, Option, Some, ap, subst, length}
use Rattle.std.specs.Prelude.{slice_get, slice_set}
use Rattle.std.proofs.lemmas.Option.{slice_get_read}
use Rattle.pl_history.specs.History.{History}
use Rattle.pl_tables.specs.declared.tables.Place.{Place}
use Rattle.pl_tables.specs.Named.{HoldsIn}
use Rattle.pl_tables.specs.Rows.{put_at, Content}
use Rattle.pl_tables.specs.Places.{content_in, with_put}
use Rattle.pl_tables.proofs.Finding.{place_set, there_kept}
use Rattle.pl_tables.proofs.tables.put_at_place.Goals as goal

pub returns-in-Ok-clause-ok : goal.returns-in-Ok-clause-ok
returns-in-Ok-clause-ok c =
    let ps = c.args.places.now.items in
    let p = c.index_mut.result.now in
    let has : slice_get ps c.args.at ≡ Some p = slice_get_read ps (length ps) c.args.at p refl c.requires.place c.index_mut.ensures.value in
    let new : History Content = c.put_at.new.self in
    let is : new ≡ record { current = put_at c.args.id c.args.row p.table.current; past = [] } =
    ap (λ (k : Content). let h : History Content = record { current = k; past = new.past } in h) c.in-Ok.ensures.ok
    ∙ ap (λ (l : List Content). let h : History Content = record { current = put_at c.args.id c.args.row p.table.current; past = l } in h) c.put_at.ensures.past in
    ap (λ (h : History Content). slice_set ps c.args.at (let q : Place = record { name = p.name; table = h; is_there = p.is_there } in q)) is
    ∙ place_set ps c.args.at p (with_put c.args.id c.args.row) has

pub returns-in-Ok-clause-free : goal.returns-in-Ok-clause-free
returns-in-Ok-clause-free c holder holds =
    let ps = c.args.places.now.items in
    let has : slice_get ps c.args.at ≡ Some c.index_mut.result.now = slice_get_read ps (length ps) c.args.at c.index_mut.result.now refl c.requires.place c.index_mut.ensures.value in
    c.in-Ok.ensures.free holder (subst (λ (o : Option Place). HoldsIn c.args.row holder (content_in o)) has holds)

pub returns-in-Err-clause-taken : goal.returns-in-Err-clause-taken
returns-in-Err-clause-taken c holder e =
    let ps = c.args.places.now.items in
    let has : slice_get ps c.args.at ≡ Some c.index_mut.result.now = slice_get_read ps (length ps) c.args.at c.index_mut.result.now refl c.requires.place c.index_mut.ensures.value in
    let t = c.put_at.ensures.taken holder (c.in-Err.is ∙ e) in
    (t.0, subst (λ (o : Option Place). HoldsIn c.args.row holder (content_in o)) (sym has) t.1)

pub returns-in-Err-clause-err : goal.returns-in-Err-clause-err
returns-in-Err-clause-err c =
    let ps = c.args.places.now.items in
    let has : slice_get ps c.args.at ≡ Some c.index_mut.result.now = slice_get_read ps (length ps) c.args.at c.index_mut.result.now refl c.requires.place c.index_mut.ensures.value in
    there_kept ps c.args.at c.index_mut.result.now c.put_at.new.self has c.in-Err.ensures.err
