use Rattle.std.proofs.Common.{◌≡◌, ◌∙◌, Bool, Option, Some, refl, sym, ap, length}
use Rattle.std.specs.Prelude.{slice_get}
use Rattle.std.proofs.lemmas.Option.{slice_get_read}
use Rattle.pl_tables.specs.declared.tables.Place.{Place}
use Rattle.pl_tables.specs.Rows.{is_full}
use Rattle.pl_tables.specs.Places.{is_full_in}
use Rattle.pl_tables.proofs.tables.is_full_at.Goals as goal

pub returns : goal.returns
returns c =
    let ps = c.args.places.now in
    let has : slice_get ps c.args.at ≡ Some c.index-places-at.result = slice_get_read ps (length ps) c.args.at c.index-places-at.result refl c.requires c.index-places-at.is in
    ap is_full_in has
    ∙ (ap (λ (p : Place). let o : Option Bool = Some (is_full p.table.current) in o) c.index-places-at.is
    ∙ ap (λ (b : Bool). let o : Option Bool = Some b in o) (sym c.is_full.ensures))
