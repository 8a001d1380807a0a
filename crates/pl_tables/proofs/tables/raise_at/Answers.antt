use Rattle.std.proofs.Common.{◌≡◌, ◌≤◌, ◌∙◌, [], ℕ, refl, List, Option, Some, ap, subst, length}
use Rattle.std.specs.Prelude.{slice_get, slice_set}
use Rattle.std.specs.Option.{ForSome}
use Rattle.std.proofs.lemmas.Option.{slice_get_read}
use Rattle.pl_history.specs.History.{History}
use Rattle.pl_tables.specs.declared.tables.Place.{Place}
use Rattle.pl_tables.specs.Rows.{raised, Content}
use Rattle.pl_tables.specs.Places.{next_in, with_raised}
use Rattle.pl_tables.proofs.Finding.{place_set}
use Rattle.pl_tables.proofs.tables.raise_at.Goals as goal

pub raise_next-requires : goal.raise_next-requires
raise_next-requires c =
    let ps = c.args.places.now.items in
    let p = c.index_mut.result.now in
    let has : slice_get ps c.args.at ≡ Some p = slice_get_read ps (length ps) c.args.at p refl c.requires.place c.index_mut.ensures.value in
    subst (λ (o : Option Place). ForSome (next_in o) (λ (n : ℕ). n ≤ c.args.next)) has c.requires.next p.table.current.next refl

pub returns : goal.returns
returns c =
    let ps = c.args.places.now.items in
    let p = c.index_mut.result.now in
    let has : slice_get ps c.args.at ≡ Some p = slice_get_read ps (length ps) c.args.at p refl c.requires.place c.index_mut.ensures.value in
    let new : History Content = c.raise_next.new.self in
    let is : new ≡ record { current = raised c.args.next p.table.current; past = [] } =
    ap (λ (k : Content). let h : History Content = record { current = k; past = new.past } in h) c.raise_next.ensures.current
    ∙ ap (λ (l : List Content). let h : History Content = record { current = raised c.args.next p.table.current; past = l } in h) c.raise_next.ensures.past in
    ap (λ (h : History Content). slice_set ps c.args.at (let q : Place = record { name = p.name; table = h; is_there = p.is_there } in q)) is
    ∙ place_set ps c.args.at p (with_raised c.args.next) has
