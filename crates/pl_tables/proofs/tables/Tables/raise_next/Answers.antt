use Rattle.std.proofs.Common.{◌≡◌, ◌≤◌, ◌∙◌, ℕ, Option, None, Some, List, sym, ap, subst}
use Rattle.std.specs.Prelude.{IsSome}
use Rattle.std.specs.List.{position}
use Rattle.std.specs.Option.{ForSome}
use Rattle.pl_history.specs.History.{History}
use Rattle.pl_tables.specs.declared.tables.Place.{Place}
use Rattle.pl_tables.specs.Rows.{raised}
use Rattle.pl_tables.specs.Named.{content_named, next_named, on_table, Named}
use Rattle.pl_tables.specs.Places.{there, is_at}
use Rattle.pl_tables.proofs.Finding.{next_found, not_some, not_there, some_place, there_put, within}
use Rattle.pl_tables.proofs.tables.Tables.raise_next.Goals as goal

pub raise_at-requires : goal.raise_at-requires
raise_at-requires c =
    let ps = c.settle.new.places.items in
    let at = c.in-Some.at in
    let now : there ps ≡ c.args.self.now.current = c.settle.ensures.places ∙ ap (λ (h : History (List Named)). h.current) c.self.view_is in
    let p : position (is_at c.args.name) ps ≡ Some at = sym (c.place_of.ensures ∙ ap (λ (l : List Place). position (is_at c.args.name) l) c.as_slice.ensures.value) ∙ c.in-Some.is in
    let q = some_place ps at (within c.args.name ps at p) in
    record {
      place = within c.args.name ps at p;
      next = subst (λ (o : Option ℕ). ForSome o (λ (n : ℕ). n ≤ c.args.next)) (ap (next_named c.args.name) (sym now) ∙ next_found c.args.name ps at q.0 p q.1) c.requires.next;
    }

pub returns-in-Some-clause-current : goal.returns-in-Some-clause-current
returns-in-Some-clause-current c =
    let ps = c.settle.new.places.items in
    let at = c.in-Some.at in
    let now : there ps ≡ c.args.self.now.current = c.settle.ensures.places ∙ ap (λ (h : History (List Named)). h.current) c.self.view_is in
    let p : position (is_at c.args.name) ps ≡ Some at = sym (c.place_of.ensures ∙ ap (λ (l : List Place). position (is_at c.args.name) l) c.as_slice.ensures.value) ∙ c.in-Some.is in
    ap there c.raise_at.ensures ∙ (there_put c.args.name (raised c.args.next) ps at p ∙ ap (on_table c.args.name (raised c.args.next)) now)

pub returns-in_default-clause-current : goal.returns-in_default-clause-current
returns-in_default-clause-current c =
    let ps = c.settle.new.places.items in
    let now : there ps ≡ c.args.self.now.current = c.settle.ensures.places ∙ ap (λ (h : History (List Named)). h.current) c.self.view_is in
    let p : position (is_at c.args.name) ps ≡ None = sym (c.place_of.ensures ∙ ap (λ (l : List Place). position (is_at c.args.name) l) c.as_slice.ensures.value) ∙ c.in_default.is in
    absurd (not_some (content_named c.args.name (there ps)) (subst (λ (l : List Named). IsSome (content_named c.args.name l)) (sym now) c.requires.there) (not_there c.args.name ps p))
