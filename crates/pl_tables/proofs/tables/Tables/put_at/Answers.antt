use Rattle.std.proofs.Common.{◌≡◌, ◌∙◌, Option, None, Some, List, sym, ap, subst}
use Rattle.std.specs.Prelude.{IsSome, slice_get}
use Rattle.std.specs.List.{position}
use Rattle.pl_history.specs.History.{History}
use Rattle.pl_tables.specs.declared.tables.Place.{Place}
use Rattle.pl_tables.specs.Rows.{put_at, Content}
use Rattle.pl_tables.specs.Named.{content_named, has_room_named, on_table, HoldsIn, Named}
use Rattle.pl_tables.specs.Places.{content_in, has_room_in, there, is_at}
use Rattle.pl_tables.proofs.Finding.{content_found, not_some, not_there, room_found, some_place, there_put, within}
use Rattle.pl_tables.proofs.Laying.{on_err, on_ok}
use Rattle.pl_tables.proofs.tables.Tables.put_at.Goals as goal

pub put_at_place-requires-clause-place : goal.put_at_place-requires-clause-place
put_at_place-requires-clause-place c =
    let ps = c.settle.new.places.items in
    let at = c.in-Some.at in
    let now : there ps ≡ c.args.self.now.current = c.settle.ensures.places ∙ ap (λ (h : History (List Named)). h.current) c.self.view_is in
    let p : position (is_at c.args.name) ps ≡ Some at = sym (c.place_of.ensures ∙ ap (λ (l : List Place). position (is_at c.args.name) l) c.as_slice.ensures.value) ∙ c.in-Some.is in
    within c.args.name ps at p

pub returns-in-Some-clause-ok : goal.returns-in-Some-clause-ok
returns-in-Some-clause-ok c =
    let ps = c.settle.new.places.items in
    let at = c.in-Some.at in
    let now : there ps ≡ c.args.self.now.current = c.settle.ensures.places ∙ ap (λ (h : History (List Named)). h.current) c.self.view_is in
    let p : position (is_at c.args.name) ps ≡ Some at = sym (c.place_of.ensures ∙ ap (λ (l : List Place). position (is_at c.args.name) l) c.as_slice.ensures.value) ∙ c.in-Some.is in
    on_ok c.put_at_place.result c.put_at_place.ensures.ok (λ is.
    ap there is ∙ (there_put c.args.name (put_at c.args.id c.args.row) ps at p ∙ ap (on_table c.args.name (put_at c.args.id c.args.row)) now))

pub returns-in-Some-clause-err : goal.returns-in-Some-clause-err
returns-in-Some-clause-err c =
    let ps = c.settle.new.places.items in
    let now : there ps ≡ c.args.self.now.current = c.settle.ensures.places ∙ ap (λ (h : History (List Named)). h.current) c.self.view_is in
    on_err c.put_at_place.result c.put_at_place.ensures.err (λ is. is ∙ now)

pub returns-in-Some-clause-free : goal.returns-in-Some-clause-free
returns-in-Some-clause-free c =
    let ps = c.settle.new.places.items in
    let at = c.in-Some.at in
    let now : there ps ≡ c.args.self.now.current = c.settle.ensures.places ∙ ap (λ (h : History (List Named)). h.current) c.self.view_is in
    let p : position (is_at c.args.name) ps ≡ Some at = sym (c.place_of.ensures ∙ ap (λ (l : List Place). position (is_at c.args.name) l) c.as_slice.ensures.value) ∙ c.in-Some.is in
    let q = some_place ps at (within c.args.name ps at p) in
    let same : content_named c.args.name c.args.self.now.current ≡ content_in (slice_get ps at) = ap (content_named c.args.name) (sym now) ∙ content_found c.args.name ps at q.0 p q.1 in
    on_ok c.put_at_place.result c.put_at_place.ensures.free (λ free holder holds. free holder (subst (λ (o : Option Content). HoldsIn c.args.row holder o) same holds))

pub returns-in-Some-clause-taken : goal.returns-in-Some-clause-taken
returns-in-Some-clause-taken c holder e =
    let ps = c.settle.new.places.items in
    let at = c.in-Some.at in
    let now : there ps ≡ c.args.self.now.current = c.settle.ensures.places ∙ ap (λ (h : History (List Named)). h.current) c.self.view_is in
    let p : position (is_at c.args.name) ps ≡ Some at = sym (c.place_of.ensures ∙ ap (λ (l : List Place). position (is_at c.args.name) l) c.as_slice.ensures.value) ∙ c.in-Some.is in
    let q = some_place ps at (within c.args.name ps at p) in
    let same : content_named c.args.name c.args.self.now.current ≡ content_in (slice_get ps at) = ap (content_named c.args.name) (sym now) ∙ content_found c.args.name ps at q.0 p q.1 in
    let t = c.put_at_place.ensures.taken holder e in
    (t.0, subst (λ (o : Option Content). HoldsIn c.args.row holder o) (sym same) t.1)

pub returns-in-Some-clause-full : goal.returns-in-Some-clause-full
returns-in-Some-clause-full c =
    let ps = c.settle.new.places.items in
    let at = c.in-Some.at in
    let now : there ps ≡ c.args.self.now.current = c.settle.ensures.places ∙ ap (λ (h : History (List Named)). h.current) c.self.view_is in
    let p : position (is_at c.args.name) ps ≡ Some at = sym (c.place_of.ensures ∙ ap (λ (l : List Place). position (is_at c.args.name) l) c.as_slice.ensures.value) ∙ c.in-Some.is in
    let q = some_place ps at (within c.args.name ps at p) in
    let found : has_room_named c.args.name c.args.id c.args.self.now.current ≡ has_room_in c.args.id (slice_get ps at) = ap (has_room_named c.args.name c.args.id) (sym now) ∙ room_found c.args.name c.args.id ps at q.0 p q.1 in
    (λ e. found ∙ c.put_at_place.ensures.full.0 e, λ t. c.put_at_place.ensures.full.1 (sym found ∙ t))

pub returns-in-None : goal.returns-in-None
returns-in-None c =
    let ps = c.settle.new.places.items in
    let now : there ps ≡ c.args.self.now.current = c.settle.ensures.places ∙ ap (λ (h : History (List Named)). h.current) c.self.view_is in
    let p : position (is_at c.args.name) ps ≡ None = sym (c.place_of.ensures ∙ ap (λ (l : List Place). position (is_at c.args.name) l) c.as_slice.ensures.value) ∙ c.in-None.is in
    absurd (not_some (content_named c.args.name (there ps)) (subst (λ (l : List Named). IsSome (content_named c.args.name l)) (sym now) c.requires.there) (not_there c.args.name ps p))
