use Rattle.std.proofs.Common.{◌≡◌, ◌++◌, ◌∷◌, [], ◌∙◌, Option, Some, List, sym, ap, subst}
use Rattle.std.specs.Prelude.{IsSome, slice_get}
use Rattle.std.specs.List.{position}
use Rattle.pl_base.specs.declared.value.Value.{Value}
use Rattle.pl_history.specs.History.{History, changed, history, seen_as}
use Rattle.pl_tables.specs.declared.tables.Place.{Place}
use Rattle.pl_tables.specs.declared.tables.Step.{Step}
use Rattle.pl_tables.specs.declared.tables.Step.TheVariants.{Changed}
use Rattle.pl_tables.specs.Rows.{replaced, Content}
use Rattle.pl_tables.specs.Named.{content_named, on_table, row_named, HoldsIn, Named}
use Rattle.pl_tables.specs.Places.{content_in, there, is_at, undo_step}
use Rattle.pl_tables.proofs.Finding.{content_found, row_found, row_absent, some_place, no_row, gone_on, there_changed, undone_change, within}
use Rattle.pl_tables.proofs.tables.Tables.replace.Goals as goal

pub returns-in-Ok-clause-ok : goal.returns-in-Ok-clause-ok
returns-in-Ok-clause-ok c =
    let ps = c.self.inside.places.items in
    let ss = c.self.inside.steps.items in
    let at = c.in-Some.at in
    let p : position (is_at c.args.name) ps ≡ Some at = sym (c.place_of.ensures ∙ ap (λ (l : List Place). position (is_at c.args.name) l) c.as_slice.ensures.value) ∙ c.in-Some.is in
    let is : c.push_reserved.new.self.items ≡ ss ++ (Changed at) ∷ [] = c.push_reserved.ensures.items ∙ ap (λ (l : List Step). l ++ (Changed at) ∷ []) c.reserve.ensures.items in
    gone_on ss c.push_reserved.new.self.items (Changed at) ps c.replace_at.new.places.items is (ap (undo_step (Changed at)) c.in-Ok.ensures.ok ∙ undone_change c.args.name (replaced c.args.id c.args.row) ps at)
    ∙ (ap (λ (l : List Named). changed l (seen_as there (history undo_step ss ps))) (ap there c.in-Ok.ensures.ok ∙ there_changed c.args.name (replaced c.args.id c.args.row) ps at p)
    ∙ ap (λ (h : History (List Named)). changed (on_table c.args.name (replaced c.args.id c.args.row) h.current) h) c.self.view_is)

pub replace_at-requires-clause-place : goal.replace_at-requires-clause-place
replace_at-requires-clause-place c =
    let ps = c.self.inside.places.items in
    let ss = c.self.inside.steps.items in
    let at = c.in-Some.at in
    let p : position (is_at c.args.name) ps ≡ Some at = sym (c.place_of.ensures ∙ ap (λ (l : List Place). position (is_at c.args.name) l) c.as_slice.ensures.value) ∙ c.in-Some.is in
    within c.args.name ps at p

pub replace_at-requires-clause-there : goal.replace_at-requires-clause-there
replace_at-requires-clause-there c =
    let ps = c.self.inside.places.items in
    let ss = c.self.inside.steps.items in
    let at = c.in-Some.at in
    let p : position (is_at c.args.name) ps ≡ Some at = sym (c.place_of.ensures ∙ ap (λ (l : List Place). position (is_at c.args.name) l) c.as_slice.ensures.value) ∙ c.in-Some.is in
    let q = some_place ps at (within c.args.name ps at p) in
    subst (λ (o : Option (List Value)). IsSome o) (row_found c.args.name c.args.id ps at q.0 p q.1)
    (subst (λ (h : History (List Named)). IsSome (row_named c.args.name c.args.id h.current)) (sym c.self.view_is) c.requires.there)

pub returns-in-None-clause-ok : goal.returns-in-None-clause-ok
returns-in-None-clause-ok c =
    let ps = c.self.inside.places.items in
    let p : c.place_of.result ≡ position (is_at c.args.name) ps = c.place_of.ensures ∙ ap (λ (l : List Place). position (is_at c.args.name) l) c.as_slice.ensures.value in
    absurd (no_row (row_named c.args.name c.args.id (there ps)) (subst (λ (h : History (List Named)). IsSome (row_named c.args.name c.args.id h.current)) (sym c.self.view_is) c.requires.there) (row_absent c.args.name c.args.id ps (sym p ∙ c.in-None.is)))

pub returns-in-Ok-clause-free : goal.returns-in-Ok-clause-free
returns-in-Ok-clause-free c holder holds =
    let ps = c.self.inside.places.items in
    let at = c.in-Some.at in
    let p : position (is_at c.args.name) ps ≡ Some at = sym (c.place_of.ensures ∙ ap (λ (l : List Place). position (is_at c.args.name) l) c.as_slice.ensures.value) ∙ c.in-Some.is in
    let q = some_place ps at (within c.args.name ps at p) in
    let same : content_named c.args.name c.args.self.now.current ≡ content_in (slice_get ps at) = sym (ap (λ (h : History (List Named)). content_named c.args.name h.current) c.self.view_is) ∙ content_found c.args.name ps at q.0 p q.1 in
    c.in-Ok.ensures.free holder (subst (λ (o : Option Content). HoldsIn c.args.row holder o) same holds)

pub returns-in-Err-clause-taken : goal.returns-in-Err-clause-taken
returns-in-Err-clause-taken c holder e =
    let ps = c.self.inside.places.items in
    let at = c.in-Some.at in
    let p : position (is_at c.args.name) ps ≡ Some at = sym (c.place_of.ensures ∙ ap (λ (l : List Place). position (is_at c.args.name) l) c.as_slice.ensures.value) ∙ c.in-Some.is in
    let q = some_place ps at (within c.args.name ps at p) in
    let same : content_named c.args.name c.args.self.now.current ≡ content_in (slice_get ps at) = sym (ap (λ (h : History (List Named)). content_named c.args.name h.current) c.self.view_is) ∙ content_found c.args.name ps at q.0 p q.1 in
    let t = c.replace_at.ensures.taken holder (c.in-Err.is ∙ e) in
    (t.0, subst (λ (o : Option Content). HoldsIn c.args.row holder o) (sym same) t.1)

pub returns-in-None-clause-free : goal.returns-in-None-clause-free
returns-in-None-clause-free c holder holds =
    let ps = c.self.inside.places.items in
    let p : c.place_of.result ≡ position (is_at c.args.name) ps = c.place_of.ensures ∙ ap (λ (l : List Place). position (is_at c.args.name) l) c.as_slice.ensures.value in
    absurd (no_row (row_named c.args.name c.args.id (there ps)) (subst (λ (h : History (List Named)). IsSome (row_named c.args.name c.args.id h.current)) (sym c.self.view_is) c.requires.there) (row_absent c.args.name c.args.id ps (sym p ∙ c.in-None.is)))
