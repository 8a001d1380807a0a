use Rattle.std.proofs.Common.{◌≡◌, ◌++◌, ◌∷◌, [], ◌∙◌, Bool, true, false, Option, None, Some, List, refl, sym, ap, subst}
use Rattle.std.specs.Prelude.{slice_get}
use Rattle.std.specs.List.{position}
use Rattle.pl_history.specs.History.{History, changed, history, seen_as}
use Rattle.pl_tables.specs.declared.tables.Place.{Place}
use Rattle.pl_tables.specs.declared.tables.Step.{Step}
use Rattle.pl_tables.specs.declared.tables.Step.TheVariants.{Changed}
use Rattle.pl_tables.specs.Rows.{inserted, Content}
use Rattle.pl_tables.specs.Named.{content_named, is_full_named, next_named, on_table, HoldsIn, Named}
use Rattle.pl_tables.specs.Places.{content_in, there, is_at, is_full_in, undo_step}
use Rattle.pl_tables.proofs.Finding.{gone_on, there_changed, undone_change, some_place, within, content_found, full_absent, full_found, next_found, not_full}
use Rattle.pl_tables.proofs.tables.Tables.insert.Goals as goal

pub returns-in-Ok-insert_at-clause-ok : goal.returns-in-Ok-insert_at-clause-ok
returns-in-Ok-insert_at-clause-ok c =
    let ps = c.self.inside.places.items in
    let ss = c.self.inside.steps.items in
    let at = c.in-Some.at in
    let p : position (is_at c.args.name) ps ≡ Some at = sym (c.place_of.ensures ∙ ap (λ (l : List Place). position (is_at c.args.name) l) c.as_slice.ensures.value) ∙ c.in-Some.is in
    let is : c.push_reserved.new.self.items ≡ ss ++ (Changed at) ∷ [] = c.push_reserved.ensures.items ∙ ap (λ (l : List Step). l ++ (Changed at) ∷ []) c.reserve.ensures.items in
    gone_on ss c.push_reserved.new.self.items (Changed at) ps c.insert_at.new.places.items is (ap (undo_step (Changed at)) c.in-Ok-insert_at.ensures.ok ∙ undone_change c.args.name (inserted c.args.row) ps at)
    ∙ (ap (λ (l : List Named). changed l (seen_as there (history undo_step ss ps))) (ap there c.in-Ok-insert_at.ensures.ok ∙ there_changed c.args.name (inserted c.args.row) ps at p)
    ∙ ap (λ (h : History (List Named)). changed (on_table c.args.name (inserted c.args.row) h.current) h) c.self.view_is)

pub returns-in-Ok-insert_at-clause-id : goal.returns-in-Ok-insert_at-clause-id
returns-in-Ok-insert_at-clause-id c =
    let ps = c.self.inside.places.items in
    let at = c.in-Some.at in
    let p : position (is_at c.args.name) ps ≡ Some at = sym (c.place_of.ensures ∙ ap (λ (l : List Place). position (is_at c.args.name) l) c.as_slice.ensures.value) ∙ c.in-Some.is in
    let q = some_place ps at (within c.args.name ps at p) in
    sym (ap (λ (h : History (List Named)). next_named c.args.name h.current) c.self.view_is) ∙ (next_found c.args.name ps at q.0 p q.1 ∙ c.in-Ok-insert_at.ensures.id)

pub returns-in-Ok-insert_at-clause-full : goal.returns-in-Ok-insert_at-clause-full
returns-in-Ok-insert_at-clause-full c =
    let ps = c.self.inside.places.items in
    let at = c.in-Some.at in
    let p : position (is_at c.args.name) ps ≡ Some at = sym (c.place_of.ensures ∙ ap (λ (l : List Place). position (is_at c.args.name) l) c.as_slice.ensures.value) ∙ c.in-Some.is in
    let q = some_place ps at (within c.args.name ps at p) in
    let found : is_full_named c.args.name c.args.self.now.current ≡ is_full_in (slice_get ps at) = sym (ap (λ (h : History (List Named)). is_full_named c.args.name h.current) c.self.view_is) ∙ full_found c.args.name ps at q.0 p q.1 in
    (λ e. found ∙ c.insert_at.ensures.full.0 (c.in-Ok-insert_at.is ∙ e), λ t. sym c.in-Ok-insert_at.is ∙ c.insert_at.ensures.full.1 (sym found ∙ t))

pub returns-in-Err-insert_at-clause-full : goal.returns-in-Err-insert_at-clause-full
returns-in-Err-insert_at-clause-full c =
    let ps = c.self.inside.places.items in
    let at = c.in-Some.at in
    let p : position (is_at c.args.name) ps ≡ Some at = sym (c.place_of.ensures ∙ ap (λ (l : List Place). position (is_at c.args.name) l) c.as_slice.ensures.value) ∙ c.in-Some.is in
    let q = some_place ps at (within c.args.name ps at p) in
    let found : is_full_named c.args.name c.args.self.now.current ≡ is_full_in (slice_get ps at) = sym (ap (λ (h : History (List Named)). is_full_named c.args.name h.current) c.self.view_is) ∙ full_found c.args.name ps at q.0 p q.1 in
    (λ e. found ∙ c.insert_at.ensures.full.0 (c.in-Err-insert_at.is ∙ e), λ t. sym c.in-Err-insert_at.is ∙ c.insert_at.ensures.full.1 (sym found ∙ t))

pub returns-then-is_full_at-clause-full : goal.returns-then-is_full_at-clause-full
returns-then-is_full_at-clause-full c =
    let ps = c.self.inside.places.items in
    let at = c.in-Some.at in
    let p : position (is_at c.args.name) ps ≡ Some at = sym (c.place_of.ensures ∙ ap (λ (l : List Place). position (is_at c.args.name) l) c.as_slice.ensures.value) ∙ c.in-Some.is in
    let q = some_place ps at (within c.args.name ps at p) in
    let found : is_full_named c.args.name c.args.self.now.current ≡ is_full_in (slice_get ps at) = sym (ap (λ (h : History (List Named)). is_full_named c.args.name h.current) c.self.view_is) ∙ full_found c.args.name ps at q.0 p q.1 in
    let full : is_full_named c.args.name c.args.self.now.current ≡ Some c.is_full_at.result = found ∙ (sym (ap (λ (l : List Place). is_full_in (slice_get l at)) c.as_slice-in-Some.ensures.value) ∙ c.is_full_at.ensures) in
    (λ e. full ∙ ap (λ (b : Bool). let o : Option Bool = Some b in o) c.if-is_full_at.true, λ t. refl)

pub returns-in-Err-clause-full : goal.returns-in-Err-clause-full
returns-in-Err-clause-full c =
    let ps = c.self.inside.places.items in
    let at = c.in-Some.at in
    let p : position (is_at c.args.name) ps ≡ Some at = sym (c.place_of.ensures ∙ ap (λ (l : List Place). position (is_at c.args.name) l) c.as_slice.ensures.value) ∙ c.in-Some.is in
    let q = some_place ps at (within c.args.name ps at p) in
    let found : is_full_named c.args.name c.args.self.now.current ≡ is_full_in (slice_get ps at) = sym (ap (λ (h : History (List Named)). is_full_named c.args.name h.current) c.self.view_is) ∙ full_found c.args.name ps at q.0 p q.1 in
    let full : is_full_named c.args.name c.args.self.now.current ≡ Some c.is_full_at.result = found ∙ (sym (ap (λ (l : List Place). is_full_in (slice_get l at)) c.as_slice-in-Some.ensures.value) ∙ c.is_full_at.ensures) in
    (λ e. absurd (not_full e), λ t. absurd (let o : Some false ≡ Some true = sym (full ∙ ap (λ (b : Bool). let o : Option Bool = Some b in o) c.if-is_full_at.false) ∙ t in cc))

pub returns-in-None-clause-full : goal.returns-in-None-clause-full
returns-in-None-clause-full c =
    let ps = c.self.inside.places.items in
    let p : position (is_at c.args.name) ps ≡ None = sym (c.place_of.ensures ∙ ap (λ (l : List Place). position (is_at c.args.name) l) c.as_slice.ensures.value) ∙ c.in-None.is in
    let none : is_full_named c.args.name c.args.self.now.current ≡ None = sym (ap (λ (h : History (List Named)). is_full_named c.args.name h.current) c.self.view_is) ∙ full_absent c.args.name ps p in
    (λ e. absurd (not_full e), λ t. absurd (let o : (let n : Option Bool = None in n ≡ Some true) = sym none ∙ t in cc))

pub returns-in-Ok-insert_at-clause-free : goal.returns-in-Ok-insert_at-clause-free
returns-in-Ok-insert_at-clause-free c id holds =
    let ps = c.self.inside.places.items in
    let at = c.in-Some.at in
    let p : position (is_at c.args.name) ps ≡ Some at = sym (c.place_of.ensures ∙ ap (λ (l : List Place). position (is_at c.args.name) l) c.as_slice.ensures.value) ∙ c.in-Some.is in
    let q = some_place ps at (within c.args.name ps at p) in
    let same : content_named c.args.name c.args.self.now.current ≡ content_in (slice_get ps at) = sym (ap (λ (h : History (List Named)). content_named c.args.name h.current) c.self.view_is) ∙ content_found c.args.name ps at q.0 p q.1 in
    c.in-Ok-insert_at.ensures.free id (subst (λ (o : Option Content). HoldsIn c.args.row id o) same holds)

pub returns-in-Err-insert_at-clause-taken : goal.returns-in-Err-insert_at-clause-taken
returns-in-Err-insert_at-clause-taken c id e =
    let ps = c.self.inside.places.items in
    let at = c.in-Some.at in
    let p : position (is_at c.args.name) ps ≡ Some at = sym (c.place_of.ensures ∙ ap (λ (l : List Place). position (is_at c.args.name) l) c.as_slice.ensures.value) ∙ c.in-Some.is in
    let q = some_place ps at (within c.args.name ps at p) in
    let same : content_named c.args.name c.args.self.now.current ≡ content_in (slice_get ps at) = sym (ap (λ (h : History (List Named)). content_named c.args.name h.current) c.self.view_is) ∙ content_found c.args.name ps at q.0 p q.1 in
    subst (λ (o : Option Content). HoldsIn c.args.row id o) (sym same) (c.insert_at.ensures.taken id (c.in-Err-insert_at.is ∙ e))
