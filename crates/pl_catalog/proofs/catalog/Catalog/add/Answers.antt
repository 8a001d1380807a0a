use Rattle.std.proofs.Common.{◌≡◌, ◌++◌, ◌∷◌, [], ◌∙◌, List, true, false, sym, ap}
use Rattle.std.specs.Prelude.{is_some}
use Rattle.std.specs.List.{position}
use Rattle.pl_history.specs.History.{History}
use Rattle.pl_catalog.specs.declared.object.Object.{Object}
use Rattle.pl_catalog.specs.declared.object.Which.{Which}
use Rattle.pl_catalog.specs.declared.entries.Entry.{Entry}
use Rattle.pl_catalog.specs.declared.entries.Step.{Step}
use Rattle.pl_catalog.specs.declared.entries.Step.TheVariants.{Added}
use Rattle.pl_catalog.specs.Entries.{is_at, there, undo_step}
use Rattle.pl_catalog.specs.Objects.{Catalogue, which_of}
use Rattle.pl_catalog.specs.Refusals.{add_refusal}
use Rattle.pl_catalog.proofs.Found.{taken, free, wants_memory, gone_on, back_added, there_append}
use Rattle.pl_catalog.proofs.catalog.Catalog.add.Goals as goal

pub returns-then-is_some-clause-answers : goal.returns-then-is_some-clause-answers
returns-then-is_some-clause-answers c =
    let es = c.self.inside.entries.items in
    let w : c.which.result ≡ which_of c.args.object = c.which.ensures ∙ ap which_of (c.get.ensures ∙ c.new-object.ensures) in
    let p : c.place_of.result ≡ position (is_at (which_of c.args.object)) es = c.place_of.ensures ∙ (ap (λ (v : Which). position (is_at v) c.as_slice.result.now) w ∙ ap (λ (l : List Entry). position (is_at (which_of c.args.object)) l) c.as_slice.ensures.value) in
    sym (ap (λ (k : Catalogue). add_refusal (which_of c.args.object) k.objects) c.self.view_is) ∙ taken (which_of c.args.object) es c.place_of.result (sym p) (sym c.is_some.ensures ∙ c.if-is_some.true)

pub returns-in_err-reserve-clause-answers : goal.returns-in_err-reserve-clause-answers
returns-in_err-reserve-clause-answers c =
    let es = c.self.inside.entries.items in
    let w : c.which.result ≡ which_of c.args.object = c.which.ensures ∙ ap which_of (c.get.ensures ∙ c.new-object.ensures) in
    let p : c.place_of.result ≡ position (is_at (which_of c.args.object)) es = c.place_of.ensures ∙ (ap (λ (v : Which). position (is_at v) c.as_slice.result.now) w ∙ ap (λ (l : List Entry). position (is_at (which_of c.args.object)) l) c.as_slice.ensures.value) in
    wants_memory (which_of c.args.object) c.from_residual.result (add_refusal (which_of c.args.object) c.args.self.now.objects) c.from_residual.ensures
    (sym (ap (λ (k : Catalogue). add_refusal (which_of c.args.object) k.objects) c.self.view_is) ∙ free (which_of c.args.object) es c.place_of.result (sym p) (sym c.is_some.ensures ∙ c.if-is_some.false))

pub returns-in_err-reserve-2-clause-answers : goal.returns-in_err-reserve-2-clause-answers
returns-in_err-reserve-2-clause-answers c =
    let es = c.self.inside.entries.items in
    let w : c.which.result ≡ which_of c.args.object = c.which.ensures ∙ ap which_of (c.get.ensures ∙ c.new-object.ensures) in
    let p : c.place_of.result ≡ position (is_at (which_of c.args.object)) es = c.place_of.ensures ∙ (ap (λ (v : Which). position (is_at v) c.as_slice.result.now) w ∙ ap (λ (l : List Entry). position (is_at (which_of c.args.object)) l) c.as_slice.ensures.value) in
    wants_memory (which_of c.args.object) c.from_residual-in_err-reserve-2.result (add_refusal (which_of c.args.object) c.args.self.now.objects) c.from_residual-in_err-reserve-2.ensures
    (sym (ap (λ (k : Catalogue). add_refusal (which_of c.args.object) k.objects) c.self.view_is) ∙ free (which_of c.args.object) es c.place_of.result (sym p) (sym c.is_some.ensures ∙ c.if-is_some.false))

pub returns-clause-answers : goal.returns-clause-answers
returns-clause-answers c =
    let es = c.self.inside.entries.items in
    let w : c.which.result ≡ which_of c.args.object = c.which.ensures ∙ ap which_of (c.get.ensures ∙ c.new-object.ensures) in
    let p : c.place_of.result ≡ position (is_at (which_of c.args.object)) es = c.place_of.ensures ∙ (ap (λ (v : Which). position (is_at v) c.as_slice.result.now) w ∙ ap (λ (l : List Entry). position (is_at (which_of c.args.object)) l) c.as_slice.ensures.value) in
    sym (ap (λ (k : Catalogue). add_refusal (which_of c.args.object) k.objects) c.self.view_is) ∙ free (which_of c.args.object) es c.place_of.result (sym p) (sym c.is_some.ensures ∙ c.if-is_some.false)

pub returns-clause-ok : goal.returns-clause-ok
returns-clause-ok c =
    let es = c.self.inside.entries.items in
    let e : Entry = record { object = c.into_inner.result; is_there = true } in
    let entries : c.push_reserved.new.self.items ≡ es ++ e ∷ [] = c.push_reserved.ensures.items ∙ ap (λ (l : List Entry). l ++ e ∷ []) c.reserve-2.ensures.items in
    ap there entries ∙ (there_append es c.into_inner.result ∙ (ap (λ (o : Object). there es ++ o ∷ []) (c.into_inner.ensures ∙ c.new-object.ensures) ∙ ap (λ (k : Catalogue). k.objects ++ c.args.object ∷ []) c.self.view_is))

pub returns-clause-past : goal.returns-clause-past
returns-clause-past c =
    let es = c.self.inside.entries.items in
    let ss = c.self.inside.steps.items in
    let e : Entry = record { object = c.into_inner.result; is_there = true } in
    let entries : c.push_reserved.new.self.items ≡ es ++ e ∷ [] = c.push_reserved.ensures.items ∙ ap (λ (l : List Entry). l ++ e ∷ []) c.reserve-2.ensures.items in
    let is : c.push_reserved-2.new.self.items ≡ ss ++ Added ∷ [] = c.push_reserved-2.ensures.items ∙ ap (λ (l : List Step). l ++ Added ∷ []) c.reserve.ensures.items in
    ap (λ (h : History (List Object)). h.past) (gone_on ss c.push_reserved-2.new.self.items Added es c.push_reserved.new.self.items is (ap (undo_step Added) entries ∙ back_added es e))
    ∙ ap (λ (k : Catalogue). k.past ++ k.objects ∷ []) c.self.view_is
