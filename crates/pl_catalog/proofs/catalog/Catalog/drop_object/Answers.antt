use Rattle.std.proofs.Common.{◌≡◌, ◌++◌, ◌∷◌, [], ◌∙◌, List, sym, ap}
use Rattle.std.specs.List.{position}
use Rattle.pl_history.specs.History.{History}
use Rattle.pl_catalog.specs.declared.object.Object.{Object}
use Rattle.pl_catalog.specs.declared.entries.Entry.{Entry}
use Rattle.pl_catalog.specs.declared.entries.Step.{Step}
use Rattle.pl_catalog.specs.declared.entries.Step.TheVariants.{Dropped}
use Rattle.pl_catalog.specs.Dependents.{first_dependent}
use Rattle.pl_catalog.specs.Entries.{is_at, there, undo_step}
use Rattle.pl_catalog.specs.Objects.{Catalogue, without}
use Rattle.pl_catalog.specs.Refusals.{drop_refusal}
use Rattle.pl_catalog.proofs.Found.{none, dependent, droppable, removed, back_removed, wants_memory, gone_on}
use Rattle.pl_catalog.proofs.catalog.Catalog.drop_object.Goals as goal

pub returns-in-None-clause-answers : goal.returns-in-None-clause-answers
returns-in-None-clause-answers c =
    let es = c.self.inside.entries.items in
    let p : c.place_of.result ≡ position (is_at c.args.which) es = c.place_of.ensures ∙ ap (λ (l : List Entry). position (is_at c.args.which) l) c.as_slice.ensures.value in
    sym (ap (λ (k : Catalogue). drop_refusal c.args.which k.objects) c.self.view_is) ∙ none c.args.which es (first_dependent c.args.which (there es)) (sym p ∙ c.in-None.is)

pub returns-in-Some-first_dependent-clause-answers : goal.returns-in-Some-first_dependent-clause-answers
returns-in-Some-first_dependent-clause-answers c =
    let es = c.self.inside.entries.items in
    let p : c.place_of.result ≡ position (is_at c.args.which) es = c.place_of.ensures ∙ ap (λ (l : List Entry). position (is_at c.args.which) l) c.as_slice.ensures.value in
    let d : c.first_dependent.result ≡ first_dependent c.args.which (there es) = c.first_dependent.ensures ∙ ap (λ (l : List Entry). first_dependent c.args.which (there l)) c.as_slice-in-Some.ensures.value in
    sym (ap (λ (k : Catalogue). drop_refusal c.args.which k.objects) c.self.view_is) ∙ dependent c.args.which es c.in-Some.at c.in-Some-first_dependent.name (first_dependent c.args.which (there es)) (sym p ∙ c.in-Some.is) (sym d ∙ c.in-Some-first_dependent.is)

pub returns-in_ok-reserve-in-None-first_dependent-clause-answers : goal.returns-in_ok-reserve-in-None-first_dependent-clause-answers
returns-in_ok-reserve-in-None-first_dependent-clause-answers c =
    let es = c.self.inside.entries.items in
    let p : c.place_of.result ≡ position (is_at c.args.which) es = c.place_of.ensures ∙ ap (λ (l : List Entry). position (is_at c.args.which) l) c.as_slice.ensures.value in
    let d : c.first_dependent.result ≡ first_dependent c.args.which (there es) = c.first_dependent.ensures ∙ ap (λ (l : List Entry). first_dependent c.args.which (there l)) c.as_slice-in-Some.ensures.value in
    sym (ap (λ (k : Catalogue). drop_refusal c.args.which k.objects) c.self.view_is) ∙ droppable c.args.which es c.in-Some.at (first_dependent c.args.which (there es)) (sym p ∙ c.in-Some.is) (sym d ∙ c.in-None-first_dependent.is)

pub returns-in_err-reserve-in-None-first_dependent-clause-answers : goal.returns-in_err-reserve-in-None-first_dependent-clause-answers
returns-in_err-reserve-in-None-first_dependent-clause-answers c =
    let es = c.self.inside.entries.items in
    let p : c.place_of.result ≡ position (is_at c.args.which) es = c.place_of.ensures ∙ ap (λ (l : List Entry). position (is_at c.args.which) l) c.as_slice.ensures.value in
    let d : c.first_dependent.result ≡ first_dependent c.args.which (there es) = c.first_dependent.ensures ∙ ap (λ (l : List Entry). first_dependent c.args.which (there l)) c.as_slice-in-Some.ensures.value in
    wants_memory (c.args.which) c.from_residual.result (drop_refusal c.args.which c.args.self.now.objects) c.from_residual.ensures
    (sym (ap (λ (k : Catalogue). drop_refusal c.args.which k.objects) c.self.view_is) ∙ droppable c.args.which es c.in-Some.at (first_dependent c.args.which (there es)) (sym p ∙ c.in-Some.is) (sym d ∙ c.in-None-first_dependent.is))

pub returns-in_ok-reserve-in-None-first_dependent-clause-ok : goal.returns-in_ok-reserve-in-None-first_dependent-clause-ok
returns-in_ok-reserve-in-None-first_dependent-clause-ok c =
    let es = c.self.inside.entries.items in
    let p : c.place_of.result ≡ position (is_at c.args.which) es = c.place_of.ensures ∙ ap (λ (l : List Entry). position (is_at c.args.which) l) c.as_slice.ensures.value in
    ap there c.take_out.ensures ∙ (removed c.args.which es c.in-Some.at (sym p ∙ c.in-Some.is) ∙ ap (λ (k : Catalogue). without c.args.which k.objects) c.self.view_is)

pub returns-in_ok-reserve-in-None-first_dependent-clause-past : goal.returns-in_ok-reserve-in-None-first_dependent-clause-past
returns-in_ok-reserve-in-None-first_dependent-clause-past c =
    let es = c.self.inside.entries.items in
    let p : c.place_of.result ≡ position (is_at c.args.which) es = c.place_of.ensures ∙ ap (λ (l : List Entry). position (is_at c.args.which) l) c.as_slice.ensures.value in
    let ss = c.self.inside.steps.items in
    let at = c.in-Some.at in
    let is : c.push_reserved.new.self.items ≡ ss ++ (Dropped at) ∷ [] = c.push_reserved.ensures.items ∙ ap (λ (l : List Step). l ++ (Dropped at) ∷ []) c.reserve.ensures.items in
    ap (λ (h : History (List Object)). h.past) (gone_on ss c.push_reserved.new.self.items (Dropped at) es c.take_out.new.entries.items is (ap (undo_step (Dropped at)) c.take_out.ensures ∙ back_removed c.args.which es at (sym p ∙ c.in-Some.is)))
    ∙ ap (λ (k : Catalogue). k.past ++ k.objects ∷ []) c.self.view_is
