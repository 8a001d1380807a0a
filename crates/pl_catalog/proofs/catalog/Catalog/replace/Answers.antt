use Rattle.std.proofs.Common.{◌≡◌, ◌++◌, ◌∷◌, [], ◌∙◌, List, sym, ap}
use Rattle.std.specs.List.{position}
use Rattle.pl_history.specs.History.{History}
use Rattle.pl_catalog.specs.declared.object.Object.{Object}
use Rattle.pl_catalog.specs.declared.object.Which.{Which}
use Rattle.pl_catalog.specs.declared.entries.Entry.{Entry}
use Rattle.pl_catalog.specs.declared.entries.Step.{Step}
use Rattle.pl_catalog.specs.declared.entries.Step.TheVariants.{Replaced}
use Rattle.pl_catalog.specs.Entries.{holding, is_at, there, with_entry}
use Rattle.pl_catalog.specs.Objects.{Catalogue, exchanged, which_of}
use Rattle.pl_catalog.specs.Refusals.{replace_refusal}
use Rattle.pl_catalog.proofs.Found.{missing, replaceable, replaced, wants_memory, gone_on}
use Rattle.pl_catalog.proofs.catalog.Catalog.replace.Goals as goal

pub returns-in-None-clause-answers : goal.returns-in-None-clause-answers
returns-in-None-clause-answers c =
    let es = c.self.inside.entries.items in
    let v = which_of c.args.object in
    let w : c.which.result ≡ v = c.which.ensures ∙ ap which_of (c.get.ensures ∙ c.new-object.ensures) in
    let p : c.place_of.result ≡ position (is_at v) es = c.place_of.ensures ∙ (ap (λ (u : Which). position (is_at u) c.as_slice.result.now) w ∙ ap (λ (l : List Entry). position (is_at v) l) c.as_slice.ensures.value) in
    sym (ap (λ (k : Catalogue). replace_refusal v k.objects) c.self.view_is) ∙ missing v es (sym p ∙ c.in-None.is)

pub returns-in_err-reserve-in-Some-clause-answers : goal.returns-in_err-reserve-in-Some-clause-answers
returns-in_err-reserve-in-Some-clause-answers c =
    let es = c.self.inside.entries.items in
    let v = which_of c.args.object in
    let w : c.which.result ≡ v = c.which.ensures ∙ ap which_of (c.get.ensures ∙ c.new-object.ensures) in
    let p : c.place_of.result ≡ position (is_at v) es = c.place_of.ensures ∙ (ap (λ (u : Which). position (is_at u) c.as_slice.result.now) w ∙ ap (λ (l : List Entry). position (is_at v) l) c.as_slice.ensures.value) in
    wants_memory v c.from_residual.result (replace_refusal v c.args.self.now.objects) c.from_residual.ensures
    (sym (ap (λ (k : Catalogue). replace_refusal v k.objects) c.self.view_is) ∙ replaceable v es c.in-Some.at (sym p ∙ c.in-Some.is))

pub returns-in_ok-reserve-in-Some-clause-answers : goal.returns-in_ok-reserve-in-Some-clause-answers
returns-in_ok-reserve-in-Some-clause-answers c =
    let es = c.self.inside.entries.items in
    let v = which_of c.args.object in
    let w : c.which.result ≡ v = c.which.ensures ∙ ap which_of (c.get.ensures ∙ c.new-object.ensures) in
    let p : c.place_of.result ≡ position (is_at v) es = c.place_of.ensures ∙ (ap (λ (u : Which). position (is_at u) c.as_slice.result.now) w ∙ ap (λ (l : List Entry). position (is_at v) l) c.as_slice.ensures.value) in
    sym (ap (λ (k : Catalogue). replace_refusal v k.objects) c.self.view_is) ∙ replaceable v es c.in-Some.at (sym p ∙ c.in-Some.is)

pub returns-in_ok-reserve-in-Some-clause-ok : goal.returns-in_ok-reserve-in-Some-clause-ok
returns-in_ok-reserve-in-Some-clause-ok c =
    let es = c.self.inside.entries.items in
    let at = c.in-Some.at in
    let o = c.args.object in
    let v = which_of o in
    let w : c.which.result ≡ v = c.which.ensures ∙ ap which_of (c.get.ensures ∙ c.new-object.ensures) in
    let p : c.place_of.result ≡ position (is_at v) es = c.place_of.ensures ∙ (ap (λ (u : Which). position (is_at u) c.as_slice.result.now) w ∙ ap (λ (l : List Entry). position (is_at v) l) c.as_slice.ensures.value) in
    ap there c.swap_object-old.ensures.entries
    ∙ (ap (λ (n : Object). there (with_entry es at (holding n))) (c.into_inner.ensures ∙ c.new-object.ensures)
    ∙ (replaced v o es at (sym p ∙ c.in-Some.is) ∙ ap (λ (k : Catalogue). exchanged v o k.objects) c.self.view_is))

pub returns-in_ok-reserve-in-Some-clause-past : goal.returns-in_ok-reserve-in-Some-clause-past
returns-in_ok-reserve-in-Some-clause-past c =
    let es = c.self.inside.entries.items in
    let ss = c.self.inside.steps.items in
    let s : Step = Replaced c.in-Some.at c.swap_object-old.result in
    let is : c.push_reserved.new.self.items ≡ ss ++ s ∷ [] = c.push_reserved.ensures.items ∙ ap (λ (l : List Step). l ++ s ∷ []) c.reserve.ensures.items in
    ap (λ (h : History (List Object)). h.past) (gone_on ss c.push_reserved.new.self.items s es c.swap_object-old.new.entries.items is c.swap_object-old.ensures.back)
    ∙ ap (λ (k : Catalogue). k.past ++ k.objects ∷ []) c.self.view_is
