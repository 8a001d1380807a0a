use Rattle.std.proofs.Common.{◌≡◌, ◌-◌, ◌++◌, ◌∷◌, [], ◌∙◌, List, length, take, ap}
use Rattle.pl_history.specs.History.{History, last_or}
use Rattle.pl_catalog.specs.declared.object.Object.{Object}
use Rattle.pl_catalog.specs.declared.entries.Step.{Step}
use Rattle.pl_catalog.specs.declared.entries.Step.TheVariants.{Added, Dropped, Replaced}
use Rattle.pl_catalog.specs.Objects.{Catalogue}
use Rattle.pl_catalog.proofs.Found.{gone_back}
use Rattle.pl_catalog.proofs.catalog.Catalog.undo.Goals as goal

pub returns-in-Some-Added-clause-objects : goal.returns-in-Some-Added-clause-objects
returns-in-Some-Added-clause-objects c =
    let is : c.self.inside.steps.items ≡ c.pop.new.self.items ++ Added ∷ [] = c.in-Some-Added.ensures.items ∙ ap (λ (s : Step). c.pop.new.self.items ++ s ∷ []) c.in-Some-Added.field-0-is in
    let h = gone_back c.pop.new.self.items c.self.inside.steps.items Added c.self.inside.entries.items c.pop_entry.new.entries.items is c.pop_entry.ensures in
    ap (λ (k : History (List Object)). k.current) h ∙ ap (λ (k : Catalogue). last_or k.objects k.past) c.self.view_is

pub returns-in-Some-Added-clause-past : goal.returns-in-Some-Added-clause-past
returns-in-Some-Added-clause-past c =
    let is : c.self.inside.steps.items ≡ c.pop.new.self.items ++ Added ∷ [] = c.in-Some-Added.ensures.items ∙ ap (λ (s : Step). c.pop.new.self.items ++ s ∷ []) c.in-Some-Added.field-0-is in
    let h = gone_back c.pop.new.self.items c.self.inside.steps.items Added c.self.inside.entries.items c.pop_entry.new.entries.items is c.pop_entry.ensures in
    ap (λ (k : History (List Object)). k.past) h ∙ ap (λ (k : Catalogue). take (length k.past - 1) k.past) c.self.view_is

pub returns-in-Some-Dropped-clause-objects : goal.returns-in-Some-Dropped-clause-objects
returns-in-Some-Dropped-clause-objects c =
    let is : c.self.inside.steps.items ≡ c.pop.new.self.items ++ (Dropped c.in-Some-Dropped.at) ∷ [] = c.in-Some-Dropped.ensures.items ∙ ap (λ (s : Step). c.pop.new.self.items ++ s ∷ []) c.in-Some-Dropped.field-0-is in
    let h = gone_back c.pop.new.self.items c.self.inside.steps.items (Dropped c.in-Some-Dropped.at) c.self.inside.entries.items c.bring_back.new.entries.items is c.bring_back.ensures in
    ap (λ (k : History (List Object)). k.current) h ∙ ap (λ (k : Catalogue). last_or k.objects k.past) c.self.view_is

pub returns-in-Some-Dropped-clause-past : goal.returns-in-Some-Dropped-clause-past
returns-in-Some-Dropped-clause-past c =
    let is : c.self.inside.steps.items ≡ c.pop.new.self.items ++ (Dropped c.in-Some-Dropped.at) ∷ [] = c.in-Some-Dropped.ensures.items ∙ ap (λ (s : Step). c.pop.new.self.items ++ s ∷ []) c.in-Some-Dropped.field-0-is in
    let h = gone_back c.pop.new.self.items c.self.inside.steps.items (Dropped c.in-Some-Dropped.at) c.self.inside.entries.items c.bring_back.new.entries.items is c.bring_back.ensures in
    ap (λ (k : History (List Object)). k.past) h ∙ ap (λ (k : Catalogue). take (length k.past - 1) k.past) c.self.view_is

pub returns-in-Some-Replaced-clause-objects : goal.returns-in-Some-Replaced-clause-objects
returns-in-Some-Replaced-clause-objects c =
    let s : Step = Replaced c.in-Some-Replaced.at c.in-Some-Replaced.old in
    let is : c.self.inside.steps.items ≡ c.pop.new.self.items ++ s ∷ [] = c.in-Some-Replaced.ensures.items ∙ ap (λ (t : Step). c.pop.new.self.items ++ t ∷ []) c.in-Some-Replaced.field-0-is in
    let h = gone_back c.pop.new.self.items c.self.inside.steps.items s c.self.inside.entries.items c.give_back.new.entries.items is c.give_back.ensures in
    ap (λ (k : History (List Object)). k.current) h ∙ ap (λ (k : Catalogue). last_or k.objects k.past) c.self.view_is

pub returns-in-Some-Replaced-clause-past : goal.returns-in-Some-Replaced-clause-past
returns-in-Some-Replaced-clause-past c =
    let s : Step = Replaced c.in-Some-Replaced.at c.in-Some-Replaced.old in
    let is : c.self.inside.steps.items ≡ c.pop.new.self.items ++ s ∷ [] = c.in-Some-Replaced.ensures.items ∙ ap (λ (t : Step). c.pop.new.self.items ++ t ∷ []) c.in-Some-Replaced.field-0-is in
    let h = gone_back c.pop.new.self.items c.self.inside.steps.items s c.self.inside.entries.items c.give_back.new.entries.items is c.give_back.ensures in
    ap (λ (k : History (List Object)). k.past) h ∙ ap (λ (k : Catalogue). take (length k.past - 1) k.past) c.self.view_is
