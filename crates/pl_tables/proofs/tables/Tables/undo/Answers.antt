use Rattle.std.proofs.Common.{◌≡◌, ◌++◌, ◌∷◌, [], ◌∙◌, List, ap}
use Rattle.pl_history.specs.History.{History, back}
use Rattle.pl_tables.specs.declared.tables.Step.{Step}
use Rattle.pl_tables.specs.declared.tables.Step.TheVariants.{Created, Dropped, Changed}
use Rattle.pl_tables.specs.Named.{Named}
use Rattle.pl_tables.proofs.Finding.{gone_back}
use Rattle.pl_tables.proofs.tables.Tables.undo.Goals as goal

pub returns-in-Some-Created : goal.returns-in-Some-Created
returns-in-Some-Created c =
    let is : c.self.inside.steps.items ≡ c.pop.new.self.items ++ Created ∷ [] = c.in-Some-Created.ensures.items ∙ ap (λ (s : Step). c.pop.new.self.items ++ s ∷ []) c.in-Some-Created.field-0-is in
    record { back = gone_back c.pop.new.self.items c.self.inside.steps.items Created c.self.inside.places.items c.pop_place.new.places.items is c.pop_place.ensures ∙ ap (λ (h : History (List Named)). back h) c.self.view_is }

pub returns-in-Some-Dropped : goal.returns-in-Some-Dropped
returns-in-Some-Dropped c =
    let is : c.self.inside.steps.items ≡ c.pop.new.self.items ++ (Dropped c.in-Some-Dropped.at) ∷ [] = c.in-Some-Dropped.ensures.items ∙ ap (λ (s : Step). c.pop.new.self.items ++ s ∷ []) c.in-Some-Dropped.field-0-is in
    record { back = gone_back c.pop.new.self.items c.self.inside.steps.items (Dropped c.in-Some-Dropped.at) c.self.inside.places.items c.bring_back.new.places.items is c.bring_back.ensures ∙ ap (λ (h : History (List Named)). back h) c.self.view_is }

pub returns-in-Some-Changed : goal.returns-in-Some-Changed
returns-in-Some-Changed c =
    let is : c.self.inside.steps.items ≡ c.pop.new.self.items ++ (Changed c.in-Some-Changed.at) ∷ [] = c.in-Some-Changed.ensures.items ∙ ap (λ (s : Step). c.pop.new.self.items ++ s ∷ []) c.in-Some-Changed.field-0-is in
    record { back = gone_back c.pop.new.self.items c.self.inside.steps.items (Changed c.in-Some-Changed.at) c.self.inside.places.items c.undo_at.new.places.items is c.undo_at.ensures ∙ ap (λ (h : History (List Named)). back h) c.self.view_is }
