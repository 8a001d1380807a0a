use Rattle.std.proofs.Common.{◌≡◌, ◌++◌, ◌∷◌, [], ◌∙◌, true, List, ap}
use Rattle.pl_history.specs.History.{History, changed, history, seen_as}
use Rattle.pl_tables.specs.declared.tables.Place.{Place}
use Rattle.pl_tables.specs.declared.tables.Step.{Step}
use Rattle.pl_tables.specs.declared.tables.Step.TheVariants.{Created}
use Rattle.pl_tables.specs.Rows.{Content, no_rows}
use Rattle.pl_tables.specs.Named.{Named, named}
use Rattle.pl_tables.specs.Places.{there, undo_step}
use Rattle.pl_tables.proofs.Finding.{gone_on, back_created, there_append}
use Rattle.pl_tables.proofs.tables.Tables.create.Goals as goal

pub returns-clause-ok : goal.returns-clause-ok
returns-clause-ok c =
    let ps = c.self.inside.places.items in
    let ss = c.self.inside.steps.items in
    let q : Place = record { name = c.args.name; table = c.in_ok-table.table; is_there = true } in
    let places : c.push_reserved.new.self.items ≡ ps ++ q ∷ [] = c.push_reserved.ensures.items ∙ ap (λ (l : List Place). l ++ q ∷ []) c.reserve-2.ensures.items in
    let is : c.push_reserved-2.new.self.items ≡ ss ++ Created ∷ [] = c.push_reserved-2.ensures.items ∙ ap (λ (l : List Step). l ++ Created ∷ []) c.reserve.ensures.items in
    gone_on ss c.push_reserved-2.new.self.items Created ps c.push_reserved.new.self.items is (ap (undo_step Created) places ∙ back_created ps q)
    ∙ (ap (λ (l : List Named). changed l (seen_as there (history undo_step ss ps))) (ap there places ∙ (there_append ps c.args.name c.in_ok-table.table ∙ ap (λ (k : Content). there ps ++ named c.args.name k ∷ []) c.in_ok-table.ensures.current))
    ∙ ap (λ (h : History (List Named)). changed (h.current ++ named c.args.name (no_rows c.args.keys.now) ∷ []) h) c.self.view_is)
