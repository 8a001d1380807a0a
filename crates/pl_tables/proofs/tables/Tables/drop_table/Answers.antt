use Rattle.std.proofs.Common.{◌≡◌, ◌++◌, ◌∷◌, [], ◌∙◌, Some, List, sym, ap, subst}
use Rattle.std.specs.Prelude.{IsSome}
use Rattle.std.specs.List.{position}
use Rattle.pl_history.specs.History.{History, changed, history, seen_as}
use Rattle.pl_tables.specs.declared.tables.Place.{Place}
use Rattle.pl_tables.specs.declared.tables.Step.{Step}
use Rattle.pl_tables.specs.declared.tables.Step.TheVariants.{Dropped}
use Rattle.pl_tables.specs.Named.{Named, content_named, without_table}
use Rattle.pl_tables.specs.Places.{there, is_at, undo_step}
use Rattle.pl_tables.proofs.Finding.{gone_on, there_gone, undone_gone, not_there, not_some}
use Rattle.pl_tables.proofs.tables.Tables.drop_table.Goals as goal

pub returns-in-Some-clause-ok : goal.returns-in-Some-clause-ok
returns-in-Some-clause-ok c =
    let ps = c.self.inside.places.items in
    let ss = c.self.inside.steps.items in
    let at = c.in-Some.at in
    let p : position (is_at c.args.name) ps ≡ Some at = sym (c.place_of.ensures ∙ ap (λ (l : List Place). position (is_at c.args.name) l) c.as_slice.ensures.value) ∙ c.in-Some.is in
    let is : c.push_reserved.new.self.items ≡ ss ++ (Dropped at) ∷ [] = c.push_reserved.ensures.items ∙ ap (λ (l : List Step). l ++ (Dropped at) ∷ []) c.reserve.ensures.items in
    gone_on ss c.push_reserved.new.self.items (Dropped at) ps c.take_out.new.places.items is (ap (undo_step (Dropped at)) c.take_out.ensures ∙ undone_gone c.args.name ps at p)
    ∙ (ap (λ (l : List Named). changed l (seen_as there (history undo_step ss ps))) (ap there c.take_out.ensures ∙ there_gone c.args.name ps at p)
    ∙ ap (λ (h : History (List Named)). changed (without_table c.args.name h.current) h) c.self.view_is)

pub returns-in_default-clause-ok : goal.returns-in_default-clause-ok
returns-in_default-clause-ok c =
    let ps = c.self.inside.places.items in
    let p : c.place_of.result ≡ position (is_at c.args.name) ps = c.place_of.ensures ∙ ap (λ (l : List Place). position (is_at c.args.name) l) c.as_slice.ensures.value in
    absurd (not_some (content_named c.args.name (there ps)) (subst (λ (h : History (List Named)). IsSome (content_named c.args.name h.current)) (sym c.self.view_is) c.requires.there) (not_there c.args.name ps (sym p ∙ c.in_default.is)))
