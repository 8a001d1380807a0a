use Rattle.std.proofs.Common.{◌∙◌, [], sym, ap, subst, map}
use Rattle.pl_undo.specs.Store.{at_first, database_at, IsSound, Stored}
use Rattle.pl_undo.proofs.Marks.{back_last, back_now, back_sound, from_first}
use Rattle.pl_undo.proofs.store.Store.reset.Goals as goal

pub invariant_of-self : goal.invariant_of-self
invariant_of-self c =
    subst (IsSound c.undo_objects.new.catalog c.undo_tables.new.tables) (sym c.clear.ensures.items)
    (back_sound c.self.inside.catalog c.undo_objects.new.catalog c.self.inside.tables c.undo_tables.new.tables at_first c.undo_objects.ensures.same c.undo_tables.ensures.same c.undo_objects.ensures.cut c.undo_tables.ensures.cut [] (from_first at_first) c.self.invariant.last c.self.invariant.last tt)

pub returns-clause-now : goal.returns-clause-now
returns-clause-now c =
    back_now c.self.inside.catalog c.undo_objects.new.catalog c.self.inside.tables c.undo_tables.new.tables at_first c.undo_objects.ensures.same c.undo_tables.ensures.same c.undo_objects.ensures.cut c.undo_tables.ensures.cut
    ∙ ap (λ (s : Stored). s.last) c.self.view_is

pub returns-clause-last : goal.returns-clause-last
returns-clause-last c =
    back_last c.self.inside.catalog c.undo_objects.new.catalog c.self.inside.tables c.undo_tables.new.tables at_first c.undo_objects.ensures.same c.undo_tables.ensures.same c.undo_objects.ensures.cut c.undo_tables.ensures.cut
    ∙ ap (λ (s : Stored). s.last) c.self.view_is

pub returns-clause-marks : goal.returns-clause-marks
returns-clause-marks c = ap (map (database_at c.undo_objects.new.catalog c.undo_tables.new.tables)) c.clear.ensures.items
