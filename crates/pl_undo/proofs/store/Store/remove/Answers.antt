use Rattle.std.proofs.Common.{◌∙◌, sym, ap, subst, IsSome}
use Rattle.pl_tables.specs.Named.{row_named}
use Rattle.pl_tables.specs.Rows.{removed}
use Rattle.pl_undo.specs.Store.{Stored}
use Rattle.pl_undo.proofs.Marks.{rows_err, rows_last, rows_marks, rows_ok, rows_sound}
use Rattle.pl_undo.proofs.store.Store.remove.Goals as goal

pub remove-requires : goal.remove-requires
remove-requires c = record { there = subst (λ (s : Stored). IsSome (row_named c.args.name c.args.id s.now.tables)) (sym c.self.view_is) c.requires.there }

pub invariant_of-self : goal.invariant_of-self
invariant_of-self c =
    rows_sound c.remove.result c.self.inside.catalog c.self.inside.tables c.remove.new.self c.args.name (removed c.args.id) c.remove.ensures.ok c.remove.ensures.err c.self.inside.starts.items c.self.invariant

pub returns-clause-ok : goal.returns-clause-ok
returns-clause-ok c =
    rows_ok c.remove.result c.self.inside.catalog c.self.inside.tables c.remove.new.self c.args.name (removed c.args.id) c.args.self.now.now (ap (λ (s : Stored). s.now) c.self.view_is) c.remove.ensures.ok

pub returns-clause-err : goal.returns-clause-err
returns-clause-err c =
    rows_err c.remove.result c.self.inside.catalog c.self.inside.tables c.remove.new.self c.args.name (removed c.args.id) c.args.self.now.now (ap (λ (s : Stored). s.now) c.self.view_is) c.remove.ensures.err

pub returns-clause-last : goal.returns-clause-last
returns-clause-last c = rows_last c.remove.result c.self.inside.catalog c.self.inside.tables c.remove.new.self c.args.name (removed c.args.id) c.remove.ensures.ok c.remove.ensures.err ∙ ap (λ (s : Stored). s.last) c.self.view_is

pub returns-clause-marks : goal.returns-clause-marks
returns-clause-marks c =
    rows_marks c.remove.result c.self.inside.catalog c.self.inside.tables c.remove.new.self c.args.name (removed c.args.id) c.remove.ensures.ok c.remove.ensures.err c.self.inside.starts.items c.self.invariant ∙ ap (λ (s : Stored). s.marks) c.self.view_is
