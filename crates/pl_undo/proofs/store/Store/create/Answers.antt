use Rattle.std.proofs.Common.{◌∙◌, ap, subst}
use Rattle.pl_catalog.specs.Objects.{which_of}
use Rattle.pl_catalog.specs.Refusals.{add_refusal, Answers}
use Rattle.pl_undo.specs.Database.{database, with_object, Database}
use Rattle.pl_undo.specs.DatabaseLaws.{whole_with}
use Rattle.pl_undo.specs.Store.{Stored}
use Rattle.pl_undo.proofs.Marks.{kept_last, kept_marks, kept_sound, on_err, on_ok, whole_by}
use Rattle.pl_undo.proofs.store.Store.create.Goals as goal

pub create_object-requires : goal.create_object-requires
create_object-requires c = c.self.invariant.now

pub invariant_of-self : goal.invariant_of-self
invariant_of-self c =
    let now : Database = database c.self.inside.catalog.objects c.self.inside.tables.current in
    kept_sound c.self.inside.catalog c.create_object.new.catalog c.self.inside.tables c.create_object.new.tables c.create_object.ensures.objects c.create_object.ensures.tables c.self.inside.starts.items c.self.invariant
    (whole_by c.create_object.result now (with_object c.args.object now) (database c.create_object.new.catalog.objects c.create_object.new.tables.current) c.create_object.ensures.ok c.create_object.ensures.err c.self.invariant.now (whole_with c.args.object now c.self.invariant.now))

pub returns-clause-answers : goal.returns-clause-answers
returns-clause-answers c = subst (λ (s : Stored). Answers c.create_object.result (add_refusal (which_of c.args.object) s.now.objects)) c.self.view_is c.create_object.ensures.answers

pub returns-clause-ok : goal.returns-clause-ok
returns-clause-ok c =
    on_ok c.create_object.result (λ is. is ∙ ap (λ (s : Stored). with_object c.args.object s.now) c.self.view_is) c.create_object.ensures.ok

pub returns-clause-err : goal.returns-clause-err
returns-clause-err c = on_err c.create_object.result (λ is. is ∙ ap (λ (s : Stored). s.now) c.self.view_is) c.create_object.ensures.err

pub returns-clause-last : goal.returns-clause-last
returns-clause-last c =
    kept_last c.self.inside.catalog c.create_object.new.catalog c.self.inside.tables c.create_object.new.tables c.create_object.ensures.objects c.create_object.ensures.tables ∙ ap (λ (s : Stored). s.last) c.self.view_is

pub returns-clause-marks : goal.returns-clause-marks
returns-clause-marks c =
    kept_marks c.self.inside.catalog c.create_object.new.catalog c.self.inside.tables c.create_object.new.tables c.create_object.ensures.objects c.create_object.ensures.tables c.self.inside.starts.items c.self.invariant
    ∙ ap (λ (s : Stored). s.marks) c.self.view_is
