use Rattle.std.proofs.Common.{◌∙◌, List, ap, refl, subst}
use Rattle.pl_catalog.specs.declared.object.Object.{Object}
use Rattle.pl_catalog.specs.Objects.{Catalogue, which_of}
use Rattle.pl_catalog.specs.Refusals.{replace_refusal, Answers}
use Rattle.pl_undo.specs.Database.{database, with_exchanged, Database}
use Rattle.pl_undo.specs.DatabaseLaws.{whole_exchanged}
use Rattle.pl_undo.specs.Store.{objects_of, Keeps, Stored}
use Rattle.pl_undo.proofs.Marks.{keeps_same, kept_last, kept_marks, kept_sound, objects_by, on_err, on_ok, whole_by}
use Rattle.pl_undo.proofs.store.Store.replace_object.Goals as goal

pub invariant_of-self : goal.invariant_of-self
invariant_of-self c =
    let old = c.self.inside.catalog in
    let new = c.replace.new.self in
    let t = c.self.inside.tables in
    let now : Database = database old.objects t.current in
    let kept : Keeps (objects_of old) (objects_of new) = objects_by c.replace.result old new c.replace.ensures.past c.replace.ensures.err in
    let ok = on_ok c.replace.result (ap (λ (os : List Object). database os t.current)) c.replace.ensures.ok in
    let err = on_err c.replace.result (ap (λ (k : Catalogue). database k.objects t.current)) c.replace.ensures.err in
    kept_sound old new t t kept (keeps_same t t refl) c.self.inside.starts.items c.self.invariant
    (whole_by c.replace.result now (with_exchanged c.args.object now) (database new.objects t.current) ok err c.self.invariant.now (whole_exchanged c.args.object now c.self.invariant.now))

pub returns-clause-answers : goal.returns-clause-answers
returns-clause-answers c = subst (λ (s : Stored). Answers c.replace.result (replace_refusal (which_of c.args.object) s.now.objects)) c.self.view_is c.replace.ensures.answers

pub returns-clause-ok : goal.returns-clause-ok
returns-clause-ok c =
    let t = c.self.inside.tables in
    on_ok c.replace.result (λ is. ap (λ (os : List Object). database os t.current) is ∙ ap (λ (s : Stored). with_exchanged c.args.object s.now) c.self.view_is) c.replace.ensures.ok

pub returns-clause-err : goal.returns-clause-err
returns-clause-err c =
    on_err c.replace.result (λ is. ap (λ (k : Catalogue). database k.objects c.self.inside.tables.current) is ∙ ap (λ (s : Stored). s.now) c.self.view_is) c.replace.ensures.err

pub returns-clause-last : goal.returns-clause-last
returns-clause-last c =
    let old = c.self.inside.catalog in
    let new = c.replace.new.self in
    let t = c.self.inside.tables in
    let kept : Keeps (objects_of old) (objects_of new) = objects_by c.replace.result old new c.replace.ensures.past c.replace.ensures.err in
    kept_last old new t t kept (keeps_same t t refl) ∙ ap (λ (s : Stored). s.last) c.self.view_is

pub returns-clause-marks : goal.returns-clause-marks
returns-clause-marks c =
    let old = c.self.inside.catalog in
    let new = c.replace.new.self in
    let t = c.self.inside.tables in
    let kept : Keeps (objects_of old) (objects_of new) = objects_by c.replace.result old new c.replace.ensures.past c.replace.ensures.err in
    kept_marks old new t t kept (keeps_same t t refl) c.self.inside.starts.items c.self.invariant ∙ ap (λ (s : Stored). s.marks) c.self.view_is
