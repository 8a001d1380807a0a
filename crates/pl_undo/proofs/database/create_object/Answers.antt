use Rattle.std.proofs.Common.{◌≡◌, ◌++◌, ◌∷◌, [], ◌∙◌, List, None, sym, ap, subst}
use Rattle.pl_catalog.specs.declared.object.Object.{Object}
use Rattle.pl_catalog.specs.declared.object.Which.{Which}
use Rattle.pl_catalog.specs.declared.object.Which.TheVariants as which
use Rattle.pl_catalog.specs.Objects.{object_called, which_of}
use Rattle.pl_catalog.specs.Refusals.{refusal_beside}
use Rattle.pl_history.specs.History.{History}
use Rattle.pl_tables.specs.Named.{Named}
use Rattle.pl_undo.specs.Contents.{with_content_of}
use Rattle.pl_undo.specs.Database.{database}
use Rattle.pl_undo.specs.DatabaseLaws.{absent_content, content_added}
use Rattle.pl_undo.specs.Store.{objects_of}
use Rattle.pl_undo.proofs.Marks.{keeps_changed, keeps_same, objects_changed, objects_return}
use Rattle.pl_undo.proofs.database.create_object.Goals as goal

pub add_content-requires : goal.add_content-requires
add_content-requires c name is =
    let os = c.args.catalog.now.objects in
    let free : refusal_beside (object_called (which.Table name) os) ≡ None =
    subst (λ (w : Which). refusal_beside (object_called w os) ≡ None) (sym c.which-which.ensures ∙ is) c.in-Ok.ensures.answers in
    absent_content name (database os c.args.tables.now.current) c.requires free

pub returns-in-Ok-add_content-clause-objects : goal.returns-in-Ok-add_content-clause-objects
returns-in-Ok-add_content-clause-objects c =
    keeps_changed (objects_of c.args.catalog.now) (objects_of c.add.new.self) c.add.new.self.objects (objects_changed c.args.catalog.now c.add.new.self c.in-Ok.ensures.past)

pub returns-in-Ok-add_content-clause-ok : goal.returns-in-Ok-add_content-clause-ok
returns-in-Ok-add_content-clause-ok c =
    let o = c.args.object in
    let os = c.args.catalog.now.objects in
    let ts = c.args.tables.now.current in
    let free : refusal_beside (object_called (which_of o) os) ≡ None = c.in-Ok.ensures.answers in
    ap (λ (l : List Object). database l c.add_content.new.tables.current) c.in-Ok.ensures.ok
    ∙ ap (database (os ++ o ∷ []))
    (c.in-Ok-add_content.ensures.ok
    ∙ (ap (λ (w : Which). with_content_of w c.add.new.self.objects ts) c.which-which.ensures
    ∙ (ap (λ (l : List Object). with_content_of (which_of o) l ts) c.in-Ok.ensures.ok ∙ content_added o os ts free)))

pub returns-in-Err-add_content-clause-objects : goal.returns-in-Err-add_content-clause-objects
returns-in-Err-add_content-clause-objects c =
    keeps_same (objects_of c.args.catalog.now) (objects_of c.undo.new.self) (objects_return c.args.catalog.now c.add.new.self c.undo.new.self c.in-Ok.ensures.past c.undo.ensures.objects c.undo.ensures.past)

pub returns-in-Err-add_content-clause-err : goal.returns-in-Err-add_content-clause-err
returns-in-Err-add_content-clause-err c =
    let back : objects_of c.undo.new.self ≡ objects_of c.args.catalog.now = objects_return c.args.catalog.now c.add.new.self c.undo.new.self c.in-Ok.ensures.past c.undo.ensures.objects c.undo.ensures.past in
    ap (λ (h : History (List Object)). database h.current c.add_content.new.tables.current) back
    ∙ ap (λ (t : History (List Named)). database c.args.catalog.now.objects t.current) c.in-Err-add_content.ensures.err
