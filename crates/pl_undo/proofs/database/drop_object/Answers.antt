use Rattle.std.proofs.Common.{◌≡◌, ◌∙◌, List, None, sym, ap, subst}
use Rattle.pl_catalog.specs.declared.object.Object.{Object}
use Rattle.pl_catalog.specs.declared.object.Which.{Which}
use Rattle.pl_catalog.specs.declared.object.Which.TheVariants as which
use Rattle.pl_catalog.specs.Dependents.{first_dependent}
use Rattle.pl_catalog.specs.Objects.{without}
use Rattle.pl_catalog.specs.Refusals.{drop_refusal}
use Rattle.pl_history.specs.History.{History}
use Rattle.pl_tables.specs.Named.{Named}
use Rattle.pl_undo.specs.Database.{database, without_content}
use Rattle.pl_undo.specs.DatabaseLaws.{there_content}
use Rattle.pl_undo.specs.Store.{objects_of}
use Rattle.pl_undo.proofs.Marks.{keeps_changed, keeps_same, objects_changed, objects_return}
use Rattle.pl_undo.proofs.database.drop_object.Goals as goal

pub drop_content-requires : goal.drop_content-requires
drop_content-requires c name is =
    let os = c.args.catalog.now.objects in
    let free : drop_refusal (which.Table name) os ≡ None =
    subst (λ (w : Which). drop_refusal w os ≡ None) (sym c.copied-same.ensures ∙ is) c.in-Ok.ensures.answers in
    there_content name (database os c.args.tables.now.current) (first_dependent (which.Table name) os) c.requires free

pub returns-in-Ok-drop_content-clause-objects : goal.returns-in-Ok-drop_content-clause-objects
returns-in-Ok-drop_content-clause-objects c =
    keeps_changed (objects_of c.args.catalog.now) (objects_of c.drop_object.new.self) c.drop_object.new.self.objects (objects_changed c.args.catalog.now c.drop_object.new.self c.in-Ok.ensures.past)

pub returns-in-Ok-drop_content-clause-ok : goal.returns-in-Ok-drop_content-clause-ok
returns-in-Ok-drop_content-clause-ok c =
    ap (λ (l : List Object). database l c.drop_content.new.tables.current) c.in-Ok.ensures.ok
    ∙ ap (database (without c.args.which c.args.catalog.now.objects))
    (c.in-Ok-drop_content.ensures.ok ∙ ap (λ (w : Which). without_content w c.args.tables.now.current) c.copied-same.ensures)

pub returns-in-Err-drop_content-clause-objects : goal.returns-in-Err-drop_content-clause-objects
returns-in-Err-drop_content-clause-objects c =
    keeps_same (objects_of c.args.catalog.now) (objects_of c.undo.new.self) (objects_return c.args.catalog.now c.drop_object.new.self c.undo.new.self c.in-Ok.ensures.past c.undo.ensures.objects c.undo.ensures.past)

pub returns-in-Err-drop_content-clause-err : goal.returns-in-Err-drop_content-clause-err
returns-in-Err-drop_content-clause-err c =
    let back : objects_of c.undo.new.self ≡ objects_of c.args.catalog.now = objects_return c.args.catalog.now c.drop_object.new.self c.undo.new.self c.in-Ok.ensures.past c.undo.ensures.objects c.undo.ensures.past in
    ap (λ (h : History (List Object)). database h.current c.drop_content.new.tables.current) back
    ∙ ap (λ (t : History (List Named)). database c.args.catalog.now.objects t.current) c.in-Err-drop_content.ensures.err
