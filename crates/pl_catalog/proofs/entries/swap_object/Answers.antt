use Rattle.std.proofs.Common.{◌≡◌, ◌∙◌, refl, Some, ap, List, length}
use Rattle.std.specs.Prelude.{slice_get}
use Rattle.std.proofs.lemmas.Option.{slice_get_read}
use Rattle.pl_catalog.specs.declared.object.Object.{Object}
use Rattle.pl_catalog.specs.declared.entries.Entry.{Entry}
use Rattle.pl_catalog.specs.Entries.{holding, with_entry}
use Rattle.pl_catalog.proofs.Found.{entry_set, held_again}
use Rattle.pl_catalog.proofs.entries.swap_object.Goals as goal

pub returns-clause-entries : goal.returns-clause-entries
returns-clause-entries c =
    let es = c.args.entries.now.items in
    let e = c.index_mut.result.now in
    let has : slice_get es c.args.at ≡ Some e = slice_get_read es (length es) c.args.at e refl c.requires c.index_mut.ensures.value in
    entry_set es c.args.at e (holding c.replace.new.dest) has ∙ ap (λ (o : Object). with_entry es c.args.at (holding o)) c.replace.ensures.after

pub returns-clause-back : goal.returns-clause-back
returns-clause-back c =
    let es = c.args.entries.now.items in
    let e = c.index_mut.result.now in
    let has : slice_get es c.args.at ≡ Some e = slice_get_read es (length es) c.args.at e refl c.requires c.index_mut.ensures.value in
    let set = entry_set es c.args.at e (holding c.replace.new.dest) has in
    ap (λ (l : List Entry). with_entry l c.args.at (holding c.replace.result)) set
    ∙ (ap (λ (o : Object). with_entry (with_entry es c.args.at (holding c.replace.new.dest)) c.args.at (holding o)) c.replace.ensures.value
    ∙ held_again es c.args.at e c.replace.new.dest has)
