use Rattle.std.proofs.Common.{◌≡◌, ◌∙◌, Option, Some, Result, Ok, Err, ap, sym}
use Rattle.std.specs.Prelude.{is_some}
use Rattle.pl_base.specs.declared.operation.Op.TheVariants.{Put}
use Rattle.pl_journal.proofs.Opening.{its_content, put_ok, put_taken, rest_done}
use Rattle.pl_tables.specs.Rows.{Content}
use Rattle.pl_tables.specs.declared.table.TableFail.{TableFail}
use Rattle.pl_tables.specs.declared.table.TableFail.TheVariants.{Full, Taken}
use Rattle.pl_undo.specs.Database.{Database}
use Rattle.pl_journal.proofs.applying.put_row.Goals as goal

unlike : (let r : Result (Unit {0}) TableFail = Ok tt in r ≡ Err Full) → ⊥
unlike e = cc

pub put_at-requires-clause-there : goal.put_at-requires-clause-there
put_at-requires-clause-there c =
    ap (λ (o : Option Content). is_some o) (its_content c.args.name c.args.id c.args.row c.args.store.now.now c.requires.rest.sound c.requires.numbered c.requires.keeps).1

pub returns-in-Ok-clause-done : goal.returns-in-Ok-clause-done
returns-in-Ok-clause-done c =
    put_ok c.args.name c.args.id c.args.row c.args.store.now.now c.requires.rest.sound c.requires.numbered c.requires.keeps
    (λ full. unlike (sym c.in-Ok.is ∙ c.put_at.ensures.full.1 full)) c.in-Ok.ensures.free
    ∙ ap (λ (d : Database). let o : Option Database = Some d in o) (sym c.in-Ok.ensures.ok)

pub returns-in-Ok-clause-rest : goal.returns-in-Ok-clause-rest
returns-in-Ok-clause-rest c =
    rest_done (Put c.args.name c.args.id c.args.row) c.args.store.now c.put_at.new.self c.requires.rest
    (put_ok c.args.name c.args.id c.args.row c.args.store.now.now c.requires.rest.sound c.requires.numbered c.requires.keeps
    (λ full. unlike (sym c.in-Ok.is ∙ c.put_at.ensures.full.1 full)) c.in-Ok.ensures.free
    ∙ ap (λ (d : Database). let o : Option Database = Some d in o) (sym c.in-Ok.ensures.ok))
    c.in-Ok.ensures.last c.in-Ok.ensures.marks

pub returns-in-Err-Taken-clause-done : goal.returns-in-Err-Taken-clause-done
returns-in-Err-Taken-clause-done c =
    let is : c.put_at.result ≡ Err (Taken c.in-Err-Taken.field-0-0) = c.in-Err-Taken.is ∙ ap (λ (f : TableFail). let r : Result (Unit {0}) TableFail = Err f in r) c.in-Err-Taken.field-0-is in
    let held = c.put_at.ensures.taken c.in-Err-Taken.field-0-0 is in
    (put_taken c.args.name c.args.id c.args.row c.args.store.now.now c.requires.rest.sound c.requires.numbered c.requires.keeps c.in-Err-Taken.field-0-0 held.0 held.1, c.in-Err-Taken.ensures.err)
