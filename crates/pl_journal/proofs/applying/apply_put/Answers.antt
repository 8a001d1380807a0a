use Rattle.std.proofs.Common.{◌∙◌, Err, refl, subst, sym}
use Rattle.pl_catalog.specs.Objects.{table_named, tables_in}
use Rattle.pl_journal.specs.Steps.{refusal_by, Refuses}
use Rattle.pl_journal.proofs.Opening.{put_refused}
use Rattle.pl_value.specs.declared.operand.Unsettled.{Unsettled}
use Rattle.pl_journal.proofs.applying.apply_put.Goals as goal

pub returns-in-Err-Fails-clause-done : goal.returns-in-Err-Fails-clause-done
returns-in-Err-Fails-clause-done c = (
  put_refused c.args.name c.args.id c.args.row c.args.store.now.now (sym c.is_row_id.ensures ∙ c.if-not-is_row_id.false) c.in-Err-Fails.field-0-0
      (subst (λ (why : Unsettled). Refuses {A = Unit {0}} (refusal_by (table_named c.args.name (tables_in c.args.store.now.now.objects)) c.args.row) (Err why)) c.in-Err-Fails.field-0-is c.in-Err-Fails.ensures),
  refl,
)
