use Rattle.std.proofs.Common.{◌≡◌, ◌∙◌, sym, ap, slice_get, Some}
use Rattle.pl_journal.proofs.Noted.{and_asks, on_ok_then}
use Rattle.pl_resolved.specs.declared.expression.RExpr.TheVariants as e
use Rattle.pl_value.specs.Frames.{rows_of}
use Rattle.pl_journal.proofs.by_key.note_asked.Goals as goal

pub returns-in-And : goal.returns-in-And
returns-in-And c =
    on_ok_then c.note_all.result (λ noted d u there. and_asks (rows_of c.args.around.now) c.args.columns.now c.args.condition.now d u (slice_get c.args.asked.now.items d ≡ Some u) c.as_slice.result.now (c.in-And.is ∙ ap e.And (sym c.as_slice.ensures)) (noted d u there)) c.note_all.ensures
