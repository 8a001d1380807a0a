use Rattle.std.proofs.Common.{◌∙◌, ap, sym, subst, ℕ, List, []}
use Rattle.pl_change.proofs.Alike.{from_itself}
use Rattle.pl_change.specs.Changes.{Progress, progress}
use Rattle.pl_change.specs.Running.{copied, does_from, reached, rows_over, setting_of}
use Rattle.pl_journal.proofs.OneTable.{only_same}
use Rattle.pl_journal.specs.Rows.{tables_of}
use Rattle.pl_inside.specs.pl_query.Query.{rows}
use Rattle.pl_change.specs.declared.at_start.Copies.{Copies}
use Rattle.pl_inside.specs.Agreement.{AgreeOn}
use Rattle.pl_resolved.specs.declared.query.RQuery.{RQuery}
use Rattle.pl_value.specs.Answers.{Reads}
use Rattle.pl_value.specs.Frames.{rows_of}
use Rattle.pl_value.specs.Meaning.{Sub}
use Rattle.pl_change.proofs.Turns.{same_reads}
use Rattle.pl_change.proofs.commands.answer_queries.Goals as goal

pub returns-clause-reads : goal.returns-clause-reads
returns-clause-reads g c objects is =
    let calls = g.C.Caller.calls in
    let queries = c.as_slice-queries.result.now in
    let ts = c.args.journal.now.now.tables in
    let source = rows_over calls c.args.command.now c.args.journal.now.now in
    let p = progress ts [] in
    same_reads {A = Progress} _ _ (reached c.answer.result c.answer.new.journal.now.tables) c.answer.new.caller
    (sym (from_itself (setting_of calls source objects c.args.command.now) (rows_of c.args.outer.now) c.args.command.now.change.now.what p c.args.caller.now))
    (subst (λ (i : Sub _). Reads {A = Progress} (does_from source (setting_of calls i objects c.args.command.now) (rows_of c.args.outer.now) c.args.command.now.change.now.what p c.args.caller.now) (reached c.answer.result c.answer.new.journal.now.tables) c.answer.new.caller)
    (ap (λ (copies : Copies). rows calls queries (copied copies.list.items)) c.in_ok-store.ensures
    ∙ (c.in_ok-names.ensures calls (copied c.in_ok-copies.copies.list.items) (tables_of ts) (subst (λ (ns : List (List ℕ)). AgreeOn ns (copied c.in_ok-copies.copies.list.items) (tables_of ts)) c.as_slice.ensures.value c.in_ok-copies.ensures)
    ∙ ap (λ (qs : List RQuery). rows calls qs (tables_of ts)) c.as_slice-queries.ensures))
    (c.answer.ensures.reads objects is))

pub returns-in_err-names-clause-only : goal.returns-in_err-names-clause-only
returns-in_err-names-clause-only g c = only_same c.args.command.now.change.now.table c.args.journal.now

pub returns-in_err-copies-clause-only : goal.returns-in_err-copies-clause-only
returns-in_err-copies-clause-only g c = only_same c.args.command.now.change.now.table c.args.journal.now

pub returns-in_err-store-clause-only : goal.returns-in_err-store-clause-only
returns-in_err-store-clause-only g c = only_same c.args.command.now.change.now.table c.args.journal.now
