use Rattle.std.proofs.Common.{ap, sym, subst, List, []}
use Rattle.pl_change.specs.Changes.{Progress, adds_found, progress}
use Rattle.pl_change.specs.Running.{reached, setting_of}
use Rattle.pl_journal.proofs.OneTable.{only_same}
use Rattle.pl_journal.specs.Rows.{tables_of}
use Rattle.pl_inside.specs.pl_query.Query.{rows}
use Rattle.pl_inside.specs.pl_query.Rows.{in_turn}
use Rattle.pl_resolved.specs.declared.query.RQuery.{RQuery}
use Rattle.pl_value.specs.Answers.{Reads}
use Rattle.pl_value.specs.Frames.{Row, rows_of}
use Rattle.pl_value.specs.Reading.{then_read}
use Rattle.pl_value.specs.Steps.{goes, stops}
use Rattle.pl_change.proofs.commands.insert_query.Goals as goal

pub returns-in-Ok-clause-reads : goal.returns-in-Ok-clause-reads
returns-in-Ok-clause-reads g c objects is =
    let s = setting_of g.C.Caller.calls (g.S.Subqueries.sub c.args.sub.now) objects c.args.command.now in
    goes {A = List Row} {B = Progress} _ (rows g.C.Caller.calls c.as_slice-queries.result.now (tables_of c.args.journal.now.now.tables) c.args.query (rows_of c.args.outer.now) c.args.caller.now)
    (λ found w. in_turn (adds_found s c.args.values.now) found (progress c.args.journal.now.now.tables []) w) c.in-Ok.found c.run.new.caller
    (reached c.insert_found.result c.insert_found.new.journal.now.tables) c.insert_found.new.caller
    (ap (λ (qs : List RQuery). then_read {A = List Row} {B = Progress} (rows g.C.Caller.calls qs (tables_of c.args.journal.now.now.tables) c.args.query (rows_of c.args.outer.now) c.args.caller.now) (λ found w. in_turn (adds_found s c.args.values.now) found (progress c.args.journal.now.now.tables []) w)) (sym c.as_slice-queries.ensures))
    c.in-Ok.ensures
    (subst (λ (found : List Row). Reads {A = Progress} (in_turn (adds_found s c.args.values.now) found (progress c.args.journal.now.now.tables []) c.run.new.caller) (reached c.insert_found.result c.insert_found.new.journal.now.tables) c.insert_found.new.caller)
    c.as_slice.ensures (c.insert_found.ensures.reads objects is))

pub returns-in-Err-clause-reads : goal.returns-in-Err-clause-reads
returns-in-Err-clause-reads g c objects is =
    let s = setting_of g.C.Caller.calls (g.S.Subqueries.sub c.args.sub.now) objects c.args.command.now in
    stops {A = List Row} {B = Progress} _ (rows g.C.Caller.calls c.as_slice-queries.result.now (tables_of c.args.journal.now.now.tables) c.args.query (rows_of c.args.outer.now) c.args.caller.now)
    (λ found w. in_turn (adds_found s c.args.values.now) found (progress c.args.journal.now.now.tables []) w) c.in-Err.why c.run.new.caller
    (ap (λ (qs : List RQuery). then_read {A = List Row} {B = Progress} (rows g.C.Caller.calls qs (tables_of c.args.journal.now.now.tables) c.args.query (rows_of c.args.outer.now) c.args.caller.now) (λ found w. in_turn (adds_found s c.args.values.now) found (progress c.args.journal.now.now.tables []) w)) (sym c.as_slice-queries.ensures))
    c.in-Err.ensures

pub returns-in-Err-clause-only : goal.returns-in-Err-clause-only
returns-in-Err-clause-only g c = only_same c.args.command.now.change.now.table c.args.journal.now
