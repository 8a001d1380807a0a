use Rattle.std.proofs.Common.{◌∙◌, ap, refl, subst, sym, []}
use Rattle.pl_change.proofs.Alike.{from_itself, unasked}
use Rattle.pl_change.proofs.Turns.{same_reads}
use Rattle.pl_change.specs.Changes.{Progress, Setting, does, progress, setting}
use Rattle.pl_change.specs.Running.{does_from, reached}
use Rattle.pl_journal.proofs.OneTable.{only_same}
use Rattle.pl_journal.specs.Rows.{tables_of}
use Rattle.pl_inside.specs.pl_query.Query.{rows}
use Rattle.pl_value.specs.Answers.{Reads}
use Rattle.pl_value.specs.Frames.{Frame, rows_of}
use Rattle.pl_value.specs.Meaning.{Sub}
use Rattle.pl_value.specs.Reading.{got}
use Rattle.pl_change.proofs.commands.change.Goals as goal

pub returns-then-asks-clause-reads : goal.returns-then-asks-clause-reads
returns-then-asks-clause-reads g c =
    let calls = g.C.Caller.calls in
    let d = c.args.journal.now.now in
    let inner = rows calls c.args.change.now.queries (tables_of d.tables) in
    subst (λ (around : Frame). Reads {A = Progress} (let s : Setting _ = record { calls = calls; inner = inner; change = c.args.change.now; objects = d.objects; around = around } in does s (rows_of c.args.outer.now) c.args.change.now.what (progress d.tables []) c.args.caller.now)
    (reached c.answer_queries.result c.answer_queries.new.journal.now.tables) c.answer_queries.new.caller)
    (ap rows_of c.as_slice.ensures.value ∙ c.in_ok-around.ensures)
    (c.answer_queries.ensures.reads d.objects refl)

pub returns-clause-reads : goal.returns-clause-reads
returns-clause-reads g c =
    let calls = g.C.Caller.calls in
    let d = c.args.journal.now.now in
    let inner = rows calls c.args.change.now.queries (tables_of d.tables) in
    let none : Sub _ = λ query frame w. got [] w in
    let s = setting calls c.args.change.now (rows_of c.args.outer.now) d in
    let p = progress d.tables [] in
    same_reads {A = Progress} _ _ (reached c.answer.result c.answer.new.journal.now.tables) c.answer.new.caller
    (sym (unasked calls none inner c.args.change.now d.objects s.around (c.asks.ensures c.if-asks.false calls none inner) inner (rows_of c.args.outer.now) p c.args.caller.now
    ∙ from_itself s (rows_of c.args.outer.now) c.args.change.now.what p c.args.caller.now))
    (subst (λ (around : Frame). Reads {A = Progress} (let t : Setting _ = record { calls = calls; inner = none; change = c.args.change.now; objects = d.objects; around = around } in does_from inner t (rows_of c.args.outer.now) c.args.change.now.what p c.args.caller.now)
    (reached c.answer.result c.answer.new.journal.now.tables) c.answer.new.caller)
    (ap rows_of c.as_slice.ensures.value ∙ c.in_ok-around.ensures)
    (c.answer.ensures.reads d.objects refl))

pub returns-in_err-around-clause-only : goal.returns-in_err-around-clause-only
returns-in_err-around-clause-only g c = only_same c.args.change.now.table c.args.journal.now
