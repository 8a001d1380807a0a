use Rattle.std.proofs.Common.{◌≡◌, ◌∷◌, ◌∙◌, List, [], ap, refl, subst, sym}
use Rattle.pl_altering.proofs.Entered.{changed_over}
use Rattle.pl_altering.proofs.changing.change_rows.Goals as goal
use Rattle.pl_altering.specs.Ends.{done_from}
use Rattle.pl_altering.specs.Entries.{AreEnough, entries}
use Rattle.pl_altering.specs.Settings.{ReadsOver, setting_over}
use Rattle.pl_altering.specs.declared.command.Command.{Command}
use Rattle.pl_querying.specs.pl_calling.Standing.{Standing}
use Rattle.pl_world.specs.pl_change.Running.{copied}
use Rattle.pl_world.specs.pl_change.declared.at_start.Copies.{Copies}
use Rattle.pl_querying.proofs.of_pl_engine.Joins.{before, lawful, refused}
use Rattle.pl_querying.specs.pl_engine.Engines.{world}
use Rattle.pl_querying.specs.pl_engine.Texts.{do_bodies}
use Rattle.pl_query.specs.Query.{rows}
use Rattle.pl_query.specs.declared.within.Queries.{Queries}
use Rattle.pl_resolved.specs.declared.query.RQuery.{RQuery}
use Rattle.pl_value.specs.Frames.{Row}
use Rattle.pl_world.specs.Calls.{Within, calls}
use Rattle.pl_world.specs.Changes.{does}
use Rattle.pl_world.specs.Expressions.{inner}
use Rattle.pl_world.specs.Statements.{runner_for}
use Rattle.pl_world.specs.Variables.{row_of}
use Rattle.pl_world.specs.World.{World}

pub returns-in_err-variables-clause-is : goal.returns-in_err-variables-clause-is
returns-in_err-variables-clause-is g c = refused _ _ _ c.from_residual.ensures (before (lawful g.P.Port g.met.P.Port.none g.met.P.Port.joins g.met.P.Port.rises) refl)

pub returns-in_err-copies-clause-is : goal.returns-in_err-copies-clause-is
returns-in_err-copies-clause-is g c = refused _ _ _ c.from_residual-in_err-copies.ensures (before (lawful g.P.Port g.met.P.Port.none g.met.P.Port.joins g.met.P.Port.rises) refl)

pub returns-in_err-rows-clause-is : goal.returns-in_err-rows-clause-is
returns-in_err-rows-clause-is g c = refused _ _ _ c.from_residual-in_err-rows.ensures (before (lawful g.P.Port g.met.P.Port.none g.met.P.Port.joins g.met.P.Port.rises) refl)

pub returns-in_err-store-clause-is : goal.returns-in_err-store-clause-is
returns-in_err-store-clause-is g c = refused _ _ _ c.from_residual-in_err-store.ensures (before (lawful g.P.Port g.met.P.Port.none g.met.P.Port.joins g.met.P.Port.rises) refl)

pub returns-clause-is : goal.returns-clause-is
returns-clause-is g c =
    let w : World = world c.args.engine.now in
    let r = runner_for do_bodies c.args.calls.now.room in
    let command : Command = record { alloc = c.alloc-alloc.result; change = c.args.change; variables = c.as_slice-2.result; at = c.args.at; room = c.args.calls.now.room } in
    let inside : Queries Copies = record { list = c.as_slice-queries.result; tables = record { ref_ptr = c.args.change.ref_ptr; now = c.in_ok-store.store } } in
    let variables : c.as_slice-2.result.now ≡ row_of w.frame = c.as_slice-2.ensures ∙ (c.in_ok-variables.ensures ∙ c.values.ensures) in
    let same : rows (calls r c.args.at) c.as_slice-queries.result.now (copied c.in_ok-store.store.list.items) ≡ inner r c.args.at c.args.change.now.queries w =
    ap (λ (copies : Copies). rows (calls r c.args.at) c.as_slice-queries.result.now (copied copies.list.items)) c.in_ok-store.ensures
    ∙ (ap (λ (qs : List RQuery). rows (calls r c.args.at) qs (copied c.in_ok-copies.copies.list.items)) c.as_slice-queries.ensures ∙ c.in_ok-copies.ensures (calls r c.args.at)) in
    let kept = entries c.in_ok-rows.rows.items in
    let enough : AreEnough c.args.change.now (c.as_slice-2.result.now ∷ [] ∷ []) w.database.tables kept =
    subst (λ (row : Row). AreEnough c.args.change.now (row ∷ [] ∷ []) w.database.tables kept) (c.as_slice.ensures ∙ sym c.as_slice-2.ensures) c.in_ok-rows.ensures in
    let reads = changed_over command inside w variables same kept c.run-answer.result c.run-answer.new.calling enough
    (subst (λ (s : Standing). ReadsOver {A = List Row} command (λ (x : Within). does (setting_over command inside) (command.variables.now ∷ []) kept command.change.now.what x) c.run-answer.result s c.run-answer.new.calling) c.begin-calling.ensures c.run-answer.ensures) in
    c.finish.ensures.is (done_from r c.args.at c.args.change.now w) c.args.calls.now.room c.args.engine.now (sym c.requires.begins) (subst (λ (v : World). g.P.Port.fits v.last c.args.port.now) (sym c.requires.begins) c.requires.fits) reads
