use Rattle.std.proofs.Common.{◌≡◌, [], drop, List}
use Rattle.pl_journal.specs.pl_catalog.declared.object.Object.{Object}
use Rattle.pl_change.specs.Changes.{deletes, progress}
use Rattle.pl_change.specs.Running.{setting_of}
use Rattle.pl_journal.specs.Journal.{ChangesOnly}
use Rattle.pl_inside.specs.pl_query.Rows.{in_turn}
use Rattle.pl_change.proofs.commands.delete_each.Given as goal

abbrev pub invariant-loop-id : goal.invariant-loop-id
invariant-loop-id g l =
    record {
      reads : (objects : List Object) → objects ≡ l.fn.journal.now.objects
          → in_turn (deletes (setting_of g.C.Caller.calls (g.S.Subqueries.sub l.sub) objects l.command) l.condition) l.ids (progress l.fn.journal.now.tables []) l.fn.caller
          ≡ in_turn (deletes (setting_of g.C.Caller.calls (g.S.Subqueries.sub l.sub) objects l.command) l.condition) (drop l.id-index l.ids) (progress l.journal.now.tables l.rows) l.caller;
      only : ChangesOnly l.command.change.now.table l.fn.journal l.journal;
    }
