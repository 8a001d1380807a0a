use Rattle.std.proofs.Common.{◌≡◌, [], drop, List}
use Rattle.pl_journal.specs.pl_catalog.declared.object.Object.{Object}
use Rattle.pl_change.specs.Changes.{adds_found, progress}
use Rattle.pl_change.specs.Running.{setting_of}
use Rattle.pl_journal.specs.Journal.{ChangesOnly}
use Rattle.pl_inside.specs.pl_query.Rows.{in_turn}
use Rattle.pl_change.proofs.commands.insert_found.Given as goal

abbrev pub invariant-loop-row : goal.invariant-loop-row
invariant-loop-row g l =
    record {
      reads : (objects : List Object) → objects ≡ l.fn.journal.now.objects
          → in_turn (adds_found (setting_of g.C.Caller.calls (g.S.Subqueries.sub l.sub) objects l.command) l.values) l.found (progress l.fn.journal.now.tables []) l.fn.caller
          ≡ in_turn (adds_found (setting_of g.C.Caller.calls (g.S.Subqueries.sub l.sub) objects l.command) l.values) (drop l.row-index l.found) (progress l.journal.now.tables l.rows) l.caller;
      only : ChangesOnly l.command.change.now.table l.fn.journal l.journal;
      around : l.frame.items ≡ l.command.around.now;
    }
