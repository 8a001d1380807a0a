use Rattle.std.proofs.Common.{◌≡◌, ◌≤◌, drop}
use Rattle.pl_undo.specs.Database.{keys_in}
use Rattle.pl_journal.proofs.by_key.found_among.Given as goal

abbrev pub invariant-loop-rule : goal.invariant-loop-rule
invariant-loop-rule l =
    record {
      rest : drop l.number (keys_in l.rules) ≡ keys_in (drop l.rule-index l.rules);
      within : l.number ≤ l.rule-index;
    }
