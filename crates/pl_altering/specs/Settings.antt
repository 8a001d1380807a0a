-- What the rows of a change share, and how what they read is answered.
use Rattle.std.specs.Prelude.{◌≡◌, [], ◌∷◌, Result}
use Rattle.pl_altering.specs.declared.command.Command.{Command}
use Rattle.pl_querying.specs.pl_calling.Standing.{Standing, keep}
use Rattle.pl_world.specs.pl_change.Running.{copied}
use Rattle.pl_world.specs.pl_change.declared.at_start.Copies.{Copies}
use Rattle.pl_querying.specs.pl_engine.Texts.{do_bodies}
use Rattle.pl_natural.specs.Kept.{ReadsKept}
use Rattle.pl_query.specs.Query.{rows}
use Rattle.pl_query.specs.declared.within.Queries.{Queries}
use Rattle.pl_value.specs.Reading.{Reading}
use Rattle.pl_value.specs.declared.operand.Unsettled.{Unsettled}
use Rattle.pl_world.specs.Calls.{Within, calls}
use Rattle.pl_world.specs.Changes.{Setting}
use Rattle.pl_world.specs.Statements.{runner_for}

-- the queries inside read copies of the tables
abbrev pub setting_over : Command → Queries Copies → Setting
setting_over command inside = record {
  calls = calls (runner_for do_bodies command.room) command.at;
  inner = rows (calls (runner_for do_bodies command.room) command.at) inside.list.now
      (copied inside.tables.now.list.items);
  change = command.change.now;
  around = command.variables.now ∷ [] ∷ [];
}

-- This was read, whatever was told before of which the same is kept.
abbrev pub ReadsOver : {A : Type 0} → Command → (Within → Reading Within A) → Result A Unsettled
    → (old new : Standing) → Type 0
ReadsOver command reading answer old new =
    (x : Within) → old ≡ keep command.at command.room x
    → ReadsKept (keep command.at command.room) (reading x) answer new
