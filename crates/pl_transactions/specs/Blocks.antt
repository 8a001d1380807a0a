-- Ends that more than one command makes.
use Rattle.std.specs.Prelude.{[], ◌∷◌}
use Rattle.pl_base.specs.States.{NO_ACTIVE_SQL_TRANSACTION}
use Rattle.pl_print.specs.declared.reply.Tag.{Tag}
use Rattle.pl_print.specs.declared.reply.Tag.TheVariants as tag
use Rattle.pl_command.specs.pl_world.Sessions.{Went, committed, tagged, undone, warning}
use Rattle.pl_command.specs.pl_world.World.{Began, World, a_rollback}

-- COMMIT and ROLLBACK outside of a block
abbrev pub ends_none : Tag → World → Went
ends_none t w = committed (tagged t) (warning NO_ACTIVE_SQL_TRANSACTION) w

-- ROLLBACK of a block, and COMMIT of a void one
abbrev pub undoes : World → Went
undoes w = undone (tagged tag.Rollback) (Began a_rollback ∷ []) w
