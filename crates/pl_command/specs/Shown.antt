-- Rows that are answered, and printed if they can be.
use Rattle.std.specs.Prelude.{List, Some, None}
use Rattle.pl_world.specs.Selection.{grid_of, heads_of}
use Rattle.pl_resolved.specs.declared.query.Head.{Head}
use Rattle.pl_resolved.specs.declared.query.RQuery.{RQuery}
use Rattle.pl_altering.specs.pl_targets.declared.change.RChange.{RChange}
use Rattle.pl_value.specs.Frames.{Row}
use Rattle.pl_world.specs.Changes.{changed}
use Rattle.pl_world.specs.Commands.{finished}
use Rattle.pl_world.specs.Expressions.{reads, rows_over}
use Rattle.pl_world.specs.Running.{Runner}
use Rattle.pl_world.specs.Sessions.{change_reply, failed, reply, shown, top}
use Rattle.pl_world.specs.World.{World, Ran}
use Rattle.pl_world.specs.declared.session.Reply.{Reply}

-- a command that isn't done here answers nothing
abbrev pub no_reply : Reply
no_reply = reply None None None

-- the rows of a query below their headings
abbrev pub shows : List Head → List Row → World → Ran Reply
shows heads rows w = shown rows (reply None (Some (grid_of heads rows)) None) w

-- the rows of RETURNING, and the tag
abbrev pub shows_change : RChange → List Row → World → Ran Reply
shows_change c rows w = shown rows (change_reply c rows) w

-- a query whose names are resolved
abbrev pub selected : Runner → List RQuery → World → Ran Reply
selected r queries w =
    reads failed (rows_over r top queries w) top (shows (heads_of queries))

-- a change whose names are resolved
abbrev pub made_change : Runner → RChange → World → Ran Reply
made_change r c w = reads failed (finished (changed r top c w)) top (shows_change c)
