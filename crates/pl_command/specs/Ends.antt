-- What a command did, as a run.
use Rattle.std.specs.Prelude.{◌≡◌, false}
use Rattle.pl_world.specs.Sessions.{Went, went}
use Rattle.pl_world.specs.World.{World, Ran, made}
use Rattle.pl_world.specs.declared.session.Reply.{Reply}

-- the session is in no block, no block is protected, and no savepoint stands
pub record IsIdle (w : World) : Type 0 where
  pub depth : w.depth ≡ 0
  pub in_block : w.in_block ≡ false

-- beside the mode of its session and the savepoints
abbrev pub as_ran : Went → Ran Reply
as_ran (went s answer es) = made s.world answer es
