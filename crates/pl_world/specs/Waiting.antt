-- A body with a form that a later part of the language brings is 0A000 where it is made, and where a
-- DO begins, so no run comes to one.
use Rattle.std.specs.Prelude.{if◌then◌else◌, Ok, Err}
use Rattle.pl_base.specs.States.{FEATURE_NOT_SUPPORTED}
use Rattle.pl_bodies.specs.declared.statement.Body.{Body}
use Rattle.pl_meaning.specs.pl_typing.Resolved.{Resolved}
use Rattle.pl_meaning.specs.pl_waiting.Waiting.{body_waits}

-- a body that can run
abbrev pub unless_waiting : Body → Resolved Body
unless_waiting b = if body_waits b then Err FEATURE_NOT_SUPPORTED else Ok b
