-- What the text of a DO is read as.
use Rattle.pl_world.specs.pl_journal.Bodies.{body_of_text, nameless}
use Rattle.pl_typing.specs.Resolved.{◌>>=◌}
use Rattle.pl_world.specs.Running.{Bodies}
use Rattle.pl_world.specs.Waiting.{unless_waiting}

-- a body that breaks no rule and can run, or why there is none
unfoldable pub do_bodies : Bodies
do_bodies = record { read = λ text. body_of_text text nameless >>= unless_waiting }
