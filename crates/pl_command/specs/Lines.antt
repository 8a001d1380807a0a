-- The lines of a reply, be it of a failure or not.
use Rattle.std.specs.Prelude.{ℕ, List, ◌++◌, Option, Some, None}
use Rattle.pl_base.specs.declared.fail.Fail.{Fail}
use Rattle.pl_print.specs.Messages.{fail_bytes}
use Rattle.pl_world.specs.Scripts.{grid_lines, tag_lines}
use Rattle.pl_world.specs.declared.session.Reply.{Reply}

abbrev pub lines_by : Option Fail → Reply → List ℕ
lines_by (Some f) answer = fail_bytes f
lines_by None answer = grid_lines answer.grid ++ tag_lines answer.tag

abbrev pub lines_of : Reply → List ℕ
lines_of answer = lines_by answer.fail answer
