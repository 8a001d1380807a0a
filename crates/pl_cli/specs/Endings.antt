-- The endings of a run, and their statuses.
use Rattle.std.specs.Prelude.{ℕ}
use Rattle.pl_cli.specs.declared.ending.Ending.{Ending}
use Rattle.pl_cli.specs.declared.ending.Ending.TheVariants.{Whole, Usage, AtError, Disk, Source, Say, Damaged, Refused, Memory}

abbrev pub status_of : Ending → ℕ
status_of Whole = 0
status_of Usage = 2
status_of AtError = 3
status_of Disk = 4
status_of Source = 5
status_of Say = 6
status_of Damaged = 7
status_of Refused = 8
status_of Memory = 9
