-- The counts that a host in memory keeps.
use Rattle.pl_disk.specs.Tally.{Tally}
use Rattle.pl_disk.specs.declared.memory.counts.Counts.{Counts}

-- What they count.
abbrev pub tally_of : Counts → Tally
tally_of counts = record {
  fail = counts.fail.items;
  calls = counts.calls;
  disk_faults = counts.disk_faults;
  say_faults = counts.say_faults;
  starved = counts.starved;
}
