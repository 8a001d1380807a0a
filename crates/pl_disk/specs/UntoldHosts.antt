-- What is known of a host that tells nothing of its files: its names and its counts.
use Rattle.pl_disk.specs.Attached.{AreAttached, IsGiven}
use Rattle.pl_disk.specs.Disk.{View, untold}
use Rattle.pl_disk.specs.declared.untold.UntoldHost.{UntoldHost}

abbrev pub untold_view : UntoldHost → View
untold_view h = record (untold h.disk_faults) {
  attached = AreAttached h.attached;
  is_attached = IsGiven (AreAttached h.attached);
  say_faults = h.say_faults;
}
