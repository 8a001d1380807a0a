use Rattle.std.proofs.Common.{◌≡◌, drop}
use Rattle.pl_asking.proofs.Aimed.{behind_those}
use Rattle.pl_asking.proofs.resolving.aim_all.Given as goal
use Rattle.pl_calling.specs.pl_engine.Engines.{world}
use Rattle.pl_world.specs.Resolving.{aiming_all}

abbrev pub invariant-loop-target : goal.invariant-loop-target
invariant-loop-target l =
    aiming_all l.targets (world l.engine).database.objects (world l.engine).frame.static
    ≡ behind_those l.all (aiming_all (drop l.target-index l.targets) (world l.engine).database.objects (world l.engine).frame.static)
