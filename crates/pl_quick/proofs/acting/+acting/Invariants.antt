use Rattle.std.proofs.Common.{◌≡◌, drop}
use Rattle.pl_engine.specs.pl_world.World.{World}
use Rattle.pl_quick.proofs.Forms.{AllBy, ChosenBy}
use Rattle.pl_quick.proofs.acting.+acting.Given as goal
use Rattle.pl_quick.specs.Old.{Tracked}
use Rattle.pl_quick.specs.Scratch.{in_world}

abbrev pub invariant-act_all-loop-act : goal.invariant-act_all-loop-act
invariant-act_all-loop-act l = record {
  so_far : (w : World) → AllBy l.acts (drop l.act-index l.acts) (in_world l.fn.scratch w) (in_world l.scratch w);
  tracked : Tracked l.fn.scratch l.scratch;
}

abbrev pub invariant-choose-loop-arm : goal.invariant-choose-loop-arm
invariant-choose-loop-arm l = record {
  so_far : (w : World) → ChosenBy l.arms (drop l.arm-index l.arms) (in_world l.fn.scratch w) (in_world l.scratch w);
  same : l.fn.scratch ≡ l.scratch;
}
