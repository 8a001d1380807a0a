-- Rows that are written within an evaluation.
use Rattle.std.specs.Prelude.{◌≡◌, ℕ, List, Result}
use Rattle.pl_base.specs.declared.state.State.{State}
use Rattle.pl_calling.specs.Standing.{Standing}
use Rattle.pl_engine.specs.Changing.{Wrote, without_row}
use Rattle.pl_names.specs.Names.{Name}
use Rattle.pl_tables.specs.Named.{Named}
use Rattle.pl_value.specs.declared.operand.Unsettled.{Unsettled}
use Rattle.pl_engine.specs.pl_world.World.{World}

abbrev pub in_world : World → Standing → Standing
in_world w s = record s { world = w }

-- the world alone was written in, or it is as it was
abbrev pub WroteIn : Result (List Named) State → Result (Unit {0}) Unsettled
    → (old new : Standing) → Type 0
WroteIn wanted result old new =
    (w : World) × Wrote wanted result old.world w × (new ≡ in_world w old)

-- the row of this id is gone
abbrev pub without_row_in : Name → ℕ → Standing → Standing
without_row_in table id s = in_world (without_row table id s.world) s
