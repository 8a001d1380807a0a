-- What acts work on, as a part of any world.
use Rattle.std.specs.Prelude.{◌≡◌, ℕ, suc, Bool, true, false, List}
use Rattle.pl_base.specs.declared.value.Value.{Value}
use Rattle.pl_engine.specs.pl_world.World.{World}
use Rattle.pl_quick.specs.declared.scratch.Scratch.{Scratch}

-- the world where the variables have these values, and so many steps are left
abbrev pub computed_to : List Value → ℕ → World → World
computed_to values steps w =
    record w { frame = record w.frame { values = values }; steps = steps }

abbrev pub in_world : Scratch → World → World
in_world s w = computed_to s.values s.steps w

-- a step was taken, or none was left
abbrev pub Took : Bool → Scratch → Scratch → Type 0
Took true old new = (old.steps ≡ suc new.steps) × (new ≡ record old { steps = new.steps })
Took false old new = new ≡ old
