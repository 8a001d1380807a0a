-- The world that an engine stands for, and what an engine leaves as it was.
use Rattle.std.specs.Prelude.{◌≡◌, ℕ, suc, Bool, true, false, List, [], ◌∷◌, ◌++◌, length, map}
use Rattle.std.specs.Prelude.{reverse}
use Rattle.pl_base.specs.declared.value.Value.{Value}
use Rattle.pl_base.specs.declared.value.Value.TheVariants.{Bool as Truth}
use Rattle.pl_engine.specs.declared.engine.Engine.{Engine}
use Rattle.pl_engine.specs.declared.call.Call.{Call}
use Rattle.pl_world.specs.pl_names.Names.{Name}
use Rattle.pl_undo.specs.Database.{Database}
use Rattle.pl_variables.specs.declared.frames.Frame.{Frame as Held}
use Rattle.pl_world.specs.Scripts.{outward}
use Rattle.pl_world.specs.World.{Event, Stepped, Raised, Began, Said, Committed, Frame, Ran}
use Rattle.pl_world.specs.World.{Static, World, made}

-- ---- the world

abbrev pub frame_of : Held Call → Frame
frame_of f = record {
  routine = f.call.routine;
  is_command = f.call.is_command;
  static = f.call.declared;
  values = f.values;
  row_count = f.row_count;
  handled = reverse f.call.handled.items;
}

-- it is a CALL or a DO
abbrev pub is_command : Held Call → Bool
is_command f = f.call.is_command

abbrev pub world : Engine → World
world e = record {
  database = e.journal.now;
  last = e.journal.last;
  frame = frame_of e.frames.newest;
  below = map frame_of e.frames.below;
  steps = e.steps;
  depth = length e.journal.marks;
  in_block = e.in_block;
  changing = reverse e.changing.items;
}

-- ---- calls

-- a call is entered, in which names mean this
abbrev pub with_call : Name → Bool → Static → List Value → World → World
with_call routine is_command static values w = record w {
  frame = record {
    routine = routine;
    is_command = is_command;
    static = static;
    values = values ++ Truth false ∷ [];
    row_count = 0;
    handled = [];
  };
  below = w.frame ∷ w.below;
}

-- ---- what statements do to it

-- what each statement leaves as it was; the databases at the marks are those that protected blocks
-- and savepoints go back to, the newest last
pub record Kept : Type 0 where
  pub below : List Frame
  pub marks : List Database
  pub in_block : Bool
  pub changing : List Name

abbrev pub kept : Engine → Kept
kept e = record {
  below = (world e).below;
  marks = e.journal.marks;
  in_block = (world e).in_block;
  changing = (world e).changing;
}

-- a step was taken, or none was left
abbrev pub Took : Bool → Engine → Engine → Type 0
Took true old new = (old.steps ≡ suc new.steps) × (new ≡ record old { steps = new.steps })
Took false old new = (old.steps ≡ 0) × (new ≡ old)

-- how many steps were taken
abbrev pub stepped_in : List Event → ℕ
stepped_in [] = 0
stepped_in (Stepped at ∷ es) = suc (stepped_in es)
stepped_in (Raised f ∷ es) = stepped_in es
stepped_in (Began what ∷ es) = stepped_in es
stepped_in (Said lines ∷ es) = stepped_in es
stepped_in (Committed db ∷ es) = stepped_in es

-- an act that neither prints nor commits nor takes a step
abbrev pub Quiet : {O : Type 0} → Ran O → O → Engine → Engine → Type 0
Quiet (made w o es) end old new =
    (w ≡ world new) × (o ≡ end) × (outward es ≡ []) × (stepped_in es ≡ 0)
    × (new.steps ≡ old.steps) × ((world new).last ≡ (world old).last)
