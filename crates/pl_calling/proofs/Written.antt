-- Rows that are written within an evaluation.
use Rattle.std.proofs.Common.{◌≡◌, ◌≤◌, ◌-◌, ◌∙◌, ℕ, Bool, List, Option, Result, Ok, Err, ap, arith}
use Rattle.std.specs.Prelude.{OnErr, OnOk}
use Rattle.pl_base.specs.declared.fail.Fail.{Fail}
use Rattle.pl_base.specs.declared.state.State.{State}
use Rattle.pl_calling.specs.Standing.{Sound, Standing, standing}
use Rattle.pl_calling.specs.Writing.{WroteIn, in_world, without_row_in}
use Rattle.pl_engine.specs.Changing.{Wrote, without_row}
use Rattle.pl_engine.specs.Engines.{Kept}
use Rattle.pl_names.specs.Names.{Name}
use Rattle.pl_tables.specs.Named.{Named}
use Rattle.pl_value.specs.declared.operand.Unsettled.{Unsettled}
use Rattle.pl_value.specs.declared.operand.Unsettled.TheVariants.{Fails, Memory}
use Rattle.pl_engine.specs.pl_world.Errors.{Spot}
use Rattle.pl_engine.specs.pl_world.World.{World}

-- ---- what a write leaves as it was

wrote_steps : (wanted : Result (List Named) State) (r : Result (Unit {0}) Unsettled) (old new : World) → Wrote wanted r old new → new.steps ≡ old.steps
wrote_steps wanted (Ok u) old new (tables, is, same) = ap (λ (w : World). w.steps) same
wrote_steps wanted (Err (Fails state)) old new (is, same) = ap (λ (w : World). w.steps) same
wrote_steps wanted (Err Memory) old new same = ap (λ (w : World). w.steps) same

wrote_last : (wanted : Result (List Named) State) (r : Result (Unit {0}) Unsettled) (old new : World) → Wrote wanted r old new → new.last ≡ old.last
wrote_last wanted (Ok u) old new (tables, is, same) = ap (λ (w : World). w.last) same
wrote_last wanted (Err (Fails state)) old new (is, same) = ap (λ (w : World). w.last) same
wrote_last wanted (Err Memory) old new same = ap (λ (w : World). w.last) same

removed_steps : {E : Type 0} (r : Result (Unit {0}) E) (table : Name) (id : ℕ) (old new : World) → OnOk r (new ≡ without_row table id old) → OnErr r (new ≡ old) → new.steps ≡ old.steps
removed_steps (Ok u) table id old new ok err = ap (λ (w : World). w.steps) ok
removed_steps (Err e) table id old new ok err = ap (λ (w : World). w.steps) err

removed_last : {E : Type 0} (r : Result (Unit {0}) E) (table : Name) (id : ℕ) (old new : World) → OnOk r (new ≡ without_row table id old) → OnErr r (new ≡ old) → new.last ≡ old.last
removed_last (Ok u) table id old new ok err = ap (λ (w : World). w.last) ok
removed_last (Err e) table id old new ok err = ap (λ (w : World). w.last) err

-- ---- what is kept behind it

-- as many steps were taken
stands_on : (begin old new : World) (held : List (List ℕ)) (failure : Option Fail) (at : Spot) (room : ℕ) → new.steps ≡ old.steps → standing begin new held failure at room ≡ in_world new (standing begin old held failure at room)
stands_on begin old new held failure at room same = ap (λ (n : ℕ). record (standing begin new held failure at room) { spent = begin.steps - n }) same

module _ (begin old new : World) (held : List (List ℕ)) (failure : Option Fail) (at : Spot) (room : ℕ) where
  abbrev before : Standing
  before = standing begin old held failure at room

  abbrev behind : Standing
  behind = standing begin new held failure at room

  pub wrote_in : (wanted : Result (List Named) State) (r : Result (Unit {0}) Unsettled) → Wrote wanted r old new → WroteIn wanted r before behind
  wrote_in wanted r wrote = (new, wrote, stands_on begin old new held failure at room (wrote_steps wanted r old new wrote))

  pub removed_in : {E : Type 0} (r : Result (Unit {0}) E) (table : Name) (id : ℕ) → OnOk r (new ≡ without_row table id old) → OnErr r (new ≡ old) → OnOk r (behind ≡ without_row_in table id before)
  removed_in (Ok u) table id ok err = stands_on begin old new held failure at room (ap (λ (w : World). w.steps) ok) ∙ ap (λ (w : World). in_world w before) ok
  removed_in (Err e) table id ok err = tt

  pub not_removed_in : {E : Type 0} (r : Result (Unit {0}) E) → OnErr r (new ≡ old) → OnErr r (behind ≡ before)
  not_removed_in (Ok u) err = tt
  not_removed_in (Err e) err = ap (λ (w : World). standing begin w held failure at room) err

-- ---- the engine is sound behind it

module _ (begin old new : World) (stays keeps_old keeps_new : Kept) (can : Type 0) (lost : Bool) (room : ℕ) (s : Sound begin stays can lost old keeps_old room) (keeps : keeps_new ≡ keeps_old) where
  sound_there : new.steps ≡ old.steps → new.last ≡ old.last → Sound begin stays can lost new keeps_new room
  sound_there steps last = record {
    room = s.room;
    runs = s.runs;
    last = λ is. last ∙ s.last is;
    steps = λ is. let less : old.steps ≤ begin.steps = s.steps is in omega (arith, less, steps);
    keeps = λ is. keeps ∙ s.keeps is;
  }

  pub sound_written : (wanted : Result (List Named) State) (r : Result (Unit {0}) Unsettled) → Wrote wanted r old new → Sound begin stays can lost new keeps_new room
  sound_written wanted r wrote = sound_there (wrote_steps wanted r old new wrote) (wrote_last wanted r old new wrote)

  pub sound_removed : {E : Type 0} (r : Result (Unit {0}) E) (table : Name) (id : ℕ) → OnOk r (new ≡ without_row table id old) → OnErr r (new ≡ old) → Sound begin stays can lost new keeps_new room
  sound_removed r table id ok err = sound_there (removed_steps r table id old new ok err) (removed_last r table id old new ok err)
