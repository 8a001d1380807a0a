-- The laws of runs, handlers, calls and savepoints.
use Rattle.std.proofs.Common.{◌≡◌, ◌∙◌, ℕ, suc, Bool, true, false, List, [], ◌∷◌, ◌++◌, length, Option, Some, None, Ok, Err, refl, ap}
use Rattle.std.proofs.lemmas.Bool.{eqb-true}
use Rattle.std.proofs.lemmas.Slice.Eq.{bytes_eq-Decides}
use Rattle.std.specs.Prelude.{Result, not, ◌&&◌, ◌||◌, ◌==◌, bytes_eq}
use Rattle.pl_base.specs.States.{ASSERT_FAILURE, QUERY_CANCELED}
use Rattle.pl_base.specs.declared.fail.Fail.{Fail}
use Rattle.pl_base.specs.declared.state.State.{State}
use Rattle.pl_base.specs.declared.types.Ty.{Ty}
use Rattle.pl_base.specs.declared.value.Value.{Value}
use Rattle.pl_bodies.specs.declared.statement.Caught.{Caught}
use Rattle.pl_bodies.specs.declared.statement.Caught.TheVariants as caught_by
use Rattle.pl_bodies.specs.declared.statement.Handler.{Handler}
use Rattle.pl_bodies.specs.declared.statement.Statement.{Statement}
use Rattle.pl_world.specs.Blocks.{caught, deeper, handling, protected, sqlerrm_of, sqlstate_of}
use Rattle.pl_meaning.specs.pl_catalog.declared.object.Routine.{Routine}
use Rattle.pl_world.specs.Calls.{Callee, can_be_called, given, is_called_by, left, popped}
use Rattle.pl_meaning.specs.pl_names.Names.{Name}
use Rattle.pl_world.specs.Conditions.{code_of, covers, is_engine, is_out_of_steps, is_state, matches}
use Rattle.pl_world.specs.Conversions.{as_type, converted, settled}
use Rattle.pl_world.specs.Errors.{Spot}
use Rattle.pl_world.specs.Running.{Bodies, Runner, Task, all, body, spot_of, stepped, stepped_by}
use Rattle.pl_world.specs.Sessions.{Save, later, place_of, saved}
use Rattle.pl_world.specs.Statements.{run_within, runner, task_form}
use Rattle.pl_world.specs.Variables.{declared, opened}
use Rattle.pl_world.specs.Laws.{IsFail, end_of, events, goes_on, world_behind}
use Rattle.pl_world.specs.World.{Event, Ran, World, made, behind, and_then, ends}
use Rattle.pl_world.specs.declared.outcome.Outcome.{Outcome}
use Rattle.pl_world.specs.declared.outcome.Outcome.TheVariants as outcome

events-behind : (es : List Event) (ran : Ran Outcome) → events (behind es ran) ≡ es ++ events ran
events-behind es (made w o fs) = refl

world-behind : (es : List Event) (ran : Ran Outcome) → world_behind (behind es ran) ≡ world_behind ran
world-behind es (made w o fs) = refl

pub joined : (ran : Ran Outcome) (k : Outcome → World → Ran Outcome) → events (and_then ran k) ≡ events ran ++ events (goes_on ran k)
joined (made w o es) k = events-behind es (k o w)

pub joined_world : (ran : Ran Outcome) (k : Outcome → World → Ran Outcome) → world_behind (and_then ran k) ≡ world_behind (goes_on ran k)
joined_world (made w o es) k = world-behind es (k o w)

pub handler_database : (label : Option Name) (entry : World) (f : Fail) (w : World) → (handling label entry f w).database ≡ entry.database
unfolding handling declared opened
handler_database label entry f w = refl

pub handler_variables : (label : Option Name) (entry : World) (f : Fail) (w : World) → (handling label entry f w).frame.values ≡ (w.frame.values ++ sqlstate_of f ∷ []) ++ sqlerrm_of f ∷ []
unfolding handling declared opened
handler_variables label entry f w = refl

pub handler_steps : (label : Option Name) (entry : World) (f : Fail) (w : World) → (handling label entry f w).steps ≡ w.steps
unfolding handling declared opened
handler_steps label entry f w = refl

pub handler_count : (label : Option Name) (entry : World) (f : Fail) (w : World) → (handling label entry f w).frame.row_count ≡ w.frame.row_count
unfolding handling declared opened
handler_count label entry f w = refl

pub handler_handled : (label : Option Name) (entry : World) (f : Fail) (w : World) → (handling label entry f w).frame.handled ≡ f ∷ w.frame.handled
unfolding handling declared opened
handler_handled label entry f w = refl

caught_keeps : (r : Runner) (label : Option Name) (hs : List Handler) (entry : World) (ran : Ran Outcome) → (IsFail (end_of ran) → ⊥) → (world_behind (and_then ran (caught r label hs entry))).database ≡ (world_behind ran).database
unfolding caught
caught_keeps r label hs entry (made w outcome.Next es) fine = refl
caught_keeps r label hs entry (made w (outcome.Exit to) es) fine = refl
caught_keeps r label hs entry (made w (outcome.Continue to) es) fine = refl
caught_keeps r label hs entry (made w (outcome.Return v) es) fine = refl
caught_keeps r label hs entry (made w (outcome.Fail f) es) fine = absurd (fine tt)

pub keeps : (r : Runner) (label : Option Name) (ss : List Statement) (h : Handler) (hs : List Handler) (w : World) → (IsFail (end_of (all r ss (deeper w))) → ⊥)
    → (world_behind (protected r label ss (h ∷ hs) w)).database ≡ (world_behind (all r ss (deeper w))).database
unfolding protected
keeps r label ss h hs w fine = caught_keeps r label (h ∷ hs) w (all r ss (deeper w)) fine

settled_world : (a : Result Value State) (at : Spot) (w : World) → world_behind (settled a at w (λ v w. ends (outcome.Return v) w)) ≡ w
settled_world (Ok v) at w = refl
settled_world (Err state) at w = refl

given_world : (result : Option Ty) (o : Outcome) (at : Spot) (w : World) → world_behind (given result o at w) ≡ w
unfolding as_type
given_world None outcome.Next at w = refl
given_world None (outcome.Exit to) at w = refl
given_world None (outcome.Continue to) at w = refl
given_world None (outcome.Return v) at w = refl
given_world None (outcome.Fail f) at w = refl
given_world (Some t) outcome.Next at w = refl
given_world (Some t) (outcome.Exit to) at w = refl
given_world (Some t) (outcome.Continue to) at w = refl
given_world (Some t) (outcome.Return v) at w = settled_world (converted t v) at w
given_world (Some t) (outcome.Fail f) at w = refl

popped_behind : (ran : Ran Outcome) → world_behind (and_then ran (λ o w. ends o (popped w))) ≡ popped (world_behind ran)
popped_behind (made w o es) = refl

pub ended : (c : Callee) (o : Outcome) (w : World) → world_behind (left c o w) ≡ popped w
unfolding left
ended c o w = popped_behind (given c.result o (spot_of (body c.body)) w) ∙ ap (λ (v : World). popped v) (given_world c.result o (spot_of (body c.body)) w)

right : (a b : Bool) → (a && b) ≡ true → b ≡ true
right true b is = is
right false b is = let no_way : ⊥ = cc in absurd no_way

pub as_many : (is_command : Bool) (values : List Value) (r : Routine) → can_be_called is_command values r ≡ true → length values ≡ length r.heading.params
as_many is_command values r can =
    eqb-true (length values) (length r.heading.params) (right (is_called_by is_command r.heading.kind) (length values == length r.heading.params) can)

pub unmatched : (c : Caught) (f : Fail) → is_out_of_steps f ≡ true → matches c f ≡ false
unfolding matches
unmatched caught_by.Others f is = ap (λ (b : Bool). not (b || is_state f.state ASSERT_FAILURE)) (right (is_engine f.origin) (is_state f.state QUERY_CANCELED) is)
unmatched (caught_by.Condition c) f is = ap (λ (b : Bool). not b && covers (code_of c) f.state) is

pub found : (name : Name) (w : World) (saves : List Save) → place_of name (saves ++ saved name w ∷ []) ≡ Some (length saves)
found name w [] = ap (λ (b : Bool). later None b) ((bytes_eq-Decides name name).1 refl)
found name w (s ∷ ss) = ap (λ (o : Option ℕ). later o (bytes_eq s.name name)) (found name w ss)

pub stepless : (bodies : Bodies) (n : ℕ) (t : Task) (w : World) → w.steps ≡ 0 → run_within bodies (suc n) t w ≡ run_within bodies 0 t w
unfolding run_within stepped
stepless bodies n t w none =
    ap (λ (s : ℕ). stepped_by s (spot_of t) w (λ (v : World). task_form (runner bodies n (run_within bodies n)) t v)) none
