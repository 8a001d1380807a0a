-- Proofs that other crates' proofs may cite; no definition. What is kept of a state within an evaluation.
use Rattle.std.proofs.Common.{◌≡◌, ◌≤◌, ◌+◌, ◌-◌, ◌∙◌, ℕ, Bool, true, false, List, [], ◌∷◌, ◌++◌, Option, Some, None, Ok, Err, append-nil, ap, arith, refl, subst, sym}
use Rattle.pl_base.specs.declared.fail.Fail.{Fail}
use Rattle.pl_base.specs.declared.state.State.{State}
use Rattle.pl_base.specs.declared.value.Value.{Value}
use Rattle.pl_calling.specs.Ends.{EndsAs, Still, error_of, settles}
use Rattle.pl_calling.specs.Standing.{Sound, Standing, answered_by, behind_call, calls_kept, fresh, keep, standing}
use Rattle.pl_engine.proofs.Joins.{outward-append, stepped_in-append}
use Rattle.pl_engine.specs.Engines.{Kept, stepped_in}
use Rattle.pl_engine.specs.Holding.{HoldsMore, said}
use Rattle.pl_engine.specs.Texts.{do_bodies}
use Rattle.pl_engine.specs.pl_world.Trace as trace
use Rattle.pl_engine.specs.pl_world.Trace.{last_commit}
use Rattle.pl_natural.specs.Kept.{ReadsKept, kept}
use Rattle.pl_undo.specs.Database.{Database}
use Rattle.pl_value.specs.Reading.{Reading, got, fails}
use Rattle.pl_value.specs.declared.operand.Unsettled.TheVariants.{Fails}
use Rattle.pl_engine.specs.pl_world.Calls.{Within, answered, called_by_name, calls, void, within}
use Rattle.pl_engine.specs.pl_world.Errors.{Spot, as_run_state}
use Rattle.pl_engine.specs.pl_world.Errors.{failure as arises}
use Rattle.pl_engine.specs.pl_world.Expressions.{reads}
use Rattle.pl_engine.specs.pl_world.Scripts.{outward}
use Rattle.pl_engine.specs.pl_world.Statements.{runner_for}
use Rattle.pl_engine.specs.pl_world.World.{Event, Raised, Ran, World, made}
use Rattle.pl_engine.specs.pl_world.declared.outcome.Outcome.{Outcome}
use Rattle.pl_engine.specs.pl_world.declared.outcome.Outcome.TheVariants as outcome

-- ---- calls

joined : (at : Spot) (room : ℕ) (x : Within) (w : World) (es : List Event) (failure : Option Fail) → behind_call w es failure (keep at room x) ≡ keep at room (within w (x.told ++ es) failure)
joined at room x w es failure = rw (outward-append x.told es, stepped_in-append x.told es) refl

answered_agrees : (at : Spot) (room : ℕ) (x : Within) (ran : Ran Outcome) → answered_by (keep at room x) ran ≡ kept (keep at room) (answered x.told ran)
answered_agrees at room x (made w outcome.Next es) = ap (λ (s : Standing). got void s) (joined at room x w es None)
answered_agrees at room x (made w (outcome.Exit to) es) = ap (λ (s : Standing). got void s) (joined at room x w es None)
answered_agrees at room x (made w (outcome.Continue to) es) = ap (λ (s : Standing). got void s) (joined at room x w es None)
answered_agrees at room x (made w (outcome.Return v) es) = ap (λ (s : Standing). got v s) (joined at room x w es None)
answered_agrees at room x (made w (outcome.Fail f) es) = ap (λ (s : Standing). fails f.state s) (joined at room x w es (Some f))

-- calls need no more of the state than what is kept
pub calls_agree : (at : Spot) (room : ℕ) (name : List ℕ) (values : List Value) (x : Within) → calls_kept name values (keep at room x) ≡ kept (keep at room) (calls (runner_for do_bodies room) at name values x)
calls_agree at room name values x = answered_agrees at room x (called_by_name (runner_for do_bodies room) at false name values x.world)

-- what a call leaves of an engine and of what is held
pub call_left : (begin old new : World) (held held' : List (List ℕ)) (es : List Event) (failure failure' : Option Fail) (at : Spot) (room : ℕ) → HoldsMore (outward es) held held' → old.steps ≡ new.steps + stepped_in es → old.steps ≤ begin.steps
    → behind_call new es failure' (standing begin old held failure at room) ≡ standing begin new held' failure' at room
call_left begin old new held held' es failure failure' at room more spent less =
    let steps : begin.steps - old.steps + stepped_in es ≡ begin.steps - new.steps = omega (arith, spent, less) in
    rw (steps, ← more) refl

-- nothing is committed where all is held
pub all_said : (pieces : List (List ℕ)) (db : Database) → last_commit (said pieces) db ≡ db
all_said [] db = refl
all_said (p ∷ ps) db = all_said ps db

abbrev rest_of : List trace.Event → List trace.Event
rest_of [] = []
rest_of (e ∷ es) = es

pub nothing_committed : (old new : List (List ℕ)) (es : List trace.Event) (db : Database) → HoldsMore es old new → last_commit es db ≡ db
nothing_committed [] new es db more = ap (λ (xs : List trace.Event). last_commit xs db) (sym more) ∙ all_said new db
nothing_committed (o ∷ os) [] es db more = absurd cc
nothing_committed (o ∷ os) (n ∷ ns) es db more = nothing_committed os ns es db (ap rest_of more)

-- ---- how an evaluation ends

settles_got : {A : Type 0} (at : Spot) (reading : Reading Within A) (a : A) (x : Within) → reading ≡ got a x → settles reading at ≡ made x.world (Ok a) x.told
unfolding reads
settles_got at reading a x is = ap (λ (r : Reading Within _). settles r at) is ∙ ap (λ (es : List Event). made x.world (Ok a) es) (append-nil x.told)

settles_failed : {A : Type 0} (at : Spot) (state : State) (reading : Reading Within A) (f : Fail) (x : Within) → reading ≡ fails state x → x.failure ≡ Some f → settles reading at ≡ made x.world (Err f) x.told
unfolding reads
settles_failed {A} at state reading f x is failed =
    ap (λ (r : Reading Within A). settles r at) is
    ∙ (ap (λ (o : Option Fail). settles (fails state (within x.world x.told o)) at) failed ∙ ap (λ (es : List Event). made x.world (Err f) es) (append-nil x.told))

settles_failing : {A : Type 0} (at : Spot) (state : State) (reading : Reading Within A) (x : Within) → reading ≡ fails state x → x.failure ≡ None
    → settles reading at ≡ made x.world (Err (arises (as_run_state state) at x.world)) (x.told ++ Raised (arises (as_run_state state) at x.world) ∷ [])
unfolding reads
settles_failing {A} at state reading x is none =
    ap (λ (r : Reading Within A). settles r at) is ∙ ap (λ (o : Option Fail). settles (fails state (within x.world x.told o)) at) none

module _ {A : Type 0} (at : Spot) (room : ℕ) (reading : Reading Within A) (s : Standing) where
  pub ends_got : (a : A) → ReadsKept (keep at room) reading (Ok a) s → EndsAs (settles reading at) (Ok a) s
  ends_got a (x, is, left) = (x.told, settles_got at reading a x is ∙ ap (λ (s : Standing). made s.world (Ok a) x.told) (sym left), ap (λ (s : Standing). s.said) (sym left), ap (λ (s : Standing). s.spent) (sym left))

  pub ends_failed : (state : State) (f : Fail) → ReadsKept (keep at room) reading (Err (Fails state)) s → s.failure ≡ Some f → EndsAs (settles reading at) (Err f) s
  ends_failed state f (x, is, left) failed = (
    x.told,
    settles_failed at state reading f x is (ap (λ (s : Standing). s.failure) (sym left) ∙ failed) ∙ ap (λ (s : Standing). made s.world (Err f) x.told) (sym left),
    ap (λ (s : Standing). s.said) (sym left),
    ap (λ (s : Standing). s.spent) (sym left),
  )

  pub ends_failing : (state : State) → ReadsKept (keep at room) reading (Err (Fails state)) s → s.failure ≡ None → EndsAs (settles reading at) (Err (arises (as_run_state state) at s.world)) s
  ends_failing state (x, is, left) none = (
    x.told ++ Raised (arises (as_run_state state) at x.world) ∷ [],
    settles_failing at state reading x is (ap (λ (s : Standing). s.failure) (sym left) ∙ none)
        ∙ ap (λ (s : Standing). made s.world (Err (arises (as_run_state state) at s.world)) (x.told ++ Raised (arises (as_run_state state) at x.world) ∷ [])) (sym left),
    outward-append x.told (Raised (arises (as_run_state state) at x.world) ∷ []) ∙ (append-nil (outward x.told) ∙ ap (λ (s : Standing). s.said) (sym left)),
    stepped_in-append x.told (Raised (arises (as_run_state state) at x.world) ∷ []) ∙ (omega arith ∙ ap (λ (s : Standing). s.spent) (sym left)),
  )

-- ---- calls, by what the code does

module _ (begin old new : World) (held held' : List (List ℕ)) (failure : Option Fail) (at : Spot) (room : ℕ) (name : List ℕ) (values : List Value) (es : List Event) (more : HoldsMore (outward es) held held') (spent : old.steps ≡ new.steps + stepped_in es) (less : old.steps ≤ begin.steps) where
  abbrev before_call : Standing
  before_call = standing begin old held failure at room

  abbrev Ends : Outcome → Type 0
  Ends o = called_by_name (runner_for do_bodies room) at false name values old ≡ made new o es

  answered_so : (o : Outcome) → Ends o → calls_kept name values before_call ≡ answered_by before_call (made new o es)
  answered_so o is = ap (λ (ran : Ran Outcome). answered_by before_call ran) is

  left_so : (f : Option Fail) → behind_call new es f before_call ≡ standing begin new held' f at room
  left_so f = call_left begin old new held held' es failure f at room more spent less

  pub call_got : (v : Value) → Ends (outcome.Return v) → calls_kept name values before_call ≡ got v (standing begin new held' None at room)
  call_got v is = answered_so (outcome.Return v) is ∙ ap (λ (s : Standing). got v s) (left_so None)

  pub call_failed : (f : Fail) → Ends (outcome.Fail f) → calls_kept name values before_call ≡ fails f.state (standing begin new held' (Some f) at room)
  call_failed f is = answered_so (outcome.Fail f) is ∙ ap (λ (s : Standing). fails f.state s) (left_so (Some f))

  pub call_next : Ends outcome.Next → calls_kept name values before_call ≡ got void (standing begin new held' None at room)
  call_next is = answered_so outcome.Next is ∙ ap (λ (s : Standing). got void s) (left_so None)

  pub call_exit : (to : Option (List ℕ)) → Ends (outcome.Exit to) → calls_kept name values before_call ≡ got void (standing begin new held' None at room)
  call_exit to is = answered_so (outcome.Exit to) is ∙ ap (λ (s : Standing). got void s) (left_so None)

  pub call_continue : (to : Option (List ℕ)) → Ends (outcome.Continue to) → calls_kept name values before_call ≡ got void (standing begin new held' None at room)
  call_continue to is = answered_so (outcome.Continue to) is ∙ ap (λ (s : Standing). got void s) (left_so None)

-- the engine is sound behind a call that ended
pub sound_on : (begin old new : World) (stays keeps_old keeps_new : Kept) (can : Type 0) (held held' : List (List ℕ)) (es : List trace.Event) (steps room : ℕ) (lost : Bool) → lost ≡ false → Sound begin stays can lost old keeps_old room → HoldsMore es held held' → new.last ≡ last_commit es old.last
    → old.steps ≡ new.steps + steps → keeps_new ≡ keeps_old → Sound begin stays can lost new keeps_new room
sound_on begin old new stays keeps_old keeps_new can held held' es steps room lost fine s more last spent keeps = record {
  room = s.room;
  runs = s.runs;
  last = λ is. last ∙ (nothing_committed held held' es old.last more ∙ s.last is);
  steps = λ is. let less : old.steps ≤ begin.steps = s.steps is in omega (arith, less, spent);
  keeps = λ is. keeps ∙ s.keeps is;
}

-- nothing is said of one that stopped
pub sound_lost : (begin old new : World) (stays keeps_old keeps_new : Kept) (can : Type 0) (lost : Bool) (room : ℕ) → Sound begin stays can lost old keeps_old room → Sound begin stays can true new keeps_new room
sound_lost begin old new stays keeps_old keeps_new can lost room s = record {
  room = s.room;
  runs = s.runs;
  last = λ is. absurd cc;
  steps = λ is. absurd cc;
  keeps = λ is. absurd cc;
}

-- ---- where an evaluation begins

pub sound_at_start : (begin w : World) (stays keeps_now : Kept) (can : Type 0) (room : ℕ) → begin ≡ w → stays ≡ keeps_now → w.steps ≤ room → can → Sound begin stays can false w keeps_now room
sound_at_start begin w stays keeps_now can room is same_kept less runs =
    let same : begin.steps ≡ w.steps = ap (λ (b : World). b.steps) is in
    record {
      room = omega (arith, same, less);
      runs = runs;
      last = λ _. ap (λ (b : World). b.last) (sym is);
      steps = λ _. omega (arith, same);
      keeps = λ _. sym same_kept;
    }

pub fresh_at_start : (begin w : World) (at : Spot) (room : ℕ) → begin ≡ w → standing begin w [] None at room ≡ fresh at room w
fresh_at_start begin w at room is =
    let same : begin.steps ≡ w.steps = ap (λ (b : World). b.steps) is in
    let none : begin.steps - w.steps ≡ 0 = omega (arith, same) in
    ap (λ (n : ℕ). record (fresh at room w) { spent = n }) none

-- what is kept where no call was made
pub still : (begin w : World) (at : Spot) (room : ℕ) (s : Standing) → begin ≡ w → fresh at room begin ≡ s → Still w s
still begin w at room s is left = record {
  world = sym (ap (λ (x : Standing). x.world) left) ∙ is;
  said = sym (ap (λ (x : Standing). x.said) left);
  spent = sym (ap (λ (x : Standing). x.spent) left);
  failure = sym (ap (λ (x : Standing). x.failure) left);
}

-- ---- how an answer is settled

pub settled_error : {A : Type 0} (at : Spot) (room : ℕ) (reading : Reading Within A) (s : Standing) (state : State) (failed : Option Fail) (w : World) → s.world ≡ w → s.failure ≡ failed → ReadsKept (keep at room) reading (Err (Fails state)) s
    → EndsAs (settles reading at) (Err (error_of failed state at w)) s
settled_error at room reading s state (Some f) w same is reads = ends_failed at room reading s state f reads is
settled_error {A} at room reading s state None w same is reads = subst (λ (v : World). EndsAs (settles reading at) (Err (arises (as_run_state state) at v)) s) same (ends_failing at room reading s state reads is)
