-- Calls of routines whose statements only compute.
use Rattle.std.proofs.Common.{◌≡◌, ◌≤◌, ◌-◌, ◌∙◌, ◌&&◌, ◌==◌, ℕ, suc, Bool, true, false, List, [], ◌∷◌, ◌++◌, Option, None, Some, Ok, ap, append-nil, arith, if◌then◌else◌, length, map, nat_lt, refl, rules, subst, sym}
use Rattle.std.specs.Prelude.{IfSome}
use Rattle.pl_base.specs.States.{INTERNAL_ERROR, STATEMENT_TOO_COMPLEX}
use Rattle.pl_base.specs.declared.types.Ty.{Ty}
use Rattle.pl_base.specs.declared.value.Value.{Value}
use Rattle.pl_base.specs.declared.value.Value.TheVariants.{Bool as Truth}
use Rattle.pl_bodies.specs.declared.declaration.Declaration.{Declaration}
use Rattle.pl_bodies.specs.declared.simple.Simple.TheVariants as simple
use Rattle.pl_bodies.specs.declared.statement.Block.{Block, out-Block}
use Rattle.pl_bodies.specs.declared.statement.Body.{Body}
use Rattle.pl_bodies.specs.declared.statement.Handler.{Handler}
use Rattle.pl_bodies.specs.declared.statement.Statement.{Statement}
use Rattle.pl_calc.specs.Answer.{Answer}
use Rattle.pl_catalog.specs.Objects.{routine_named, routines_in}
use Rattle.pl_catalog.specs.declared.object.Routine.{Routine}
use Rattle.pl_direct.specs.Known.{value_of}
use Rattle.pl_direct.specs.declared.known.Known.{Known}
use Rattle.pl_direct.specs.pl_scope.declared.resolve.ResolvedExpr.{ResolvedExpr}
use Rattle.pl_engine.proofs.Joins.{behind_none}
use Rattle.pl_engine.specs.Texts.{do_bodies}
use Rattle.pl_engine.specs.pl_world.Assigning.{put}
use Rattle.pl_engine.specs.pl_world.Blocks.{all_declared, block, block_left, protected, within_block}
use Rattle.pl_engine.specs.pl_world.Calls.{Callee, Within, answered, called, called_by_name, called_if, callee_of, calls, can_be_called, entered, given, left, most_calls, popped, result_type}
use Rattle.pl_engine.specs.pl_world.Conversions.{as_type, converted, settled}
use Rattle.pl_engine.specs.pl_world.Errors.{Spot, raised}
use Rattle.pl_engine.specs.pl_world.Expressions.{begun, evaluated, inner, read, reads, value_over}
use Rattle.pl_engine.specs.pl_world.Running.{Runner, all, body, on_next, spot_of, stepped}
use Rattle.pl_engine.specs.pl_world.Statements.{Layer, form, run_within, runner_for, task_form}
use Rattle.pl_engine.specs.pl_world.Variables.{closed, entering, opened, opening, row_of}
use Rattle.pl_engine.specs.pl_world.World.{Event, Ran, Static, World, and_then, behind, ends}
use Rattle.pl_engine.specs.pl_world.declared.outcome.Outcome.{Outcome}
use Rattle.pl_engine.specs.pl_world.declared.outcome.Outcome.TheVariants as outcome
use Rattle.pl_names.specs.Names.{Name}
use Rattle.pl_quick.proofs.Computing.{alike, becomes, further, on, one_step}
use Rattle.pl_quick.proofs.Forms.{call_layer, call_out, opened as opened_act}
use Rattle.pl_quick.proofs.Values.{assigned_by, converts, of_simple}
use Rattle.pl_quick.specs.Acts.{AreFor, Calls as CallsIt, IsFor, IsForForm, IsGiven, IsPlain, Pairwise, names_inside}
use Rattle.pl_quick.specs.Calling.{AllRead, Enters, Leaves, given_to}
use Rattle.pl_quick.specs.Computing.{AllCompute, Computes, FormComputes, outcome_of}
use Rattle.pl_quick.specs.Scratch.{computed_to, in_world}
use Rattle.pl_quick.specs.declared.act.Act.{Act, out-Act}
use Rattle.pl_quick.specs.declared.act.Act.TheVariants as act
use Rattle.pl_quick.specs.declared.act.Assign.{Assign}
use Rattle.pl_quick.specs.declared.acting.End.{End}
use Rattle.pl_quick.specs.declared.acting.End.TheVariants as end
use Rattle.pl_quick.specs.declared.scratch.Scratch.{Scratch}
use Rattle.pl_resolved.specs.declared.expression.RArm.{RArm}
use Rattle.pl_resolved.specs.declared.expression.RCase.{RCase}
use Rattle.pl_resolved.specs.declared.expression.RChain.{RChain}
use Rattle.pl_resolved.specs.declared.expression.RExpr.{RExpr, out-RExpr, the_lemmas}
use Rattle.pl_resolved.specs.declared.expression.RExpr.TheOpen.{RExpr-F}
use Rattle.pl_resolved.specs.declared.expression.RExpr.TheOpen as le
use Rattle.pl_resolved.specs.declared.expression.RExpr.TheVariants as e
use Rattle.pl_resolved.specs.declared.expression.RPair.{RPair}
use Rattle.pl_resolved.specs.declared.expression.RStep.{RStep}
use Rattle.pl_value.specs.Frames.{Frame}
use Rattle.pl_value.specs.Meaning.{Calls, Sub, all_of, value}
use Rattle.pl_value.specs.Reading.{Reading, then_read}

-- ---- the value of a call

module _ {W : Type 0} (make : Calls W) (sub : Sub W) (frame : Frame) (w : W) where
  call_value : (name : Name) (ps : List RExpr) → value make sub (e.Call name ps) frame w ≡ all_of (make name) (map (value make sub) ps) frame w
  call_value name ps = first_of (search (rules, the_lemmas), grind (arith, the_lemmas))

module _ (r : Runner) (at : Spot) (w : World) where
  -- with its arguments it is called where it stands
  called_over : (x : ResolvedExpr) (name : Name) (arguments : List RExpr) (vs : List Value) → x.typed.tree ≡ e.Call name arguments → AllRead Within arguments (row_of w.frame) vs
      → value_over r at x (row_of w.frame) w ≡ answered [] (called_by_name r at false name vs w)
  called_over x name arguments vs is all =
      ap (λ (t : RExpr). value (calls r at) (inner r at x.queries w) t (row_of w.frame ∷ []) (begun w)) is
      ∙ (call_value (calls r at) (inner r at x.queries w) (row_of w.frame ∷ []) (begun w) name arguments
      ∙ ap (λ (q : Reading Within (List Value)). then_read q (λ vs w. calls r at name vs w)) (all.are (calls r at) (inner r at x.queries w) (begun w)))

  answered_on : (ran : Ran Outcome) (es : List Event) (v : Value) (next : World) (go : Value → World → Ran Outcome) → ran ≡ behind es (ends (outcome.Return v) next) → read (answered [] ran) at go ≡ behind es (go v next)
  unfolding reads
  answered_on ran es v next go is = ap (λ (ran : Ran Outcome). read (answered [] ran) at go) is ∙ ap (λ (xs : List Event). behind xs (go v next)) (append-nil es)

  evaluated_as : (x : ResolvedExpr) (go : Value → World → Ran Outcome) → evaluated r at x w go ≡ read (value_over r at x (row_of w.frame) w) at go
  unfolding evaluated
  evaluated_as x go = refl

  -- what it returns goes on
  gives_on : (x : ResolvedExpr) (name : Name) (arguments : List RExpr) (vs : List Value) (v : Value) (next : World) (go : Value → World → Ran Outcome) → x.typed.tree ≡ e.Call name arguments → AllRead Within arguments (row_of w.frame) vs
      → Computes (called_by_name r at false name vs w) (ends (outcome.Return v) next) w next → Computes (evaluated r at x w go) (go v next) w next
  gives_on x name arguments vs v next go is all c = record {
    events = c.events;
    goes_on = evaluated_as x go ∙ (ap (λ (q : Reading Within Value). read q at go) (called_over x name arguments vs is all) ∙ answered_on (called_by_name r at false name vs w) c.events v next go c.goes_on);
    silent = c.silent;
    spent = c.spent;
  }

-- ---- which routine is called

same_count : (a b : ℕ) → a ≡ b → (a == b) ≡ true
same_count a b is = first_of (search rules, grind arith)

can_be : (vs : List Value) (routine : Routine) (count : ℕ) → IsPlain routine count → length vs ≡ count → can_be_called false vs routine ≡ true
can_be vs routine count plain is =
    ap (λ (b : Bool). b && (length vs == length routine.heading.params)) plain.is_function ∙ same_count (length vs) (length routine.heading.params) (is ∙ sym plain.takes)

named_is : (r : Runner) (at : Spot) (routine : Routine) (name : Name) (vs : List Value) (w : World) → routine_named name (routines_in w.database.objects) ≡ Some routine → can_be_called false vs routine ≡ true
    → called_by_name r at false name vs w ≡ called r (callee_of false routine) vs at w
named_is r at routine name vs w is can =
    ap (λ (o : Option Routine). called_if o false r vs at w) is
    ∙ ap (λ (b : Bool). if b then called r (callee_of false routine) vs at w else raised INTERNAL_ERROR at w) can

called_is : (r : Runner) (c : Callee) (vs : List Value) (at : Spot) (w : World) → nat_lt (length w.below) most_calls ≡ true → called r c vs at w ≡ and_then (r.run (body c.body) (entered c vs w)) (left c)
unfolding called
called_is r c vs at w is = ap (λ (b : Bool). if b then and_then (r.run (body c.body) (entered c vs w)) (left c) else raised STATEMENT_TOO_COMPLEX at w) is

-- ---- its body

body_is : (n : ℕ) (b : Body) (w : World) → run_within do_bodies (suc n) (body b) w ≡ stepped (spot_of (body b)) w (λ w. task_form (runner_for do_bodies n) (body b) w)
unfolding run_within
body_is n b w = refl

block_is : (r : Runner) (b : Body) (w : World) → task_form r (body b) w ≡ and_then (within_block r (spot_of (body b)) b.block (opened (out-Block b.block).label w)) (block_left (out-Block b.block).label)
unfolding task_form block
block_is r b w = refl

-- a block that neither declares nor catches does its statements
within_is : (r : Runner) (at : Spot) (b : Block) (w : World) → (out-Block b).declarations ≡ [] → (out-Block b).handlers ≡ [] → within_block r at b w ≡ all r (out-Block b).statements w
unfolding within_block all_declared protected
within_is r at b w none no_handlers =
    ap (λ (ds : List Declaration). and_then (all_declared r at ds w) (on_next (protected r (out-Block b).label (out-Block b).statements (out-Block b).handlers))) none
    ∙ (sym (behind_none (protected r (out-Block b).label (out-Block b).statements (out-Block b).handlers w))
    ∙ ap (λ (hs : List Handler). protected r (out-Block b).label (out-Block b).statements hs w) no_handlers)

block_ends : (label : Option Name) (v : Value) (w : World) → block_left label (outcome.Return v) w ≡ ends (outcome.Return v) (closed w)
unfolding block_left
block_ends label v w = refl

-- what RETURN gave, as one of the result's type
left_is : (c : Callee) (ty : Ty) (v x : Value) (w : World) → c.result ≡ Some ty → converted ty v ≡ Ok x → left c (outcome.Return v) w ≡ ends (outcome.Return x) (popped w)
unfolding left as_type
left_is c ty v x w due is =
    ap (λ (t : Option Ty). and_then (given t (outcome.Return v) (spot_of (body c.body)) w) (λ o w. ends o (popped w))) due
    ∙ ap (λ (a : Answer). and_then (settled a (spot_of (body c.body)) w (λ v w. ends (outcome.Return v) w)) (λ o w. ends o (popped w))) is

-- ---- its world

-- a call of the routine, in its block
abbrev in_block : Routine → List Value → World → World
in_block routine vs w = opened (out-Block routine.body.block).label (entered (callee_of false routine) vs w)

entered_steps : (c : Callee) (vs : List Value) (w : World) → (entered c vs w).steps ≡ w.steps
unfolding entered
entered_steps c vs w = refl

-- it begins with the arguments and FOUND, behind its step
begins : (routine : Routine) (vs : List Value) (w : World) (i : Scratch) → i.values ≡ vs ++ Truth false ∷ []
    → opened (out-Block routine.body.block).label (record (entered (callee_of false routine) vs w) { steps = i.steps }) ≡ in_world i (in_block routine vs w)
unfolding opened entered
begins routine vs w i is = ap (λ (values : List Value). computed_to values i.steps (in_block routine vs w)) (sym is)

-- of it nothing is left but the steps
ends_call : (routine : Routine) (vs : List Value) (w : World) (i : Scratch) → popped (closed (in_world i (in_block routine vs w))) ≡ record w { steps = i.steps }
unfolding popped closed opened entered
ends_call routine vs w i = refl

closed_steps : (w : World) → (closed w).steps ≡ w.steps
unfolding closed
closed_steps w = refl

-- the acts are what its statements do
stands_within : (n : ℕ) (routine : Routine) (vs : List Value) (w : World) (ty : Ty) (inside : Static) (acts : List Act) (ss : List Statement) → result_type routine.heading.result ≡ Some ty → inside ≡ names_inside routine ty → ss ≡ (out-Block routine.body.block).statements
    → Pairwise (IsFor w.database.objects n (suc (length w.below)) inside) acts ss → AreFor n acts (out-Block routine.body.block).statements (in_block routine vs w)
unfolding opened entered
stands_within n routine vs w ty inside acts ss gives names statements stand =
    subst (λ (t : Option Ty). Pairwise (IsFor w.database.objects n (suc (length w.below)) (opening (out-Block routine.body.block).label (entering routine.name routine.heading.params t))) acts (out-Block routine.body.block).statements) (sym gives)
    (subst (λ (st : Static). Pairwise (IsFor w.database.objects n (suc (length w.below)) st) acts (out-Block routine.body.block).statements) names
    (subst (λ (ss : List Statement). Pairwise (IsFor w.database.objects n (suc (length w.below)) inside) acts ss) statements stand))

-- ---- the whole call

module _ (room : ℕ) (at : Spot) (w : World) (routine : Routine) (ty : Ty) (vs : List Value) (count : ℕ) (i j : Scratch) (v x : Value) (le : w.steps ≤ room) (plain : IsPlain routine count) (gives : result_type routine.heading.result ≡ Some ty)
    (variables : i.values ≡ vs ++ Truth false ∷ []) (steps : w.steps ≡ suc i.steps) (is : converted ty v ≡ Ok x)
    (does : AllCompute (out-Block routine.body.block).statements (outcome.Return v) (in_world i (in_block routine vs w)) (in_world j (in_block routine vs w))) where
  abbrev c : Callee
  c = callee_of false routine

  abbrev there : World
  there = in_block routine vs w

  abbrev begun_call : World
  begun_call = record (entered c vs w) { steps = i.steps }

  abbrev fewer : Runner
  fewer = runner_for do_bodies (room - 1)

  its_body : Computes (task_form fewer (body routine.body) begun_call) (ends (outcome.Return v) (closed (in_world j there))) begun_call (closed (in_world j there))
  its_body =
      let less : i.steps ≤ room - 1 = let taken = steps in omega (arith, taken, le) in
      let ran = does (room - 1) less in
      alike
      (block_is fewer routine.body begun_call
      ∙ (ap (λ (w : World). and_then (within_block fewer (spot_of (body routine.body)) routine.body.block w) (block_left (out-Block routine.body.block).label)) (begins routine vs w i variables)
      ∙ ap (λ (q : Ran Outcome). and_then q (block_left (out-Block routine.body.block).label)) (within_is fewer (spot_of (body routine.body)) routine.body.block (in_world i there) plain.no_declarations plain.no_handlers)))
      (block_ends (out-Block routine.body.block).label v (in_world j there)) refl (closed_steps (in_world j there)) (on (block_left (out-Block routine.body.block).label) ran)

  its_run : Computes (run_within do_bodies room (body routine.body) (entered c vs w)) (ends (outcome.Return v) (closed (in_world j there))) (entered c vs w) (closed (in_world j there))
  its_run =
      let more : room ≡ suc (room - 1) = let taken = steps in omega (arith, taken, le) in
      becomes (ap (λ (n : ℕ). run_within do_bodies n (body routine.body) (entered c vs w)) more ∙ body_is (room - 1) routine.body (entered c vs w))
      (further (one_step (spot_of (body routine.body)) (entered c vs w) i.steps (λ w. task_form fewer (body routine.body) w) (entered_steps c vs w ∙ steps)) its_body)

  pub call_computes : nat_lt (length w.below) most_calls ≡ true → Computes (called (runner_for do_bodies room) c vs at w) (ends (outcome.Return x) (record w { steps = j.steps })) w (record w { steps = j.steps })
  call_computes room_for =
      alike (called_is (runner_for do_bodies room) c vs at w room_for)
      (left_is c ty v x (closed (in_world j there)) gives is ∙ ap (λ (w : World). ends (outcome.Return x) w) (ends_call routine vs w j)) (sym (entered_steps c vs w)) (sym (closed_steps (in_world j there))) (on (left c) its_run)

-- ---- as an act

-- what holds in each world holds of what there is
pub each_world : (P : World → Outcome → Type 0) (x : Option Outcome) → ((w : World) → IfSome x (P w)) → IfSome x (λ o. (w : World) → P w o)
each_world P None every = tt
each_world P (Some o) every = every

returned_as : (P : Outcome → Type 0) (e : End) (k : Known) → e ≡ end.Return k → IfSome (outcome_of e) P → P (outcome.Return (value_of k))
returned_as P e k is some = subst (λ (e : End). IfSome (outcome_of e) P) is some

-- the level of a call, and what it lists
abbrev expr_layer : Type 0
expr_layer = RExpr-F RExpr RArm RCase RChain RPair RStep

abbrev called_layer : Name → List RExpr → expr_layer
called_layer n xs = le.Call n xs

abbrev listed : expr_layer → List RExpr
listed (le.Call n xs) = xs
listed x = []

called_out : (n : Name) (xs : List RExpr) → out-RExpr (e.Call n xs) ≡ called_layer n xs
called_out n xs = first_of (search (rules, the_lemmas), grind (arith, the_lemmas))

call_same : (n m : Name) (xs ys : List RExpr) → e.Call n xs ≡ e.Call m ys → (n ≡ m) × (xs ≡ ys)
call_same n m xs ys is = (cc, ap listed (sym (called_out n xs) ∙ (ap (λ (x : RExpr). out-RExpr x) is ∙ called_out m ys)))

pub call_does : (n : ℕ) (k : Layer) (w : World) (a : Act) (x x' : Assign) (ty ty' : Ty) (acts acts' : List Act) (o : Outcome) (s i j t : Scratch) (end_of : End) → a ≡ act.Call x ty acts → x' ≡ x → ty' ≡ ty → acts' ≡ acts → Enters x'.value s i
    → ((w : World) → IfSome (outcome_of end_of) (λ o. (n : ℕ) (ss : List Statement) → AreFor n acts' ss w → AllCompute ss o (in_world i w) (in_world j w))) → Leaves end_of x' ty' j.steps o s t → IsForForm n a k w → FormComputes k o (in_world s w) (in_world t w)
call_does n k w a x x' ty ty' acts acts' o s i j t end_of is same same-ty same-acts enters does leaves stands room at le =
    let r = runner_for do_bodies room in
    let w0 = in_world s w in
    let stood = opened_act n k w a (call_layer x ty acts) (ap (λ (a : Act). out-Act a) is ∙ call_out x ty acts) stands in
    let given' = subst (λ (x : Assign). IsGiven x stood.0 stood.1 w) (sym same) stood.5 in
    let calls_it = subst (λ (ty : Ty). CallsIt w.database.objects (length w.below) x'.value ty stood.2 stood.3) (sym same-ty) (subst (λ (x : Assign). CallsIt w.database.objects (length w.below) x.value ty stood.2 stood.3) (sym same) stood.6) in
    let within = stands_within n calls_it.routine enters.vs w0 ty' stood.2 acts' stood.3 calls_it.gives calls_it.names calls_it.statements
    (subst (λ (acts : List Act). Pairwise (IsFor w.database.objects n (suc (length w.below)) stood.2) acts stood.3) (sym same-acts) stood.7) in
    let ran = returned_as _ end_of leaves.known leaves.returned (does (in_block calls_it.routine enters.vs w0)) n (out-Block calls_it.routine.body.block).statements within in
    let call_is : e.Call calls_it.name calls_it.arguments ≡ e.Call enters.name enters.arguments = sym calls_it.is_call ∙ enters.is_call in
    let same_call = call_same calls_it.name enters.name calls_it.arguments enters.arguments call_is in
    let name_is = same_call.0 in
    let arguments_are = same_call.1 in
    let counted : length enters.vs ≡ length calls_it.arguments = enters.read.count ∙ sym (ap (λ (xs : List RExpr). length xs) arguments_are) in
    let found : routine_named enters.name (routines_in w0.database.objects) ≡ Some calls_it.routine = subst (λ (name : Name). routine_named name (routines_in w0.database.objects) ≡ Some calls_it.routine) name_is calls_it.found in
    let called_there = becomes (named_is r at calls_it.routine enters.name enters.vs w0 found (can_be enters.vs calls_it.routine (length calls_it.arguments) calls_it.plain counted))
    (call_computes room at w0 calls_it.routine ty' enters.vs (length calls_it.arguments) i j (value_of leaves.known) leaves.v le calls_it.plain calls_it.gives enters.variables enters.steps (converts ty' leaves.known leaves.v leaves.fits) ran calls_it.room) in
    let next = computed_to s.values j.steps w in
    let go = λ (v : Value) (w : World). put (given_to x' given'.is_required) v at w in
    alike (ap (λ (k : Layer). form r at k w0) stood.4 ∙ (of_simple r at w0 (simple.Assign stood.0 stood.1) ∙ assigned_by r at w0 stood.0 stood.1 (given_to x' given'.is_required) x'.value given'.aims given'.reads))
    (leaves.puts w at given'.is_required) refl leaves.steps_left (gives_on r at w0 x'.value enters.name enters.arguments enters.vs leaves.v next go enters.is_call enters.read called_there)
