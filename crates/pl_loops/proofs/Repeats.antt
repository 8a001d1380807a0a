-- The turns of loops.
use Rattle.std.proofs.Common.{◌≡◌, ◌<◌, ◌≤◌, ◌+◌, ◌-◌, ◌∙◌, ℕ, ℤ, zero, suc, Bool, true, false, List, [], ◌∷◌, Option, Some, None, Result, Err, ap, arith, if◌then◌else◌, refl, sym}
use Rattle.pl_base.specs.States.{QUERY_CANCELED}
use Rattle.pl_base.specs.declared.value.Value.TheVariants.{Int}
use Rattle.pl_bodies.specs.declared.statement.Statement.{Statement}
use Rattle.pl_engine.proofs.Joins.{Lawful, becomes, ended, on, quietly, start, stopped, within}
use Rattle.pl_engine.specs.Answers.{Done, Partway, Stopped}
use Rattle.pl_engine.specs.Engines.{world}
use Rattle.pl_engine.specs.declared.engine.Engine.{Engine}
use Rattle.pl_engine.specs.declared.port.Port.{Ghosts}
use Rattle.pl_engine.specs.declared.stop.Stop.{Stop}
use Rattle.pl_flow.proofs.Asked.{by}
use Rattle.pl_flow.proofs.Sequences.{and_then_assoc, and_then_same, behind_none, stepped_seq, tested_seq}
use Rattle.pl_loops.specs.Turns.{goes, going_of, no_round, round, turn_end}
use Rattle.pl_names.specs.Names.{Name}
use Rattle.pl_tree.specs.declared.tree.Expr.{Expr}
use Rattle.pl_engine.specs.pl_world.Control.{Test, after_turn, each, forever, is_own, loop, tested, turn, turns}
use Rattle.pl_engine.specs.pl_world.Errors.{Spot, raised}
use Rattle.pl_engine.specs.pl_world.Running.{Runner, all, stepped}
use Rattle.pl_engine.specs.pl_world.Variables.{with_value}
use Rattle.pl_engine.specs.pl_world.World.{Ran, World, and_then, behind, ends}
use Rattle.pl_engine.specs.pl_world.declared.outcome.Outcome.{Outcome}
use Rattle.pl_engine.specs.pl_world.declared.outcome.Outcome.TheVariants as outcome

-- ---- what is behind a turn

abbrev pub later : (World → Ran Outcome) → Unit {0} → World → Ran Outcome
later k u w = k w

abbrev pub on_goes : (World → Ran Outcome) → Outcome → World → Ran Outcome
on_goes k o w = by (going_of o) (later k) w

-- ---- a turn

own_or : (b : Bool) (k : World → Ran Outcome) (o : Outcome) (w : World) → going_of o ≡ Err o → if b then k w else ends o w ≡ and_then (if b then goes w else ends o w) (on_goes k)
own_or true k o w is = behind_none (k w)
own_or false k o w is = ap (λ (x : Result (Unit {0}) Outcome). behind [] (by x (later k) w)) (sym is)

next_or : (b : Bool) (k : World → Ran Outcome) (to : Option Name) (w : World)
    → if b then ends outcome.Next w else ends (outcome.Exit to) w ≡ and_then (if b then ends outcome.Next w else ends (outcome.Exit to) w) (on_goes k)
next_or true k to w = refl
next_or false k to w = refl

after_turn_is : (label : Option Name) (k : World → Ran Outcome) (o : Outcome) (w : World) → after_turn label k o w ≡ and_then (after_turn label goes o w) (on_goes k)
after_turn_is label k outcome.Next w = behind_none (k w)
after_turn_is label k (outcome.Exit to) w = next_or (is_own label to) k to w
after_turn_is label k (outcome.Continue None) w = behind_none (k w)
after_turn_is label k (outcome.Continue (Some to)) w = own_or (is_own label (Some to)) k (outcome.Continue (Some to)) w refl
after_turn_is label k (outcome.Return v) w = refl
after_turn_is label k (outcome.Fail f) w = refl

pub turn_is : (r : Runner) (at : Spot) (label : Option Name) (body : List Statement) (w : World) (k : World → Ran Outcome) → turn r at label body w k ≡ and_then (turn r at label body w goes) (on_goes k)
unfolding turn
turn_is r at label body w k = stepped_seq (on_goes k) (λ f w. refl) at w (λ w. and_then (all r body w) (after_turn label k)) (λ w. and_then (all r body w) (after_turn label goes))
    (λ w. and_then_same (all r body w) (after_turn label k) (λ o w. and_then (after_turn label goes o w) (on_goes k)) (after_turn_is label k) ∙ and_then_assoc (all r body w) (after_turn label goes) (on_goes k))

-- how a turn ends is told by how its statements did
turn_end_by : (b : Bool) (o o' : Outcome) (w : World) → if b then ends o w else ends o' w ≡ ends (if b then o else o') w
turn_end_by true o o' w = refl
turn_end_by false o o' w = refl

turn_end_is : (label : Option Name) (o : Outcome) (w : World) → after_turn label goes o w ≡ ends (turn_end label o) w
turn_end_is label outcome.Next w = refl
turn_end_is label (outcome.Exit to) w = turn_end_by (is_own label to) outcome.Next (outcome.Exit to) w
turn_end_is label (outcome.Continue to) w = turn_end_by (is_own label to) (outcome.Continue None) (outcome.Continue to) w
turn_end_is label (outcome.Return v) w = refl
turn_end_is label (outcome.Fail f) w = refl

turn_opened : (r : Runner) (at : Spot) (label : Option Name) (body : List Statement) (w : World) → turn r at label body w goes ≡ stepped at w (λ w. and_then (all r body w) (after_turn label goes))
unfolding turn
turn_opened r at label body w = refl

abbrev pub turned : Runner → Option Name → List Statement → World → Ran Outcome
turned r label body w = and_then (all r body w) (after_turn label goes)

module _ {P : Type 0} {port : Ghosts P} (law : Lawful port) (r : Runner) (at : Spot) (label : Option Name) (body : List Statement) where
  pub turn_start : (e : Engine) (p : P) → port.fits (world e).last p → Partway port (turn r at label body (world e) goes) (stepped at (world e) (turned r label body)) e e p p
  turn_start e p fits = becomes law (start law (turn r at label body (world e) goes) e p fits) (turn_opened r at label body (world e))

  module _ {whole : Ran Outcome} {old mid : Engine} {p m : P} (way : Partway port whole (turned r label body (world mid)) old mid p m) where
    pub turn_done : {new : Engine} {q : P} (o end : Outcome) → Done port (all r body (world mid)) o mid new m q → end ≡ turn_end label o → Done port whole end old new p q
    turn_done {new} {q} o end d is = ended law (becomes law (on law (after_turn label goes) way d) (turn_end_is label o (world new) ∙ ap (λ (x : Outcome). ends x (world new)) (sym is))) refl

    pub turn_stopped : {q : P} {stop : Stop} → Stopped port (all r body (world mid)) stop mid m q → Stopped port whole stop old p q
    turn_stopped s = stopped law way (within law (after_turn label goes) s)

-- ---- LOOP

module _ (r : Runner) (at : Spot) (label : Option Name) (body : List Statement) where
  abbrev pub further_turns : ℕ → World → Ran Outcome
  further_turns n w = turns n r at label forever body w

  one_more : (n : ℕ) (w : World) → turns (suc n) r at label forever body w ≡ turn r at label body w (further_turns n)
  unfolding turns
  one_more n w = refl

  none_left : (w : World) → turns zero r at label forever body w ≡ raised QUERY_CANCELED at w
  unfolding turns
  none_left w = refl

  loop_is : (test : Test) (w : World) → loop r at label test body w ≡ turns r.room r at label test body w
  unfolding loop
  loop_is test w = refl

  module _ {P : Type 0} {port : Ghosts P} (law : Lawful port) where
    pub loop_start : (test : Test) (e : Engine) (p : P) → port.fits (world e).last p → Partway port (loop r at label test body (world e)) (turns (r.room - 0) r at label test body (world e)) e e p p
    loop_start test e p fits = let none : r.room ≡ r.room - 0 = omega arith in
        becomes law (start law (loop r at label test body (world e)) e p fits) (loop_is test (world e) ∙ ap (λ (n : ℕ). turns n r at label test body (world e)) none)

    module _ {whole : Ran Outcome} {old mid : Engine} {p m : P} (room t : ℕ) (way : Partway port whole (turns (room - t) r at label forever body (world mid)) old mid p m) where
      pub forever_here : t < room → Partway port whole (and_then (turn r at label body (world mid) goes) (on_goes (further_turns (room - (t + 1))))) old mid p m
      forever_here lt = let more : room - t ≡ suc (room - (t + 1)) = omega (arith, lt) in
          becomes law way (ap (λ (n : ℕ). turns n r at label forever body (world mid)) more ∙ (one_more (room - (t + 1)) (world mid) ∙ turn_is r at label body (world mid) (further_turns (room - (t + 1)))))

      pub forever_end : room ≤ t → Partway port whole (raised QUERY_CANCELED at (world mid)) old mid p m
      forever_end le = let none : room - t ≡ 0 = omega (arith, le) in
          becomes law way (ap (λ (n : ℕ). turns n r at label forever body (world mid)) none ∙ none_left (world mid))

-- ---- WHILE

module _ (r : Runner) (at : Spot) (label : Option Name) (e : Expr) (body : List Statement) where
  abbrev pub rounds : ℕ → World → Ran Outcome
  rounds n w = turns n r at label (tested r at e) body w

  abbrev rounded : (World → Ran Outcome) → Bool → World → Ran Outcome
  rounded k is w = if is then turn r at label body w k else ends outcome.Next w

  rounded_is : (k : World → Ran Outcome) (is : Bool) (w : World) → rounded k is w ≡ and_then (rounded goes is w) (on_goes k)
  rounded_is k true w = turn_is r at label body w k
  rounded_is k false w = refl

  round_is : (k : World → Ran Outcome) (w : World) → tested r at e w (rounded k) ≡ and_then (round r at label (tested r at e) body w) (on_goes k)
  round_is k w = tested_seq (on_goes k) (λ f w. refl) r at e w (rounded k) (rounded goes) (rounded_is k)

  one_round : (n : ℕ) (w : World) → turns (suc n) r at label (tested r at e) body w ≡ tested r at e w (rounded (rounds n))
  unfolding turns
  one_round n w = refl

  last_round : (w : World) → turns zero r at label (tested r at e) body w ≡ no_round at (tested r at e) w
  unfolding turns
  last_round w = refl

  module _ {P : Type 0} {port : Ghosts P} (law : Lawful port) {whole : Ran Outcome} {old mid : Engine} {p m : P} (room t : ℕ) (way : Partway port whole (turns (room - t) r at label (tested r at e) body (world mid)) old mid p m) where
    pub while_here : t < room → Partway port whole (and_then (round r at label (tested r at e) body (world mid)) (on_goes (rounds (room - (t + 1))))) old mid p m
    while_here lt = let more : room - t ≡ suc (room - (t + 1)) = omega (arith, lt) in
        becomes law way (ap (λ (n : ℕ). turns n r at label (tested r at e) body (world mid)) more ∙ (one_round (room - (t + 1)) (world mid) ∙ round_is (rounds (room - (t + 1))) (world mid)))

    pub while_end : room ≤ t → Partway port whole (no_round at (tested r at e) (world mid)) old mid p m
    while_end le = let none : room - t ≡ 0 = omega (arith, le) in
        becomes law way (ap (λ (n : ℕ). turns n r at label (tested r at e) body (world mid)) none ∙ last_round (world mid))

-- ---- FOR

module _ (r : Runner) (at : Spot) (label : Option Name) (to : ℕ) (body : List Statement) where
  abbrev pub each_later : List ℤ → World → Ran Outcome
  each_later is w = each r at label to body is w

  each_more : (i : ℤ) (is : List ℤ) (w : World) → each r at label to body (i ∷ is) w ≡ turn r at label body (with_value to (Int i) w) (each_later is)
  unfolding each
  each_more i is w = refl

  each_none : (w : World) → each r at label to body [] w ≡ ends outcome.Next w
  unfolding each
  each_none w = refl

  module _ {P : Type 0} {port : Ghosts P} (law : Lawful port) {whole : Ran Outcome} {old mid : Engine} {p m : P} (zs : List ℤ) (way : Partway port whole (each r at label to body zs (world mid)) old mid p m) where
    pub each_here : (new : Engine) (i : ℤ) (is : List ℤ) → zs ≡ i ∷ is → world new ≡ with_value to (Int i) (world mid)
        → Partway port whole (and_then (turn r at label body (world new) goes) (on_goes (each_later is))) old new p m
    each_here new i is more set = quietly law
        (becomes law way (ap (λ (xs : List ℤ). each r at label to body xs (world mid)) more ∙ (each_more i is (world mid)
        ∙ (ap (λ (w : World). turn r at label body w (each_later is)) (sym set) ∙ turn_is r at label body (world new) (each_later is)))))
        (ap (λ (w : World). w.steps) set) (ap (λ (w : World). w.last) set)

    pub each_end : zs ≡ [] → Done port whole outcome.Next old mid p m
    each_end none = ended law (becomes law way (ap (λ (xs : List ℤ). each r at label to body xs (world mid)) none ∙ each_none (world mid))) refl
