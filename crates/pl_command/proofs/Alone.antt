-- A command that is a transaction of its own: how it ends, behind what it did.
use Rattle.std.proofs.Common.{◌≡◌, ◌∙◌, List, [], ◌∷◌, Option, Some, None, Result, Ok, Err, append-nil, ap, false, is_some, length, refl, subst, sym, true}
use Rattle.std.proofs.lemmas.List.{nil_from_length}
use Rattle.std.specs.Result.{IsErrOf}
use Rattle.pl_base.specs.declared.fail.Fail.{Fail}
use Rattle.pl_command.proofs.Mapped.{mapped, mapped_done, mapped_stopped}
use Rattle.pl_command.specs.Ends.{IsIdle, as_ran}
use Rattle.pl_control.proofs.of_pl_engine.Joins.{Lawful, acted, becomes, on, start, stopped, within}
use Rattle.pl_control.proofs.of_pl_engine.Tells.{untaken}
use Rattle.pl_control.specs.pl_engine.Answers.{Done, Partway, Stopped}
use Rattle.pl_control.specs.pl_engine.Engines.{Kept, Quiet, kept, world}
use Rattle.pl_control.specs.pl_engine.declared.engine.Engine.{Engine}
use Rattle.pl_control.specs.pl_engine.declared.port.Port.{Ghosts}
use Rattle.pl_control.specs.pl_engine.declared.stop.Stop.{Stop}
use Rattle.pl_control.specs.pl_engine.declared.stop.Stop.TheVariants.{Memory}
use Rattle.pl_world.specs.Laws.{end_of}
use Rattle.pl_world.specs.Sessions.{alone, ended_alone, over}
use Rattle.pl_world.specs.Transactions.{committed}
use Rattle.pl_world.specs.World.{Committed, Event, Ran, World, and_then, ends, made}
use Rattle.pl_world.specs.declared.outcome.Outcome.{Outcome}
use Rattle.pl_world.specs.declared.session.Reply.{Reply}

-- a command that answers this does nothing more, and ends
abbrev pub settled : Reply → World → Ran Reply
settled answer w = as_ran (alone (ends answer w))

-- ---- how it ends

abbrev answering : Reply → Outcome → Reply
answering answer o = answer

abbrev ended : Option Fail → Reply → List Event → World → Ran Reply
ended fail answer es w = as_ran (ended_alone fail answer es w)

module _ (answer : Reply) (w : World) where
  undone_is : (f : Fail) → answer.fail ≡ Some f → settled answer w ≡ ends answer (over w.last w.last w).world
  undone_is f is = ap (λ (fail : Option Fail). ended fail answer [] w) is

  back : IsIdle w → (over w.last w.last w).world ≡ record w { database = w.last; depth = 0 }
  back idle = λ i. record w { database = w.last; depth = 0; in_block = sym idle.in_block i }

  forth : IsIdle w → (over w.database w.database w).world ≡ record w { last = w.database }
  forth idle = λ i. record w { last = w.database; depth = sym idle.depth i; in_block = sym idle.in_block i }

  committed_is : IsIdle w → answer.fail ≡ None → mapped (answering answer) (committed w) ≡ settled answer w
  committed_is idle is =
      ap (λ (x : World). made x answer (Committed w.database ∷ [])) (sym (forth idle))
      ∙ sym (ap (λ (fail : Option Fail). ended fail answer [] w) is)

answers_so : (fail : Option Fail) (answer : Reply) (w : World) → end_of (ended fail answer [] w) ≡ answer
answers_so (Some f) answer w = refl
answers_so None answer w = refl

-- what it answers stays
pub same_answer : (answer found : Reply) (w now : World) (es : List Event) → settled answer w ≡ made now found es → answer ≡ found
same_answer answer found w now es is = sym (answers_so answer.fail answer w) ∙ ap (λ (ran : Ran Reply). end_of ran) is

pub undone_kept : (old new : Engine) → IsIdle (world old) → kept new ≡ record (kept old) { marks = [] } → kept new ≡ kept old
undone_kept old new idle reset =
    let none : (kept old).marks ≡ [] = nil_from_length (kept old).marks idle.depth in
    reset ∙ (λ i. record (kept old) { marks = sym none i })

pub some_of : (fail : Option Fail) → is_some fail ≡ true → (f : Fail) × (fail ≡ Some f)
some_of (Some f) is = (f, refl)
some_of None is = absurd cc

pub none_of : (fail : Option Fail) → is_some fail ≡ false → fail ≡ None
none_of (Some f) is = absurd cc
none_of None is = refl

module _ {P : Type 0} {port : Ghosts P} (law : Lawful port) (answer : Reply) {old : Engine} {p : P} (idle : IsIdle (world old)) where
  pub undone : {new : Engine} (f : Fail) → answer.fail ≡ Some f → port.fits (world old).last p → world new ≡ record (world old) { database = (world old).last; depth = 0 } → Done port (settled answer (world old)) answer old new p p
  undone {new} f is fits reset =
      acted law (start law (settled answer (world old)) old p fits)
      (subst (λ (ran : Ran Reply). Quiet ran answer old new) (sym (undone_is answer (world old) f is))
      (back answer (world old) idle ∙ sym reset, refl, refl, refl, ap (λ (w : World). w.steps) reset, ap (λ (w : World). w.last) reset))

module _ {P : Type 0} {port : Ghosts P} (answer : Reply) {old : Engine} {p q : P} (idle : IsIdle (world old)) (fine : answer.fail ≡ None) where
  pub kept_on : {new : Engine} (o : Outcome) → Done port (committed (world old)) o old new p q → Done port (settled answer (world old)) answer old new p q
  kept_on {new} o d = subst (λ (ran : Ran Reply). Done port ran answer old new p q) (committed_is answer (world old) idle fine) (mapped_done (answering answer) d)

  pub kept_off : {stop : Stop} → Stopped port (committed (world old)) stop old p q → Stopped port (settled answer (world old)) stop old p q
  kept_off {stop} s = subst (λ (ran : Ran Reply). Stopped port ran stop old p q) (committed_is answer (world old) idle fine) (mapped_stopped (answering answer) s)

-- ---- want of memory

abbrev stop_in : {A : Type 0} → Result A Stop → Stop
stop_in (Ok x) = Memory
stop_in (Err stop) = stop

pub stop_is : {A : Type 0} (stop : Stop) → (let r : Result A Stop = Err stop in IsErrOf r Memory) → stop ≡ Memory
stop_is {A} stop is = ap (λ (r : Result A Stop). stop_in r) is

-- it is the same error, whatever there would have been
pub same_stop : {A B : Type 0} (stop : Stop) → (let r : Result A Stop = Err stop in IsErrOf r Memory) → (let r : Result B Stop = Err stop in IsErrOf r Memory)
same_stop {A} {B} stop is = ap (λ (s : Stop). let r : Result B Stop = Err s in r) (stop_is {A = A} stop is)

-- ---- behind what it did

alone_by : (fail : Option Fail) (answer : Reply) (es : List Event) (w : World) → ended fail answer es w ≡ (let k : Reply → World → Ran Reply = λ a w. ended fail a [] w in and_then (made w answer es) k)
alone_by (Some f) answer es w = ap (λ (xs : List Event). made (over w.last w.last w).world answer xs) (sym (append-nil es))
alone_by None answer es w = refl

pub alone_is : (ran : Ran Reply) → as_ran (alone ran) ≡ and_then ran settled
alone_is (made w answer es) = alone_by answer.fail answer es w

then_ends : {A : Type 0} (ran : Ran A) → ran ≡ and_then ran ends
then_ends (made w x es) = ap (λ (xs : List Event). made w x xs) (sym (append-nil es))

pub still_idle : (old new : Engine) → kept new ≡ kept old → IsIdle (world old) → IsIdle (world new)
still_idle old new is idle = record {
  depth = ap (λ (k : Kept). length k.marks) is ∙ idle.depth;
  in_block = ap (λ (k : Kept). k.in_block) is ∙ idle.in_block;
}

module _ {P : Type 0} {port : Ghosts P} (law : Lawful port) (ran : Ran Reply) {old : Engine} {p : P} where
  pub ready : {answer : Reply} {mid : Engine} {q : P} → port.fits (world old).last p → Done port ran answer old mid p q → Partway port (as_ran (alone ran)) (settled answer (world mid)) old mid p q
  ready fits d = on law settled (becomes law (start law (as_ran (alone ran)) old p fits) (alone_is ran)) d

  pub broken : {stop : Stop} {q : P} → Stopped port ran stop old p q → Stopped port (as_ran (alone ran)) stop old p q
  broken {stop} {q} s = subst (λ (whole : Ran Reply). Stopped port whole stop old p q) (sym (alone_is ran)) (within law settled s)

  -- it was done, and nothing of its end
  pub unsettled : {answer : Reply} {mid : Engine} {m q : P} → port.fits (world old).last p → Done port ran answer old mid p m → port.took (world mid).last [] m q → Stopped port ran Memory old p q
  unsettled {answer} {mid} {m} {q} fits d took =
      stopped law (on law ends (becomes law (start law ran old p fits) (then_ends ran)) d) (untaken (ends answer (world mid)) mid took)
