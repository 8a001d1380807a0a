-- From what an engine does to how a command goes.
use Rattle.std.proofs.Common.{◌≡◌, ◌∙◌, List, Result, Ok, Err, refl, subst}
use Rattle.pl_command.specs.Ends.{as_ran}
use Rattle.pl_command.specs.Lines.{lines_of}
use Rattle.pl_command.specs.declared.answers.Answer.{Answer}
use Rattle.pl_command.proofs.of_pl_engine.Joins.{Lawful, acted, before, start}
use Rattle.pl_command.specs.pl_engine.Answers.{Cut, Done, Stopped}
use Rattle.pl_command.specs.pl_engine.Database.{Database}
use Rattle.pl_command.specs.pl_engine.Engines.{world}
use Rattle.pl_command.specs.pl_engine.declared.engine.Engine.{Engine}
use Rattle.pl_command.specs.pl_engine.declared.port.Port.{Ghosts}
use Rattle.pl_command.specs.pl_engine.declared.stop.Stop.{Stop}
use Rattle.pl_command.specs.pl_engine.declared.stop.Stop.TheVariants.{Memory}
use Rattle.pl_transactions.specs.Goes.{Answered, Goes, GoesQuietly, Halted, telling}
use Rattle.pl_transactions.specs.State.{Stands, session_at}
use Rattle.pl_transactions.specs.declared.transaction.Transaction.{Transaction}
use Rattle.pl_command.specs.pl_world.Laws.{end_of, events}
use Rattle.pl_command.specs.pl_world.Scripts.{outward, session_of}
use Rattle.pl_command.specs.pl_world.Sessions.{Session, Went, went}
use Rattle.pl_command.specs.pl_world.World.{Event, Ran, World, made}
use Rattle.pl_command.specs.pl_world.declared.session.Reply.{Reply}

-- by its run and the session behind it
pub went_is : (w : Went) (s : Session) (answer : Reply) (es : List Event) (now : World) → session_of w ≡ s → as_ran w ≡ made now answer es → w ≡ went s answer es
went_is (went t a fs) s answer es now session is = λ i. went (session i) (end_of (is i)) (events (is i))

-- a run of the same events
pub same_events : {A B P : Type 0} {port : Ghosts P} {r : Ran A} {whole : Ran B} {stop : Stop} {old : Engine} {p q : P} → events whole ≡ events r → Stopped port r stop old p q → Stopped port whole stop old p q
same_events same s = record { front = s.front; rest = s.rest; are = same ∙ s.are; cut = s.cut }

-- an engine whose last commit is the same
pub same_last : {A P : Type 0} {port : Ghosts P} {r : Ran A} {stop : Stop} {old mid : Engine} {p q : P} → (world mid).last ≡ (world old).last → Stopped port r stop mid p q → Stopped port r stop old p q
same_last {A} {P} {port} {r} {stop} {old} {mid} {p} {q} same s = record {
  front = s.front;
  rest = s.rest;
  are = s.are;
  cut = subst (λ (db : Database). Cut port stop db (outward s.front) (outward s.rest) p q) same s.cut;
}

pub quietly_as : (w v : Went) (r : Result Answer Stop) (after : Transaction) (old new : Engine) → w ≡ v → GoesQuietly w r after old new → GoesQuietly v r after old new
quietly_as w v r after old new same goes = subst (λ (x : Went). GoesQuietly x r after old new) same goes

-- how it goes may be written otherwise
pub goes_as : {P : Type 0} (port : Ghosts P) (w v : Went) (told more : List Event) (r : Result Answer Stop) (after : Transaction) (old new : Engine) (p q : P) → w ≡ v → told ≡ more → Goes port w told r after old new p q → Goes port v more r after old new p q
goes_as port w v told more r after old new p q same all goes =
    subst (λ (es : List Event). Goes port v es r after old new p q) all (subst (λ (x : Went). Goes port x told r after old new p q) same goes)

module _ {P : Type 0} {port : Ghosts P} where
  pub from_done : (w : Went) (answer : Answer) (after : Transaction) (old new : Engine) (p q : P) → Done port (as_ran w) answer.reply old new p q → session_of w ≡ session_at after new → Stands after new
      → answer.lines ≡ lines_of answer.reply → Answered port w answer after old new p q
  from_done w answer after old new p q d session stands lines = record {
    events = d.events;
    gives = went_is w (session_at after new) answer.reply d.events (world new) session d.gives;
    took = d.told.took;
    last = d.told.last;
    fits = d.told.fits;
    stands = stands;
    lines = lines;
  }

  -- all that it tells it tells before its end
  pub halted_within : {A : Type 0} (w : Went) (told : List Event) (r : Ran A) (stop : Stop) (old : Engine) (p q : P) → events (as_ran w) ≡ events r → told ≡ events r → Stopped port r stop old p q → Halted port w told stop old p q
  halted_within w told r stop old p q whole all s = record {
    stopped = same_events whole s;
    early = λ is. subst (λ (x : Stop). Stopped port (telling told (world old)) x old p q) is (same_events all s);
  }

  module _ (law : Lawful port) where
    -- there was no memory, before anything was done
    pub unbegun : (w : Went) (told : List Event) (old : Engine) (p : P) → Halted port w told Memory old p p
    unbegun w told old p = record { stopped = before law refl; early = λ is. before law refl }

    pub goes_quietly : (w : Went) (told : List Event) (r : Result Answer Stop) (after : Transaction) (old new : Engine) (p : P) → port.fits (world old).last p → GoesQuietly w r after old new → Goes port w told r after old new p p
    goes_quietly w told (Ok answer) after old new p fits goes = from_done w answer after old new p p (acted law (start law (as_ran w) old p fits) goes.quiet) goes.session goes.stands goes.lines
    goes_quietly w told (Err stop) after old new p fits is = record { stopped = before law is; early = λ same. before law refl }
