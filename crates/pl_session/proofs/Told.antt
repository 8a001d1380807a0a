-- From what a port over a store takes to what a session promises.
use Rattle.std.proofs.Common.{◌≡◌, ◌∙◌, ◌++◌, ℕ, List, [], ◌∷◌, Result, Ok, Err, append_assoc, ap, refl, subst, sym}
use Rattle.std.specs.Prelude.{IfErr, IfOk}
use Rattle.pl_disk.specs.Disk.{View, Rises}
use Rattle.pl_port.proofs.of_pl_engine.Joins.{outward-append}
use Rattle.pl_port.specs.pl_engine.Answers.{Cut, Stopped, at, between}
use Rattle.pl_port.specs.pl_engine.Engines.{world}
use Rattle.pl_port.specs.pl_engine.declared.engine.Engine.{Engine}
use Rattle.pl_port.specs.pl_engine.declared.port.Port.{Ghosts}
use Rattle.pl_port.specs.pl_engine.declared.stop.Stop.{Stop}
use Rattle.pl_port.specs.pl_engine.declared.stop.Stop.TheVariants.{Disk, Say, Memory}
use Rattle.pl_keeper.specs.declared.head.Head.{Head}
use Rattle.pl_exec.specs.pl_world.Trace.{Event, Said, Failed, Committed, last_commit}
use Rattle.pl_port.proofs.Opens.{stores_open}
use Rattle.pl_port.specs.PortLaws.{along_more, along_on}
use Rattle.pl_port.specs.Ports.{Fits, Takes, Tries}
use Rattle.pl_port.specs.Stores.{RunsAlong}
use Rattle.pl_session.proofs.Begins.{rises_since}
use Rattle.pl_session.proofs.Went.{Own, front_told, part_of}
use Rattle.pl_session.specs.Endings.{Done}
use Rattle.pl_session.specs.Steps.{DoneBefore, StepCause}
use Rattle.pl_transactions.specs.Ends.{as_ran}
use Rattle.pl_transactions.specs.Goes.{Answered, Goes, Halted}
use Rattle.pl_transactions.specs.Answer.{Answer}
use Rattle.pl_transactions.specs.Lines.{lines_of}
use Rattle.pl_transactions.specs.declared.transaction.Transaction.{Transaction}
use Rattle.pl_undo.specs.Database.{Database}
use Rattle.pl_exec.specs.pl_world.Laws.{events}
use Rattle.pl_exec.specs.pl_world.Scripts.{outward}
use Rattle.pl_exec.specs.pl_world.Sessions.{Went}
use Rattle.pl_exec.specs.pl_world.World.{Ran}
use Rattle.pl_exec.specs.pl_world.World as world_events

-- a port over a store
pub record OverStore {P : Type 0} (port : Ghosts P) (view : P → View) (keeper : P → Head) : Type 0 where
  pub took : (db : Database) (es : List Event) (p q : P) → port.took db es p q → Takes es db (view p) (view q) (keeper p) (keeper q)
  pub tried : (db : Database) (e : Event) (p q : P) → port.tried db e p q → Tries e db (view p) (view q)
  pub disk : (p : P) → port.disk_faults p ≡ (view p).disk_faults
  pub say : (p : P) → port.say_faults p ≡ (view p).say_faults

-- what was taken is done
taken_done : (es : List Event) (db : Database) (a b : View) (k l : Head) → Fits a k db → Takes es db a b k l → a.told → Done a b es db
taken_done es db a b k l fits t told = record {
  printed = t.printed told;
  opens_to = λ c left. stores_open b l (last_commit es db) ((t.store fits).store (t.moments.continues.told told)) c left;
}

module _ {P : Type 0} (port : Ghosts P) (view : P → View) (keeper : P → Head) (over : OverStore port view keeper) where
  -- ---- moments

  cut_along : (stop : Stop) (db : Database) (taken left : List Event) (p q : P) → Cut port stop db taken left p q → RunsAlong (view p) (view q) (taken ++ left) db
  cut_along stop db taken left p q (between is t) = along_more (view p) (view q) taken left db (over.took db taken p q t).moments
  cut_along stop db taken left p q (at e rest mid is t tried blame) =
      let one = over.took db taken p mid t in
      let two = over.tried (last_commit taken db) e mid q tried in
      subst (λ (es : List Event). RunsAlong (view p) (view q) es db) (append_assoc taken (e ∷ []) rest ∙ ap (λ (es : List Event). taken ++ es) (sym is))
      (along_more (view p) (view q) (taken ++ e ∷ []) rest db (along_on (view p) (view mid) (view q) taken (e ∷ []) db one.printed one.moments two.moments))

  pub stopped_along : {O : Type 0} (r : Ran O) (old : Engine) (p q : P) (stop : Stop) → Stopped port r stop old p q → RunsAlong (view p) (view q) (outward (events r)) (world old).last
  stopped_along r old p q stop s = subst (λ (es : List Event). RunsAlong (view p) (view q) es (world old).last) (sym (outward-append s.front s.rest) ∙ ap outward (sym s.are))
      (cut_along stop (world old).last (outward s.front) (outward s.rest) p q s.cut)

  -- ---- a command

  module _ (w : Went) (es : List world_events.Event) (own : Own w es) (old : Engine) (p q : P) where
    done_before : (answer : Answer) (after : Transaction) (new : Engine) → Answered port w answer after old new p q → DoneBefore w answer.reply after old new (view p) (view q) (keeper p) (keeper q)
    done_before answer after new d = record {
      events = d.events;
      gives = d.gives;
      takes = over.took (world old).last (outward d.events) p q d.took;
      last = d.last;
      stands = d.stands;
    }

    -- the disk failed at a commit
    disk_cut : (front rest : List world_events.Event) → events (as_ran w) ≡ front ++ rest → Cut port Disk (world old).last (outward front) (outward rest) p q → StepCause (view p) (view q) (outward es) (world old).last Disk
    disk_cut front rest are (between is t) = absurd cc
    disk_cut front rest are (at (Said lines) left mid is t tried blame) = absurd blame
    disk_cut front rest are (at (Failed lines) left mid is t tried blame) = absurd blame
    disk_cut front rest are (at (Committed db) left mid is t tried blame) =
        let one = over.took (world old).last (outward front) p mid t in
        let two = over.tried (last_commit (outward front) (world old).last) (Committed db) mid q tried in (
          rises_since (view p).disk_faults (view mid).disk_faults (view q).disk_faults one.moments.continues.disk_faults two.moments.continues.disk_faults
              (subst (λ (n : ℕ). Rises n (view q).disk_faults) (over.disk mid) (subst (λ (n : ℕ). Rises (port.disk_faults mid) n) (over.disk q) blame)),
          (outward front, part_of w es own front rest (Committed db) left are is, λ told. two.printed db refl (one.moments.continues.told told) ∙ one.printed told),
        )

    -- printing failed
    say_cut : (db : Database) (taken left : List Event) → Cut port Say db taken left p q → Rises (view p).say_faults (view q).say_faults
    say_cut db taken left (between is t) = absurd cc
    say_cut db taken left (at (Committed now) rest mid is t tried blame) = absurd blame
    say_cut db taken left (at (Failed lines) rest mid is t tried blame) = absurd blame
    say_cut db taken left (at (Said lines) rest mid is t tried blame) =
        let one = over.took db taken p mid t in
        let two = over.tried (last_commit taken db) (Said lines) mid q tried in
        rises_since (view p).say_faults (view mid).say_faults (view q).say_faults one.moments.continues.say_faults two.moments.continues.say_faults
        (subst (λ (n : ℕ). Rises n (view q).say_faults) (over.say mid) (subst (λ (n : ℕ). Rises (port.say_faults mid) n) (over.say q) blame))

    -- there was no memory
    memory_cut : (db : Database) → Fits (view p) (keeper p) db → (front rest : List world_events.Event) → es ≡ front ++ rest → Cut port Memory db (outward front) (outward rest) p q → StepCause (view p) (view q) (outward es) db Memory
    memory_cut db fits front rest are (between is t) =
        (outward front, front_told es front rest are, λ told. taken_done (outward front) db (view p) (view q) (keeper p) (keeper q) fits (over.took db (outward front) p q t) told)
    memory_cut db fits front rest are (at (Said lines) left mid is t tried blame) = absurd blame
    memory_cut db fits front rest are (at (Failed lines) left mid is t tried blame) = absurd blame
    memory_cut db fits front rest are (at (Committed now) left mid is t tried blame) = absurd blame

    stop_cause : Fits (view p) (keeper p) (world old).last → (stop : Stop) → Halted port w es stop old p q → StepCause (view p) (view q) (outward es) (world old).last stop
    stop_cause fits Disk h = let s = h.stopped in disk_cut s.front s.rest s.are s.cut
    stop_cause fits Say h = let s = h.stopped in say_cut (world old).last (outward s.front) (outward s.rest) s.cut
    stop_cause fits Memory h = let m = h.early refl in memory_cut (world old).last fits m.front m.rest m.are m.cut

    module _ (after : Transaction) (new : Engine) where
      pub command_whole : (r : Result Answer Stop) → Goes port w es r after old new p q → IfOk r (λ answer. DoneBefore w answer.reply after old new (view p) (view q) (keeper p) (keeper q))
      command_whole (Ok answer) goes = done_before answer after new goes
      command_whole (Err stop) goes = tt

      pub command_along : (r : Result Answer Stop) → Goes port w es r after old new p q → RunsAlong (view p) (view q) (outward (events (as_ran w))) (world old).last
      command_along (Ok answer) goes = subst (λ (fs : List world_events.Event). RunsAlong (view p) (view q) (outward fs) (world old).last) (sym (ap (λ (x : Went). events (as_ran x)) goes.gives)) (over.took (world old).last (outward goes.events) p q goes.took).moments
      command_along (Err stop) goes = stopped_along (as_ran w) old p q stop goes.stopped

      pub command_cause : (r : Result Answer Stop) → Fits (view p) (keeper p) (world old).last → Goes port w es r after old new p q → IfErr r (λ stop. StepCause (view p) (view q) (outward es) (world old).last stop)
      command_cause (Ok answer) fits goes = tt
      command_cause (Err stop) fits goes = stop_cause fits stop goes

      pub command_lines : (r : Result Answer Stop) → Goes port w es r after old new p q → IfOk r (λ answer. answer.lines ≡ lines_of answer.reply)
      command_lines (Ok answer) goes = goes.lines
      command_lines (Err stop) goes = tt
