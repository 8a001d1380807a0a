-- How the answers of functions over an engine and a port stand to a run.
use Rattle.std.specs.Prelude.{◌≡◌, ◌+◌, List, ◌∷◌, ◌++◌, Result, Ok, Err}
use Rattle.pl_disk.specs.Disk.{Rises}
use Rattle.pl_engine.specs.Engines.{stepped_in, world}
use Rattle.pl_engine.specs.declared.engine.Engine.{Engine}
use Rattle.pl_engine.specs.declared.port.Port.{Ghosts}
use Rattle.pl_engine.specs.declared.stop.Stop.{Stop}
use Rattle.pl_engine.specs.declared.stop.Stop.TheVariants.{Disk, Say, Memory}
use Rattle.pl_world.specs.Trace as trace
use Rattle.pl_undo.specs.Database.{Database}
use Rattle.pl_world.specs.Laws.{events}
use Rattle.pl_world.specs.Scripts.{outward}
use Rattle.pl_world.specs.World.{Event, Ran, behind, made}

module _ {P : Type 0} (port : Ghosts P) where
  -- ---- what was told

  -- The port has taken what is printed and committed of these events, and no other. It may be used
  -- again, and stores the database of the last commit.
  pub record Told (es : List Event) (old new : Engine) (p q : P) : Type 0 where
    pub took : port.took (world old).last (outward es) p q
    pub last : (world new).last ≡ trace.last_commit (outward es) (world old).last
    pub fits : port.fits (world new).last q
    pub spent : (world old).steps ≡ (world new).steps + stepped_in es

  -- the engine stands for the world that is given, and these are the events
  pub record Done {O : Type 0} (ran : Ran O) (o : O) (old new : Engine) (p q : P) : Type 0 where
    pub events : List Event
    pub gives : ran ≡ made (world new) o events
    pub told : Told events old new p q

  -- so far whole has led to what rest goes on with
  pub record Partway {O : Type 0} (whole rest : Ran O) (old now : Engine) (p q : P) : Type 0 where
    pub events : List Event
    pub goes_on : whole ≡ behind events rest
    pub told : Told events old now p q

  -- ---- stops

  -- the count of the device for which this event was rises
  abbrev pub Blame : Stop → trace.Event → P → P → Type 0
  Blame Disk (trace.Committed db) p q = Rises (port.disk_faults p) (port.disk_faults q)
  Blame Say (trace.Said lines) p q = Rises (port.say_faults p) (port.say_faults q)
  Blame stop e p q = ⊥

  -- Where a stop cut the events: between two of them, for want of memory, or at the first that
  -- wasn't taken, which was tried.
  pub data Cut (stop : Stop) (db : Database) (taken left : List trace.Event) (p q : P)
      : Type 0 where
    between : stop ≡ Memory → port.took db taken p q → Cut stop db taken left p q
    at : (e : trace.Event) (rest : List trace.Event) (mid : P) → left ≡ e ∷ rest
        → port.took db taken p mid → port.tried (trace.last_commit taken db) e mid q
        → Blame stop e mid q → Cut stop db taken left p q

  -- the port has taken a front of what is printed and committed, and at most one more was tried
  pub record Stopped {O : Type 0} (ran : Ran O) (stop : Stop) (old : Engine) (p q : P)
      : Type 0 where
    pub front : List Event
    pub rest : List Event
    pub are : events ran ≡ front ++ rest
    pub cut : Cut stop (world old).last (outward front) (outward rest) p q

  -- ---- both

  abbrev pub Answers : {O : Type 0} → Ran O → Result O Stop → Engine → Engine → P → P → Type 0
  Answers ran (Ok o) old new p q = Done ran o old new p q
  Answers ran (Err stop) old new p q = Stopped ran stop old p q
