-- Stretches of a run that only compute.
use Rattle.std.proofs.Common.{◌≡◌, Err, Ok, Result, ap, refl}
use Rattle.std.specs.Prelude.{OnOk}
use Rattle.pl_engine.proofs.Joins.{Lawful, further, same_world, start, told_quiet}
use Rattle.pl_engine.specs.Answers.{Partway}
use Rattle.pl_engine.specs.Engines.{world}
use Rattle.pl_engine.specs.declared.engine.Engine.{Engine}
use Rattle.pl_engine.specs.declared.port.Port.{Ghosts}
use Rattle.pl_engine.specs.pl_world.World.{Ran, World}
use Rattle.pl_engine.specs.pl_world.declared.outcome.Outcome.{Outcome}
use Rattle.pl_quick.specs.Computing.{Computes, OnlyComputed}

pub computed : {P : Type 0} {port : Ghosts P} (law : Lawful port) {whole mids rest : Ran Outcome} {old mid : Engine} {p m : P} (new : Engine) → Partway port whole mids old mid p m
    → Computes mids rest (world mid) (world new) → OnlyComputed (world mid) (world new) → Partway port whole rest old new p m
computed law {whole} {mids} {rest} {old} {mid} {p} {m} new way c only = further law way (record {
  events = c.events;
  goes_on = c.goes_on;
  told = told_quiet law c.events mid new m way.told.fits c.silent (ap (λ (w : World). w.last) only) c.spent;
})

-- nothing of it is done yet
pub not_yet : {P : Type 0} {port : Ghosts P} (law : Lawful port) (k : World → Ran Outcome) (old mid : Engine) (p : P) → port.fits (world old).last p → world mid ≡ world old → Partway port (k (world old)) (k (world mid)) old mid p p
not_yet law k old mid p fits same = same_world law (start law (k (world old)) old p fits) same k refl

pub however : {A E X : Type 0} (r : Result A E) → X → OnOk r X
however (Ok a) x = x
however (Err e) x = tt
