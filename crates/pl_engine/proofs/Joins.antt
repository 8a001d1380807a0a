-- Proofs that other crates' proofs may cite; no definition. How what was told, and what is to be told, join.
use Rattle.std.proofs.Common.{◌≡◌, ◌≤◌, ◌+◌, ◌∙◌, ℕ, suc, List, [], ◌∷◌, ◌++◌, true, false, Result, Ok, Err, append_assoc, ap, arith, refl, subst, sym}
use Rattle.std.specs.Result.{IsErr, IsErrAnd}
use Rattle.pl_base.specs.States.{QUERY_CANCELED}
use Rattle.pl_base.specs.declared.fail.Fail.{Fail}
use Rattle.pl_engine.specs.Answers.{Answers, Cut, Done, Partway, Stopped, Told, at, between}
use Rattle.pl_engine.specs.Engines.{Quiet, Took, stepped_in, world}
use Rattle.pl_engine.specs.declared.engine.Engine.{Engine}
use Rattle.pl_engine.specs.declared.port.Port.{Ghosts}
use Rattle.pl_engine.specs.declared.stop.Stop.{Stop}
use Rattle.pl_engine.specs.declared.stop.Stop.TheVariants.{Memory}
use Rattle.pl_world.proofs.Lent.{last_commit-append}
use Rattle.pl_world.specs.Trace as trace
use Rattle.pl_world.specs.Trace.{last_commit}
use Rattle.pl_undo.specs.Database.{Database}
use Rattle.pl_world.specs.Errors.{Spot, place, raised, raises as arises}
use Rattle.pl_world.specs.Laws.{events}
use Rattle.pl_world.specs.Running.{stepped, stepped_by}
use Rattle.pl_world.specs.Scripts.{outward}
use Rattle.pl_world.specs.World.{Began, Committed, Event, Raised, Ran, Said, Stepped, World, and_then, behind, ends, made}
use Rattle.pl_world.specs.declared.outcome.Outcome.{Outcome}

-- ---- events

pub behind_behind : {O : Type 0} (a b : List Event) (r : Ran O) → behind a (behind b r) ≡ behind (a ++ b) r
behind_behind a b (made w o es) = ap (λ (xs : List Event). made w o xs) (sym (append_assoc a b es))

pub behind_none : {O : Type 0} (r : Ran O) → r ≡ behind [] r
behind_none (made w o es) = refl

events_behind : {O : Type 0} (a : List Event) (r : Ran O) → events (behind a r) ≡ a ++ events r
events_behind a (made w o es) = refl

pub outward-append : (a b : List Event) → outward (a ++ b) ≡ outward a ++ outward b
outward-append [] b = refl
outward-append (Stepped spot ∷ a) b = outward-append a b
outward-append (Raised f ∷ a) b = outward-append a b
outward-append (Began what ∷ a) b = outward-append a b
outward-append (Said lines ∷ a) b = ap (λ (xs : List trace.Event). trace.Said lines ∷ xs) (outward-append a b)
outward-append (Committed db ∷ a) b = ap (λ (xs : List trace.Event). trace.Committed db ∷ xs) (outward-append a b)

pub stepped_in-append : (a b : List Event) → stepped_in (a ++ b) ≡ stepped_in a + stepped_in b
stepped_in-append [] b = omega arith
stepped_in-append (Stepped spot ∷ a) b = let i = stepped_in-append a b in omega arith
stepped_in-append (Raised f ∷ a) b = stepped_in-append a b
stepped_in-append (Began what ∷ a) b = stepped_in-append a b
stepped_in-append (Said lines ∷ a) b = stepped_in-append a b
stepped_in-append (Committed db ∷ a) b = stepped_in-append a b

-- ---- ports

pub record Lawful {P : Type 0} (port : Ghosts P) : Type 0 where
  pub none : (db : Database) (p : P) → port.took db [] p p
  pub joins : (db : Database) (es fs : List trace.Event) (p q r : P) → port.took db es p q → port.took (last_commit es db) fs q r → port.took db (es ++ fs) p r
  pub rises : (db : Database) (es : List trace.Event) (p q : P) → port.took db es p q → (port.disk_faults p ≤ port.disk_faults q) × (port.say_faults p ≤ port.say_faults q)

pub lawful : {P : Type 0} (port : Ghosts P) → ((db : Database) (p : P) → port.took db [] p p)
    → ((db : Database) (es fs : List trace.Event) (p q r : P) → port.took db es p q → port.took (last_commit es db) fs q r → port.took db (es ++ fs) p r)
    → ((db : Database) (es : List trace.Event) (p q : P) → port.took db es p q → (port.disk_faults p ≤ port.disk_faults q) × (port.say_faults p ≤ port.say_faults q))
    → Lawful port
lawful port none joins rises = record { none = none; joins = joins; rises = rises }

module _ {P : Type 0} {port : Ghosts P} (law : Lawful port) where
  -- ---- what was told

  told_on : {a b : List Event} {old mid new : Engine} {p m q : P} → Told port a old mid p m → Told port b mid new m q → Told port (a ++ b) old new p q
  told_on {a} {b} {old} {mid} {new} {p} {m} {q} t u = record {
    took = subst (λ (xs : List trace.Event). port.took (world old).last xs p q) (sym (outward-append a b))
        (law.joins (world old).last (outward a) (outward b) p m q t.took (subst (λ (db : Database). port.took db (outward b) m q) t.last u.took));
    last = u.last ∙ (ap (λ (db : Database). last_commit (outward b) db) t.last
        ∙ (sym (last_commit-append (outward a) (outward b) (world old).last)
        ∙ ap (λ (xs : List trace.Event). last_commit xs (world old).last) (sym (outward-append a b))));
    fits = u.fits;
    spent = let i = t.spent in let j = u.spent in let l = stepped_in-append a b in omega arith;
  }

  -- nothing that the port sees
  pub told_quiet : (es : List Event) (old new : Engine) (p : P) → port.fits (world old).last p → outward es ≡ [] → (world new).last ≡ (world old).last
      → (world old).steps ≡ (world new).steps + stepped_in es → Told port es old new p p
  told_quiet es old new p fits out last spent = record {
    took = subst (λ (xs : List trace.Event). port.took (world old).last xs p p) (sym out) (law.none (world old).last p);
    last = last ∙ ap (λ (xs : List trace.Event). last_commit xs (world old).last) (sym out);
    fits = subst (λ (db : Database). port.fits db p) (sym last) fits;
    spent = spent;
  }

  -- ---- runs

  pub start : {O : Type 0} (r : Ran O) (e : Engine) (p : P) → port.fits (world e).last p → Partway port r r e e p p
  start r e p fits = record { events = []; goes_on = behind_none r; told = told_quiet [] e e p fits refl refl (omega arith) }

  -- a part is done, and what is behind it goes on
  pub on : {A B : Type 0} {whole : Ran B} {r : Ran A} {o : A} {old mid new : Engine} {p m q : P} (k : A → World → Ran B)
      → Partway port whole (and_then r k) old mid p m → Done port r o mid new m q → Partway port whole (k o (world new)) old new p q
  on {A} {B} {whole} {r} {o} {old} {mid} {new} {p} {m} {q} k w d = record {
    events = w.events ++ d.events;
    goes_on = w.goes_on ∙ (ap (λ (x : Ran A). behind w.events (and_then x k)) d.gives ∙ behind_behind w.events d.events (k o (world new)));
    told = told_on w.told d.told;
  }

  -- the rest is done
  pub done : {O : Type 0} {whole rest : Ran O} {o : O} {old mid new : Engine} {p m q : P} → Partway port whole rest old mid p m → Done port rest o mid new m q → Done port whole o old new p q
  done {O} {whole} {rest} {o} {old} {mid} {new} {p} {m} {q} w d = record {
    events = w.events ++ d.events;
    gives = w.goes_on ∙ ap (λ (x : Ran O). behind w.events x) d.gives;
    told = told_on w.told d.told;
  }

  -- the rest is what one more stretch leads to
  pub further : {O : Type 0} {whole mids rest : Ran O} {old mid new : Engine} {p m q : P} → Partway port whole mids old mid p m → Partway port mids rest mid new m q → Partway port whole rest old new p q
  further {O} {whole} {mids} {rest} {old} {mid} {new} {p} {m} {q} w d = record {
    events = w.events ++ d.events;
    goes_on = w.goes_on ∙ (ap (λ (x : Ran O). behind w.events x) d.goes_on ∙ behind_behind w.events d.events rest);
    told = told_on w.told d.told;
  }

  -- the rest is an act that neither prints nor commits nor takes a step
  pub acted : {O : Type 0} {whole rest : Ran O} {o : O} {old mid new : Engine} {p q : P} → Partway port whole rest old mid p q → Quiet rest o mid new → Done port whole o old new p q
  acted {O} {rest = made w r es} {o} {old} {mid} {new} {p} {q} way (same, is, out, none, steps, last) = record {
    events = way.events ++ es;
    gives = way.goes_on ∙ (ap (λ (x : World). made x r (way.events ++ es)) same ∙ ap (λ (x : O). made (world new) x (way.events ++ es)) is);
    told = told_on way.told (told_quiet es mid new q way.told.fits out last (omega (arith, none, steps)));
  }

  -- there is no rest
  pub ended : {O : Type 0} {whole : Ran O} {o : O} {w : World} {old new : Engine} {p q : P} → Partway port whole (ends o w) old new p q → w ≡ world new → Done port whole o old new p q
  ended way same = acted way (same, refl, refl, refl, refl, refl)

  -- the rest is an error that arises
  pub raises : {O : Type 0} (failed : Fail → O) {whole : Ran O} {f : Fail} {w : World} {old new : Engine} {p q : P} → Partway port whole (arises failed f w) old new p q → w ≡ world new
      → Done port whole (failed f) old new p q
  raises failed way same = acted way (same, refl, refl, refl, refl, refl)

  -- the engine changed, and nothing was told
  pub quietly : {O : Type 0} {whole rest : Ran O} {old mid new : Engine} {p q : P} → Partway port whole rest old mid p q → (world new).steps ≡ (world mid).steps → (world new).last ≡ (world mid).last
      → Partway port whole rest old new p q
  quietly {O} {whole} {rest} {old} {mid} {new} {p} {q} w steps last = further w (record { events = []; goes_on = behind_none rest; told = told_quiet [] mid new q w.told.fits refl last (omega (arith, steps)) })

  -- the engine changed, and stands for the same world
  pub same_world : {O : Type 0} {whole rest : Ran O} {old mid new : Engine} {p q : P} → Partway port whole rest old mid p q → world new ≡ world mid → (k : World → Ran O) → rest ≡ k (world mid)
      → Partway port whole (k (world new)) old new p q
  same_world {O} {whole} {rest} {old} {mid} {new} {p} {q} w same k is =
      subst (λ (r : Ran O). Partway port whole r old new p q) (is ∙ ap k (sym same)) (quietly w (ap (λ (x : World). x.steps) same) (ap (λ (x : World). x.last) same))

  -- the rest may be written otherwise
  pub becomes : {O : Type 0} {whole rest rest' : Ran O} {old mid : Engine} {p q : P} → Partway port whole rest old mid p q → rest ≡ rest' → Partway port whole rest' old mid p q
  becomes {O} {whole} {rest} {rest'} {old} {mid} {p} {q} w is = subst (λ (r : Ran O). Partway port whole r old mid p q) is w

  -- ---- steps

  step_is : (s : Spot) (w : World) (n : ℕ) (k : World → Ran Outcome) → w.steps ≡ suc n → stepped s w k ≡ behind (Stepped (place s w) ∷ []) (k (record w { steps = n }))
  unfolding stepped
  step_is s w n k is = ap (λ (m : ℕ). stepped_by m s w k) is

  -- a step was taken
  pub step : {whole : Ran Outcome} {old mid new : Engine} {p q : P} (s : Spot) (k : World → Ran Outcome) → Partway port whole (stepped s (world mid) k) old mid p q → Took true mid new
      → Partway port whole (k (world new)) old new p q
  step {whole} {old} {mid} {new} {p} {q} s k w t =
      let same : world new ≡ record (world mid) { steps = new.steps } = ap (λ (e : Engine). world e) t.1 in
      let last : (world new).last ≡ (world mid).last = ap (λ (e : Engine). (world e).last) t.1 in
      let taken : (world mid).steps ≡ suc (world new).steps = t.0 in
      further w (record {
        events = Stepped (place s (world mid)) ∷ [];
        goes_on = step_is s (world mid) new.steps k t.0 ∙ ap (λ (x : World). behind (Stepped (place s (world mid)) ∷ []) (k x)) (sym same);
        told = told_quiet (Stepped (place s (world mid)) ∷ []) mid new q w.told.fits refl last (omega (arith, taken));
      })

  no_step : (s : Spot) (w : World) (k : World → Ran Outcome) → w.steps ≡ 0 → stepped s w k ≡ raised QUERY_CANCELED s w
  unfolding stepped
  no_step s w k none = ap (λ (n : ℕ). stepped_by n s w k) none

  -- none was left, and an error arises
  pub stepless : {whole : Ran Outcome} {old mid new : Engine} {p q : P} (s : Spot) (k : World → Ran Outcome) → Partway port whole (stepped s (world mid) k) old mid p q → Took false mid new
      → Partway port whole (raised QUERY_CANCELED s (world new)) old new p q
  stepless {whole} {old} {mid} {new} {p} {q} s k w t =
      becomes (quietly (becomes w (no_step s (world mid) k t.0)) (ap (λ (e : Engine). (world e).steps) t.1) (ap (λ (e : Engine). (world e).last) t.1))
      (ap (λ (e : Engine). raised QUERY_CANCELED s (world e)) (sym t.1))

  -- ---- stops

  pub cut_more : {stop : Stop} {db : Database} {taken left : List trace.Event} {p q : P} (more : List trace.Event) → Cut port stop db taken left p q → Cut port stop db taken (left ++ more) p q
  cut_more more (between is t) = between is t
  cut_more more (at e rest mid is t tried blame) = at e (rest ++ more) mid (ap (λ (xs : List trace.Event). xs ++ more) is) t tried blame

  pub cut_behind : {stop : Stop} {db : Database} {a taken left : List trace.Event} {p m q : P} → port.took db a p m → Cut port stop (last_commit a db) taken left m q → Cut port stop db (a ++ taken) left p q
  cut_behind {stop} {db} {a} {taken} {left} {p} {m} {q} t (between is u) = between is (law.joins db a taken p m q t u)
  cut_behind {stop} {db} {a} {taken} {left} {p} {m} {q} t (at e rest mid is u tried blame) = at e rest mid is (law.joins db a taken p m mid t u)
      (subst (λ (d : Database). port.tried d e mid q) (sym (last_commit-append a taken db)) tried) blame

  -- the engine stopped within the rest
  pub stopped : {O : Type 0} {whole rest : Ran O} {stop : Stop} {old mid : Engine} {p m q : P} → Partway port whole rest old mid p m → Stopped port rest stop mid m q → Stopped port whole stop old p q
  stopped {O} {whole} {rest} {stop} {old} {mid} {p} {m} {q} w s = record {
    front = w.events ++ s.front;
    rest = s.rest;
    are = ap (λ (r : Ran O). events r) w.goes_on ∙ (events_behind w.events rest ∙ (ap (λ (x : List Event). w.events ++ x) s.are ∙ sym (append_assoc w.events s.front s.rest)));
    cut = subst (λ (xs : List trace.Event). Cut port stop (world old).last xs (outward s.rest) p q) (sym (outward-append w.events s.front))
        (cut_behind w.told.took (subst (λ (db : Database). Cut port stop db (outward s.front) (outward s.rest) m q) w.told.last s.cut));
  }

  -- the engine stopped at a part of the rest
  pub within : {A B : Type 0} {r : Ran A} {stop : Stop} {old : Engine} {p q : P} (k : A → World → Ran B) → Stopped port r stop old p q → Stopped port (and_then r k) stop old p q
  within {A} {B} {r = made w o es} {stop} {old} {p} {q} k s = record {
    front = s.front;
    rest = s.rest ++ events (k o w);
    are = events_behind es (k o w) ∙ (ap (λ (x : List Event). x ++ events (k o w)) s.are ∙ append_assoc s.front s.rest (events (k o w)));
    cut = subst (λ (xs : List trace.Event). Cut port stop (world old).last (outward s.front) xs p q) (sym (outward-append s.rest (events (k o w)))) (cut_more (outward (events (k o w))) s.cut);
  }

  -- there was no memory, before the rest told anything
  pub before : {O : Type 0} {rest : Ran O} {stop : Stop} {old : Engine} {p : P} → stop ≡ Memory → Stopped port rest stop old p p
  before {O} {rest} {stop} {old} {p} is = record { front = []; rest = events rest; are = refl; cut = between is (law.none (world old).last p) }

  -- the rest is what a call answers
  pub answered : {O : Type 0} {whole rest : Ran O} {old mid : Engine} {p m : P} (new : Engine) (q : P) (r : Result O Stop) → Partway port whole rest old mid p m → Answers port rest r mid new m q
      → Answers port whole r old new p q
  answered new q (Ok o) w a = done w a
  answered new q (Err e) w a = stopped w a

-- what `?` hands on
pub refused : {O P : Type 0} {port : Ghosts P} {ran : Ran O} {old : Engine} {p q : P} (new : Engine) (r : Result O Stop) (stop : Stop) → IsErr r × IsErrAnd r (λ e. e ≡ stop)
    → Stopped port ran stop old p q → Answers port ran r old new p q
refused new (Ok o) stop is s = let i = is.0 in cc
refused {O} {P} {port} {ran} {old} {p} {q} new (Err e) stop is s = subst (λ (e : Stop). Stopped port ran e old p q) (sym is.1) s
