-- What is found on the way, and what goes on with it.
use Rattle.std.proofs.Common.{◌≡◌, ◌≤◌, ℕ, Result, Ok, Err, ap, arith, subst, sym}
use Rattle.std.specs.Result.{IsErr, IsErrAnd}
use Rattle.pl_base.specs.declared.state.State.{State}
use Rattle.pl_asking.proofs.of_pl_engine.Joins.{Lawful, acted, becomes, done, further, stopped}
use Rattle.pl_asking.specs.pl_engine.Answers.{Done, Partway, Stopped}
use Rattle.pl_asking.specs.pl_engine.Engines.{Quiet, world}
use Rattle.pl_asking.specs.pl_engine.declared.engine.Engine.{Engine}
use Rattle.pl_asking.specs.pl_engine.declared.port.Port.{Ghosts}
use Rattle.pl_asking.specs.pl_engine.declared.stop.Stop.{Stop}
use Rattle.pl_raise.specs.Finding.{Finds, FindsHere, Next, Part}
use Rattle.pl_world.specs.Conversions.{settled}
use Rattle.pl_world.specs.Errors.{Spot, as_run_state, raised}
use Rattle.pl_world.specs.World.{Ran, ends}
use Rattle.pl_world.specs.declared.outcome.Outcome.{Outcome}
use Rattle.pl_world.specs.declared.outcome.Outcome.TheVariants as outcome

-- ---- without an event

pub here_ok : {A : Type 0} (found : Result A State) (at : Spot) (e : Engine) (a : A) → found ≡ Ok a → FindsHere (settled found at (world e)) (Ok a) e
here_ok {A} found at e a is = λ k. ap (λ (r : Result A State). settled r at (world e) k) is

pub here_err : {A : Type 0} (found : Result A State) (at : Spot) (e : Engine) (state : State) (o : Outcome) → found ≡ Err state → Quiet (raised (as_run_state state) at (world e)) o e e
    → FindsHere (settled found at (world e)) (Err o) e
here_err {A} found at e state o is q = λ k. subst (λ (r : Result A State). Quiet (settled r at (world e) k) o e e) (sym is) q

-- ---- in the midst of a run

-- something goes on
abbrev ends_there : {A : Type 0} → Next A
ends_there a w = ends outcome.Next w

-- wherever a run has come to, the port fits and there is room
module _ {A P : Type 0} {port : Ghosts P} {old mid : Engine} {p m : P} {whole rest : Part A} (way : (k : Next A) → Partway port (whole k) (rest k) old mid p m) where
  pub fits_there : port.fits (world mid).last m
  fits_there = (way ends_there).told.fits

  pub room_there : (room : ℕ) → (world old).steps ≤ room → (world mid).steps ≤ room
  room_there room le = let spent = (way ends_there).told.spent in omega (arith, spent, le)

-- and where something was found
module _ {A P : Type 0} (port : Ghosts P) (part : Part A) (old mid : Engine) (p m : P) where
  pub fits_found : (found : Result A Outcome) → Finds port part (Ok found) old mid p m → port.fits (world mid).last m
  fits_found (Ok a) f = (f ends_there).told.fits
  fits_found (Err o) f = (f ends_there).told.fits

  pub room_found : (found : Result A Outcome) → Finds port part (Ok found) old mid p m → (room : ℕ) → (world old).steps ≤ room → (world mid).steps ≤ room
  room_found (Ok a) f room le = let spent = (f ends_there).told.spent in omega (arith, spent, le)
  room_found (Err o) f room le = let spent = (f ends_there).told.spent in omega (arith, spent, le)

-- what `?` hands on
pub refused_there : {A P : Type 0} {port : Ghosts P} {part : Part A} {old : Engine} {p q : P} (new : Engine) (r : Result (Result A Outcome) Stop) (stop : Stop) → IsErr r × IsErrAnd r (λ e. e ≡ stop)
    → ((k : Next A) → Stopped port (part k) stop old p q) → Finds port part r old new p q
refused_there new (Ok x) stop is s = let i = is.0 in cc
refused_there {A} {P} {port} {part} {old} {p} {q} new (Err e) stop is s = λ k. subst (λ (e : Stop). Stopped port (part k) e old p q) (sym is.1) (s k)

module _ {P : Type 0} {port : Ghosts P} (law : Lawful port) where
  -- the rest finds it without an event
  pub there_found : {A : Type 0} (whole part : Part A) {old mid : Engine} {p q : P} (found : Result A Outcome) → ((k : Next A) → Partway port (whole k) (part k) old mid p q) → FindsHere part found mid
      → Finds port whole (Ok found) old mid p q
  there_found whole part (Ok a) way f = λ k. becomes law (way k) (f k)
  there_found whole part (Err o) way f = λ k. acted law (way k) (f k)

  module _ {K A : Type 0} (whole : K → Ran Outcome) (part : Part A) (next : K → Next A) {old mid : Engine} {p m : P} (way : (k : K) → Partway port (whole k) (part (next k)) old mid p m) where
    pub found_on : {new : Engine} {q : P} (found : Result A Outcome) (a : A) → Finds port part (Ok found) mid new m q → found ≡ Ok a → (k : K) → Partway port (whole k) (next k a (world new)) old new p q
    found_on {new} {q} found a f is k =
        let there : Finds port part (Ok (Ok a)) mid new m q = subst (λ (r : Result A Outcome). Finds port part (Ok r) mid new m q) is f in
        further law (way k) (there (next k))

    pub found_off : {new : Engine} {q : P} (found : Result A Outcome) (o : Outcome) → Finds port part (Ok found) mid new m q → found ≡ Err o → (k : K) → Done port (whole k) o old new p q
    found_off {new} {q} found o f is k =
        let there : Finds port part (Ok (Err o)) mid new m q = subst (λ (r : Result A Outcome). Finds port part (Ok r) mid new m q) is f in
        done law (way k) (there (next k))

    pub found_stopped : {q : P} (new : Engine) (stop : Stop) → Finds port part (Err stop) mid new m q → (k : K) → Stopped port (whole k) stop old p q
    found_stopped new stop f k = stopped law (way k) (f (next k))

    pub here_on : (found : Result A Outcome) (a : A) → FindsHere part found mid → found ≡ Ok a → (k : K) → Partway port (whole k) (next k a (world mid)) old mid p m
    here_on found a f is k =
        let here : FindsHere part (Ok a) mid = subst (λ (r : Result A Outcome). FindsHere part r mid) is f in
        becomes law (way k) (here (next k))

    pub here_off : (found : Result A Outcome) (o : Outcome) → FindsHere part found mid → found ≡ Err o → (k : K) → Done port (whole k) o old mid p m
    here_off found o f is k =
        let here : FindsHere part (Err o) mid = subst (λ (r : Result A Outcome). FindsHere part r mid) is f in
        acted law (way k) (here (next k))
