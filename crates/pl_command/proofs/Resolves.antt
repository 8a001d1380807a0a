-- What a command names is resolved, or is its error.
use Rattle.std.proofs.Common.{◌≡◌, Ok, Err, ap, refl, subst, sym}
use Rattle.pl_base.specs.declared.state.State.{State}
use Rattle.pl_control.proofs.of_pl_engine.Joins.{Lawful, acted, becomes, start}
use Rattle.pl_control.specs.pl_engine.Answers.{Done, Partway}
use Rattle.pl_control.specs.pl_engine.Engines.{Quiet, world}
use Rattle.pl_control.specs.pl_engine.declared.engine.Engine.{Engine}
use Rattle.pl_control.specs.pl_engine.declared.port.Port.{Ghosts}
use Rattle.pl_typing.specs.Resolved.{Resolved}
use Rattle.pl_world.specs.Errors.{Spot, failure, raises, resolves}
use Rattle.pl_world.specs.Sessions.{failed}
use Rattle.pl_world.specs.World.{Ran, World}
use Rattle.pl_world.specs.declared.session.Reply.{Reply}

module _ {A : Type 0} (m : Resolved A) (at : Spot) (k : A → Ran Reply) where
  abbrev whole : World → Ran Reply
  whole w = resolves failed m at w k

  by : (r : Resolved A) (w : World) → m ≡ r → whole w ≡ resolves failed r at w k
  by r w is = ap (λ (m : Resolved A). resolves failed m at w k) is

  found_is : (x : A) (w : World) → m ≡ Ok x → whole w ≡ k x
  unfolding resolves
  found_is x w is = by (Ok x) w is

  fails_as : (state : State) (w : World) → m ≡ Err state → whole w ≡ raises failed (failure state at w) w
  unfolding resolves
  fails_as state w is = by (Err state) w is

  module _ {P : Type 0} {port : Ghosts P} (law : Lawful port) {old : Engine} {p : P} (fits : port.fits (world old).last p) where
    pub found : (x : A) → m ≡ Ok x → Partway port (whole (world old)) (k x) old old p p
    found x is = becomes law (start law (whole (world old)) old p fits) (found_is x (world old) is)

    pub refused : (state : State) (answer : Reply) → m ≡ Err state → answer ≡ failed (failure state at (world old)) → Done port (whole (world old)) answer old old p p
    refused state answer is same =
        acted law (start law (whole (world old)) old p fits)
        (subst (λ (ran : Ran Reply). Quiet ran answer old old) (sym (fails_as state (world old) is)) (refl, sym same, refl, refl, refl, refl))
