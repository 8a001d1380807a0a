-- Definitions, as commands answer them.
use Rattle.std.proofs.Common.{◌≡◌, ◌∙◌, List, [], ◌∷◌, ℕ, Option, Some, None, Ok, Err, ap, refl, subst, sym}
use Rattle.pl_base.specs.declared.fail.Fail.{Fail}
use Rattle.pl_base.specs.declared.state.State.{State}
use Rattle.pl_command.proofs.Mapped.{mapped, mapped_done, mapped_stopped}
use Rattle.pl_control.specs.Noted.{Done as Ended, defined, no, yes}
use Rattle.pl_control.specs.pl_engine.Answers.{Done, Stopped}
use Rattle.pl_control.specs.pl_engine.Engines.{world}
use Rattle.pl_control.specs.pl_engine.declared.engine.Engine.{Engine}
use Rattle.pl_control.specs.pl_engine.declared.port.Port.{Ghosts}
use Rattle.pl_control.specs.pl_engine.declared.stop.Stop.{Stop}
use Rattle.pl_world.specs.pl_journal.Definitions.{Behind}
use Rattle.pl_print.specs.declared.reply.Tag.{Tag}
use Rattle.pl_tree.specs.declared.command.Definition.{Definition}
use Rattle.pl_typing.specs.Resolved.{Resolved}
use Rattle.pl_world.specs.Commands.{defines, defining, noticed, with_database}
use Rattle.pl_world.specs.Errors.{Spot, resolves}
use Rattle.pl_world.specs.Sessions.{failed, tagged}
use Rattle.pl_world.specs.World.{Began, Ran, World, a_definition, behind}
use Rattle.pl_world.specs.declared.session.Reply.{Reply}

-- the definition of this text, by what it leads to
abbrev by : {O : Type 0} → (Fail → O) → O → Spot → World → Resolved Behind → Ran O
by failed done at w r = behind (Began a_definition ∷ []) (resolves failed r at w (λ b. noticed b.notice done (with_database b.database w)))

defines_is : {O : Type 0} (failed : Fail → O) (done : O) (at : Spot) (d : Option Definition) (source : List ℕ) (w : World) → defines failed done at d source w ≡ by failed done at w (defining d source w.changing w.database)
unfolding defines
defines_is failed done at d source w = refl

module _ (tag : Tag) where
  abbrev pub as_reply : Ended → Reply
  as_reply (Ok u) = tagged tag
  as_reply (Err f) = failed f

  noticed_as : (notice : Option State) (w : World) → behind (Began a_definition ∷ []) (noticed notice (tagged tag) w) ≡ mapped as_reply (behind (Began a_definition ∷ []) (noticed notice yes w))
  noticed_as None w = refl
  noticed_as (Some state) w = refl

  by_as : (at : Spot) (w : World) (r : Resolved Behind) → by failed (tagged tag) at w r ≡ mapped as_reply (by no yes at w r)
  unfolding resolves
  by_as at w (Ok b) = noticed_as b.notice (with_database b.database w)
  by_as at w (Err state) = refl

  pub defines_as : (at : Spot) (d : Option Definition) (source : List ℕ) (w : World) → mapped as_reply (defined at d source w) ≡ defines failed (tagged tag) at d source w
  defines_as at d source w =
      sym (defines_is failed (tagged tag) at d source w
      ∙ (by_as at w (defining d source w.changing w.database) ∙ ap (λ (r : Ran Ended). mapped as_reply r) (sym (defines_is no yes at d source w))))

  module _ {P : Type 0} {port : Ghosts P} (at : Spot) (d : Option Definition) (source : List ℕ) {old : Engine} {p q : P} where
    pub defined_done : {new : Engine} (o : Ended) (answer : Reply) → answer ≡ as_reply o → Done port (defined at d source (world old)) o old new p q → Done port (defines failed (tagged tag) at d source (world old)) answer old new p q
    defined_done {new} o answer is done =
        subst (λ (a : Reply). Done port (defines failed (tagged tag) at d source (world old)) a old new p q) (sym is)
        (subst (λ (ran : Ran Reply). Done port ran (as_reply o) old new p q) (defines_as at d source (world old)) (mapped_done as_reply done))

    pub defined_stopped : {stop : Stop} → Stopped port (defined at d source (world old)) stop old p q → Stopped port (defines failed (tagged tag) at d source (world old)) stop old p q
    defined_stopped {stop} s = subst (λ (ran : Ran Reply). Stopped port ran stop old p q) (defines_as at d source (world old)) (mapped_stopped as_reply s)
