-- Commands that run a body, and what they answer.
use Rattle.std.proofs.Common.{◌≡◌, refl}
use Rattle.pl_control.proofs.of_pl_engine.Joins.{Lawful, becomes, ended, on, start, within}
use Rattle.pl_control.specs.pl_engine.Answers.{Done, Stopped}
use Rattle.pl_control.specs.pl_engine.Engines.{world}
use Rattle.pl_control.specs.pl_engine.declared.engine.Engine.{Engine}
use Rattle.pl_control.specs.pl_engine.declared.port.Port.{Ghosts}
use Rattle.pl_control.specs.pl_engine.declared.stop.Stop.{Stop}
use Rattle.pl_print.specs.declared.reply.Tag.{Tag}
use Rattle.pl_world.specs.Sessions.{ran_body}
use Rattle.pl_world.specs.World.{Ran, World, and_then, ends}
use Rattle.pl_world.specs.declared.outcome.Outcome.{Outcome}
use Rattle.pl_world.specs.declared.session.Reply.{Reply}

module _ {P : Type 0} {port : Ghosts P} (law : Lawful port) (tag : Tag) {ran : Ran Outcome} {old : Engine} {p q : P} where
  pub ran_done : {end : Outcome} {answer : Reply} {new : Engine} → port.fits (world old).last p → ((w : World) → ran_body tag end w ≡ ends answer w) → Done port ran end old new p q → Done port (and_then ran (ran_body tag)) answer old new p q
  ran_done {end} {answer} {new} fits is d = ended law (becomes law (on law (ran_body tag) (start law (and_then ran (ran_body tag)) old p fits) d) (is (world new))) refl

  pub ran_stopped : {stop : Stop} → Stopped port ran stop old p q → Stopped port (and_then ran (ran_body tag)) stop old p q
  ran_stopped s = within law (ran_body tag) s
