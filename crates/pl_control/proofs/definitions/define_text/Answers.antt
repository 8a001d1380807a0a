use Rattle.std.proofs.Common.{◌∙◌, List, Option, ap, refl, subst, sym, ℕ}
use Rattle.pl_control.proofs.Noting.{as_outcome, defined_done, defined_stopped}
use Rattle.pl_control.proofs.definitions.define_text.Goals as goal
use Rattle.pl_control.specs.Noted.{defined}
use Rattle.pl_engine.proofs.Joins.{before, lawful, refused}
use Rattle.pl_engine.specs.Answers.{Done, Stopped}
use Rattle.pl_engine.specs.Engines.{world}
use Rattle.pl_reading.specs.Computed.{definition_in}
use Rattle.pl_tree.specs.declared.command.Definition.{Definition}
use Rattle.pl_engine.specs.pl_world.declared.outcome.Outcome.TheVariants as outcome

pub returns-in_err-definition-clause-is : goal.returns-in_err-definition-clause-is
returns-in_err-definition-clause-is g c = refused _ _ _ c.from_residual.ensures (before (lawful g.P.Port g.met.P.Port.none g.met.P.Port.joins g.met.P.Port.rises) c.in_err-definition.ensures.err)

pub returns-in_err-copy-clause-is : goal.returns-in_err-copy-clause-is
returns-in_err-copy-clause-is g c = refused _ _ _ c.from_residual-in_err-copy.ensures (before (lawful g.P.Port g.met.P.Port.none g.met.P.Port.joins g.met.P.Port.rises) refl)

pub define_read-requires-clause-alike : goal.define_read-requires-clause-alike
define_read-requires-clause-alike g c = ap definition_in c.in_ok-copy.ensures ∙ sym c.in_ok-definition.ensures.is

pub returns-in-Ok-Ok-clause-is : goal.returns-in-Ok-Ok-clause-is
returns-in-Ok-Ok-clause-is g c =
    let w = world c.args.engine.now in
    let d = subst (λ (t : List ℕ). Done g.P.Port (defined c.args.at (definition_in c.args.text.now) t w) c.in-Ok-Ok.field-0 c.args.engine.now c.define_read.new.engine c.args.port.now c.define_read.new.port) c.in_ok-copy.ensures
    (subst (λ (d : Option Definition). Done g.P.Port (defined c.args.at d c.in_ok-copy.copy w) c.in-Ok-Ok.field-0 c.args.engine.now c.define_read.new.engine c.args.port.now c.define_read.new.port) c.in_ok-definition.ensures.is c.in-Ok-Ok.ensures.is) in
    defined_done c.args.at (definition_in c.args.text.now) c.args.text.now c.in-Ok-Ok.field-0 outcome.Next (ap as_outcome c.in-Ok-Ok.field-0-is) d

pub returns-in-Ok-Err-clause-is : goal.returns-in-Ok-Err-clause-is
returns-in-Ok-Err-clause-is g c =
    let w = world c.args.engine.now in
    let d = subst (λ (t : List ℕ). Done g.P.Port (defined c.args.at (definition_in c.args.text.now) t w) c.in-Ok-Err.field-0 c.args.engine.now c.define_read.new.engine c.args.port.now c.define_read.new.port) c.in_ok-copy.ensures
    (subst (λ (d : Option Definition). Done g.P.Port (defined c.args.at d c.in_ok-copy.copy w) c.in-Ok-Err.field-0 c.args.engine.now c.define_read.new.engine c.args.port.now c.define_read.new.port) c.in_ok-definition.ensures.is c.in-Ok-Err.ensures.is) in
    defined_done c.args.at (definition_in c.args.text.now) c.args.text.now c.in-Ok-Err.field-0 (outcome.Fail c.in-Ok-Err.f) (ap as_outcome c.in-Ok-Err.field-0-is) d

pub returns-in-Err-clause-is : goal.returns-in-Err-clause-is
returns-in-Err-clause-is g c =
    let w = world c.args.engine.now in
    let s = subst (λ (t : List ℕ). Stopped g.P.Port (defined c.args.at (definition_in c.args.text.now) t w) c.in-Err.stop c.args.engine.now c.args.port.now c.define_read.new.port) c.in_ok-copy.ensures
    (subst (λ (d : Option Definition). Stopped g.P.Port (defined c.args.at d c.in_ok-copy.copy w) c.in-Err.stop c.args.engine.now c.args.port.now c.define_read.new.port) c.in_ok-definition.ensures.is c.in-Err.ensures.is) in
    defined_stopped c.args.at (definition_in c.args.text.now) c.args.text.now s
