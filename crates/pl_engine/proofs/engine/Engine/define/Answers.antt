use Rattle.std.proofs.Common.{◌∙◌, Option, ap, sym}
use Rattle.pl_engine.proofs.Redefining.{checks}
use Rattle.pl_engine.proofs.engine.Engine.define.Goals as goal
use Rattle.pl_engine.specs.Engines.{world}
use Rattle.pl_world.specs.pl_journal.Definitions.{redefined}
use Rattle.pl_world.specs.pl_names.Names.{Name}
use Rattle.pl_world.specs.Commands.{is_changing}

pub refuse-requires-clause-in_use : goal.refuse-requires-clause-in_use
refuse-requires-clause-in_use c =
    ap (λ (t : Option Name). is_changing t (world c.args.self.now).changing) (sym c.table_of.ensures) ∙ (sym c.is_changing.ensures ∙ c.if-is_changing.true)

pub returns-clause-is : goal.returns-clause-is
returns-clause-is c =
    let w = world c.args.self.now in
    checks c.args.definition.now w.changing (redefined c.args.definition.now c.args.text w.database) c.carry_out.result w (world c.carry_out.new.self)
    (λ none. ap (λ (t : Option Name). is_changing t w.changing) (sym c.table_of.ensures) ∙ (sym c.is_changing.ensures ∙ c.if-is_changing.false)) c.carry_out.ensures.is
