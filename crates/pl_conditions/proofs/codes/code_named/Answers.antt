use Rattle.std.proofs.Common.{◌∙◌, ap}
use Rattle.pl_conditions.proofs.Named.{found}
use Rattle.pl_conditions.proofs.codes.code_named.Goals as goal
use Rattle.pl_world.specs.Conditions.{code_named}

pub returns-in-Ok : goal.returns-in-Ok
returns-in-Ok c = found c.state_of.result c.in-Ok.text.now c.state_of.ensures.unknown c.state_of.ensures.known ∙ ap code_named c.in-Ok.ensures.cases.0
