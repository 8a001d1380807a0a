use Rattle.std.proofs.Common.{◌≡◌, ◌∙◌, List, ◌∷◌, ap, reverse}
use Rattle.pl_engine.proofs.Turned.{with_last}
use Rattle.pl_engine.proofs.engine.Engine.begin_change.Goals as goal
use Rattle.pl_engine.specs.Engines.{kept, world}
use Rattle.pl_world.specs.pl_names.Names.{Name}

pub returns-clause-is : goal.returns-clause-is
returns-clause-is c =
    let is : reverse c.push.new.self.items ≡ c.args.table ∷ reverse c.args.self.now.changing.items = ap (λ (xs : List Name). reverse xs) c.in_ok-push.ensures.items ∙ with_last c.args.table c.args.self.now.changing.items in
    λ i. record (world c.args.self.now) { changing = is i }

pub returns-clause-keeps : goal.returns-clause-keeps
returns-clause-keeps c =
    let is : reverse c.push.new.self.items ≡ c.args.table ∷ reverse c.args.self.now.changing.items = ap (λ (xs : List Name). reverse xs) c.in_ok-push.ensures.items ∙ with_last c.args.table c.args.self.now.changing.items in
    λ i. record (kept c.args.self.now) { changing = is i }
