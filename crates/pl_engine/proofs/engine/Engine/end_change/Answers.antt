use Rattle.std.proofs.Common.{◌≡◌, drop, reverse, sym}
use Rattle.std.specs.Prelude.{vec_len}
use Rattle.pl_engine.proofs.Turned.{without_last}
use Rattle.pl_engine.proofs.engine.Engine.end_change.Goals as goal
use Rattle.pl_engine.specs.Engines.{kept, world}

pub returns-clause-is : goal.returns-clause-is
returns-clause-is c =
    let is : drop 1 (reverse c.args.self.now.changing.items) ≡ reverse c.pop.new.self.items = without_last c.args.self.now.changing.items c.pop.new.self.items c.pop.result (vec_len c.args.self.now.changing) (vec_len c.pop.new.self) c.pop.ensures.items c.pop.ensures.cases c.pop.ensures.rest in
    λ i. record (world c.args.self.now) { changing = sym is i }

pub returns-clause-keeps : goal.returns-clause-keeps
returns-clause-keeps c =
    let is : drop 1 (reverse c.args.self.now.changing.items) ≡ reverse c.pop.new.self.items = without_last c.args.self.now.changing.items c.pop.new.self.items c.pop.result (vec_len c.args.self.now.changing) (vec_len c.pop.new.self) c.pop.ensures.items c.pop.ensures.cases c.pop.ensures.rest in
    λ i. record (kept c.args.self.now) { changing = sym is i }
