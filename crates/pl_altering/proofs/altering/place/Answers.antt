use Rattle.std.proofs.Common.{IfOk, List, Option, false, subst, sym}
use Rattle.pl_altering.proofs.altering.place.Goals as goal
use Rattle.pl_bodies.specs.declared.simple.IntoClause.{IntoClause}
use Rattle.pl_querying.specs.pl_engine.Engines.{Quiet, world}
use Rattle.pl_world.specs.Commands.{into, returned}
use Rattle.pl_world.specs.Resolving.{Variable}

pub returns-in-Some-clause-is : goal.returns-in-Some-clause-is
returns-in-Some-clause-is c =
    let w = world c.args.engine.now in
    subst (λ (k : Option IntoClause). IfOk c.into.result (λ o. Quiet (returned k c.args.a.now c.args.rows.now c.args.at w) o c.args.engine.now c.into.new.engine)) (sym c.in-Some.is)
    (subst (λ (vs : List Variable). IfOk c.into.result (λ o. Quiet (into c.in-Some.clause.is_strict false vs c.args.rows.now c.args.at w) o c.args.engine.now c.into.new.engine)) c.variables.ensures c.into.ensures.is)

pub returns-in-None-clause-is : goal.returns-in-None-clause-is
returns-in-None-clause-is c =
    let w = world c.args.engine.now in
    subst (λ (k : Option IntoClause). Quiet (returned k c.args.a.now c.args.rows.now c.args.at w) c.refuse_rows.result c.args.engine.now c.args.engine.now) (sym c.in-None.is) c.refuse_rows.ensures
