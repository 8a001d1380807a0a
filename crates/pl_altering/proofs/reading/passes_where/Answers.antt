use Rattle.std.proofs.Common.{sym, subst, Bool, Option}
use Rattle.std.specs.Prelude.{option_map}
use Rattle.pl_product.specs.Product as product
use Rattle.pl_resolved.specs.declared.expression.RExpr.{RExpr}
use Rattle.pl_value.specs.Answers.{Reads}
use Rattle.pl_value.specs.Frames.{rows_of}
use Rattle.pl_value.specs.Meaning.{passes, value}
use Rattle.pl_altering.proofs.reading.passes_where.Goals as goal

pub returns-in-Some : goal.returns-in-Some
returns-in-Some g c =
    subst (λ (o : Option RExpr). Reads {A = Bool} (product.passes (option_map (value g.C.Caller.calls (g.S.Subqueries.sub c.args.sub.now)) o) (rows_of c.args.frame.now) c.args.caller.now) c.passes.result c.passes.new.caller) (sym c.in-Some.is)
    (subst (λ (e : RExpr). Reads {A = Bool} (passes (value g.C.Caller.calls (g.S.Subqueries.sub c.args.sub.now) e) (rows_of c.args.frame.now) c.args.caller.now) c.passes.result c.passes.new.caller) c.get.ensures c.passes.ensures)
