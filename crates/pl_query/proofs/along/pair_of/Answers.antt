use Rattle.std.proofs.Common.{◌≡◌, ◌∙◌, ap, sym, List, rules}
use Rattle.pl_query.specs.Query.{argument}
use Rattle.pl_resolved.specs.declared.expression.RExpr.{RExpr}
use Rattle.pl_query.proofs.along.pair_of.Goals as goal

pub returns-in-Some-Some : goal.returns-in-Some-Some
returns-in-Some-Some g c = λ calls sub frame w.
    let same : c.as_slice-arguments.result.now ≡ c.args.aggregate.now.arguments = search rules in (
      ap (λ (xs : List RExpr). argument calls sub xs 0 frame w) (sym same) ∙ c.in-Some-Some.ensures calls sub frame w,
      ap (λ (xs : List RExpr). argument calls sub xs 1 frame w) (sym same) ∙ c.in-Some-Some.ensures' calls sub frame w,
    )
