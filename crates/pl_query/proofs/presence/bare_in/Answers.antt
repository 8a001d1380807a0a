use Rattle.std.proofs.Common.{List, refl, subst, sym}
use Rattle.pl_query.specs.Few.{IsOnly}
use Rattle.pl_resolved.specs.declared.query.RJoin.{RJoin}
use Rattle.pl_query.proofs.presence.bare_in.Goals as goal

pub returns : goal.returns
returns g c = record {
  name = c.in_ok-name.name;
  only = subst (λ (joins : List RJoin). IsOnly joins c.in_ok-name.name) c.as_slice.ensures c.in_ok-name.ensures;
  rows = c.in_ok-bundles.ensures;
  where_is = sym c.in_ok-condition.ensures;
  items = sym c.as_slice-2.ensures;
  groups = (c.if-not-has_rows_alone.ensures refl).0;
  offset = (c.if-not-has_rows_alone.ensures refl).1;
  limit = (c.if-not-has_rows_alone.ensures refl).2;
}
