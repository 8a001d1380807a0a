use Rattle.std.proofs.Common.{sym, subst, List}
use Rattle.pl_change.specs.Running.{AreSame, WhatIsSame}
use Rattle.pl_resolved.specs.declared.expression.RExpr.{RExpr}
use Rattle.pl_targets.specs.declared.change.RWhat.{RWhat}
use Rattle.pl_change.proofs.asking.what_asks.Goals as goal

pub returns-in-Insert : goal.returns-in-Insert
returns-in-Insert g c absent calls these those =
    subst (λ (what : RWhat). WhatIsSame calls these those what) (sym c.in-Insert.is) (c.source_asks.ensures absent calls these those)

pub returns-else-any_has_query : goal.returns-else-any_has_query
returns-else-any_has_query g c absent calls these those =
    subst (λ (what : RWhat). WhatIsSame calls these those what) (sym c.in-Update.is)
    (subst (λ (list : List RExpr). AreSame calls these those list) c.as_slice.ensures (c.any_has_query.ensures c.if-any_has_query.false calls these those), c.if_has_query.ensures absent calls these those)

pub returns-in-Delete : goal.returns-in-Delete
returns-in-Delete g c absent calls these those =
    subst (λ (what : RWhat). WhatIsSame calls these those what) (sym c.in-Delete.is) (c.if_has_query-in-Delete.ensures absent calls these those)
