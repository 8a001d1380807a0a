use Rattle.std.proofs.Common.{[], ◌++◌, ◌∙◌, ◌∷◌, List, ap, subst}
use Rattle.pl_base.specs.declared.value.Value.{Value}
use Rattle.pl_quick.proofs.Olds.{assigned_on}
use Rattle.pl_quick.proofs.old.assign.Goals as goal
use Rattle.pl_quick.specs.Old.{IsOld, undone}
use Rattle.pl_quick.specs.declared.old.Old.{Old}

pub returns-clause-tracked : goal.returns-clause-tracked
returns-clause-tracked c =
    ap (λ (os : List Old). undone os c.set.new.values) c.in-Ok.ensures.items
    ∙ (ap (λ (row : List Value). undone (c.args.scratch.now.olds.items ++ c.in-Some.old ∷ []) row) c.set.ensures ∙ assigned_on c.args.scratch.now.olds.items c.in-Some.old c.args.column c.args.value c.args.scratch.now.values (subst (λ (row : List Value). IsOld c.in-Some.old c.args.column row) c.as_slice.ensures c.in-Some.ensures))
