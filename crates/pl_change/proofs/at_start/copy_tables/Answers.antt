use Rattle.std.proofs.Common.{◌∙◌, sym, ap, subst, List, map, take_all, arith}
use Rattle.pl_change.proofs.Copying.{agree}
use Rattle.pl_change.specs.Running.{copied, copy_of}
use Rattle.pl_change.specs.declared.at_start.Copied.{Copied}
use Rattle.pl_inside.specs.Agreement.{AgreeOn}
use Rattle.pl_journal.specs.Rows.{tables_of}
use Rattle.pl_change.proofs.at_start.copy_tables.Goals as goal

pub returns : goal.returns
returns c =
    subst (λ (list : List Copied). AgreeOn c.args.names.now (copied list) (tables_of c.args.journal.now.now.tables))
    (sym (c.loop-name.invariant ∙ ap (map (copy_of c.args.journal.now.now.tables)) (take_all c.loop-name.name-index c.args.names.now (omega (arith, c.loop-name-test.false)))))
    (agree c.args.journal.now.now.tables c.args.names.now)
