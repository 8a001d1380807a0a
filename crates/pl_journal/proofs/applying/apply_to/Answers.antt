use Rattle.std.proofs.Common.{IfOk, subst, sym}
use Rattle.pl_base.specs.declared.operation.Op.{Op}
use Rattle.pl_journal.specs.Journal.{Becomes}
use Rattle.pl_journal.specs.Operation.{apply}
use Rattle.pl_journal.proofs.applying.apply_to.Goals as goal

pub returns-in-Define-clause-done : goal.returns-in-Define-clause-done
returns-in-Define-clause-done c =
    subst (λ (op : Op). IfOk c.apply_define.result (λ done. Becomes done c.args.store.now.now c.apply_define.new.store.now (apply op c.args.store.now.now))) (sym c.in-Define.is) c.apply_define.ensures.done

pub returns-in-Put-clause-done : goal.returns-in-Put-clause-done
returns-in-Put-clause-done c =
    subst (λ (op : Op). IfOk c.apply_put.result (λ done. Becomes done c.args.store.now.now c.apply_put.new.store.now (apply op c.args.store.now.now))) (sym c.in-Put.is) c.apply_put.ensures.done

pub returns-in-Remove-clause-done : goal.returns-in-Remove-clause-done
returns-in-Remove-clause-done c =
    subst (λ (op : Op). IfOk c.apply_remove.result (λ done. Becomes done c.args.store.now.now c.apply_remove.new.store.now (apply op c.args.store.now.now))) (sym c.in-Remove.is) c.apply_remove.ensures.done

pub returns-in-Next-clause-done : goal.returns-in-Next-clause-done
returns-in-Next-clause-done c =
    subst (λ (op : Op). Becomes c.apply_next.result c.args.store.now.now c.apply_next.new.store.now (apply op c.args.store.now.now)) (sym c.in-Next.is) c.apply_next.ensures.done
