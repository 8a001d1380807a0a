use Rattle.std.proofs.Common.{◌≡◌, ◌∙◌, ◌++◌, length, Bool, refl, sym, ap, subst, arith, rules, vec_len}
use Rattle.pl_journal.specs.Operation.{apply}
use Rattle.pl_journal.specs.Journal.{Becomes}
use Rattle.pl_journal.proofs.Payload.{one_more, stops, all_applied, moved}
use Rattle.pl_journal.proofs.journal.Journal.apply_all.Goals as goal

pub loop-op-init : goal.loop-op-init
loop-op-init c =
    let given = c.into_iter-op-iterator.ensures.into_iter_gives in
    record {
      applied = refl;
      settled = c.requires.settled;
      unmarked = c.requires.unmarked;
      split = sym given.0;
      counted = ap length given.0 ∙ (let counts : length c.args.ops.items ≡ vec_len c.args.ops = search rules in counts) ∙ sym given.1;
    }

pub returns-then-not-branch-clause-done : goal.returns-then-not-branch-clause-done
returns-then-not-branch-clause-done c =
    let was = c.loop-op.invariant in
    let db = c.loop-op.self.now in
    let none = subst (λ (b : Bool). Becomes b db c.apply.new.self.now (apply c.in-Some.op db)) c.if-not-branch.true c.in_ok-apply.ensures.done in
    stops c.args.ops.items c.loop-op.yielded c.next.new.self.rest.items c.in-Some.op c.args.self.now.now db (was.split ∙ ap (λ l. c.loop-op.yielded ++ l) c.in-Some.ensures.steps.0) was.applied none.0

pub loop-op-preserved : goal.loop-op-preserved
loop-op-preserved c =
    let was = c.loop-op.invariant in
    let db = c.loop-op.self.now in
    let steps = c.in-Some.ensures.steps in
    let done = subst (λ (b : Bool). Becomes b db c.apply.new.self.now (apply c.in-Some.op db)) c.if-not-branch.false c.in_ok-apply.ensures.done in
    record {
      applied = one_more c.loop-op.yielded c.in-Some.op c.args.self.now.now db c.apply.new.self.now was.applied done;
      settled = c.apply.ensures.settled;
      unmarked = c.apply.ensures.unmarked;
      split = moved c.args.ops.items c.loop-op.yielded c.loop-op.op-iterator.rest.items c.next.new.self.rest.items c.in-Some.op was.split steps.0;
      counted = omega (arith, was.counted, ap length steps.0, steps.1);
    }

pub returns-clause-done : goal.returns-clause-done
returns-clause-done c =
    let was = c.loop-op.invariant in
    all_applied c.args.ops.items c.loop-op.yielded c.loop-op.op-iterator.rest.items c.args.self.now.now c.loop-op.self.now was.split (was.counted ∙ c.in-None.ensures.steps.0) was.applied
