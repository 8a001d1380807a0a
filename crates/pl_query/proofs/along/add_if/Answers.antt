use Rattle.std.proofs.Common.{◌∙◌, ap, refl, Bool, true, ℕ}
use Rattle.pl_product.specs.Changed.{found}
use Rattle.pl_product.specs.Product.{condition, passes}
use Rattle.pl_query.specs.Along.{along_if}
use Rattle.pl_query.specs.Running.{Kept, kept}
use Rattle.pl_value.specs.Frames.{rows_of}
use Rattle.pl_value.specs.Reading.{got}
use Rattle.pl_value.specs.Steps.{goes}
use Rattle.pl_query.proofs.along.add_if.Goals as goal

pub returns-then-branch-clause-reads : goal.returns-then-branch-clause-reads
returns-then-branch-clause-reads g c =
    let p = condition g.C.Caller.calls (g.S.Subqueries.sub c.args.sub.now) c.args.filter in
    let left = c.passes_if.new.caller in
    goes {A = Bool} {B = ℕ × Kept} _ (passes p (rows_of c.args.frame.now) c.args.caller.now) (λ b w. along_if b c.args.pairs.now c.args.count (rows_of c.args.frame.now) (c.args.passed, kept c.args.running.now) w) true left
    (found c.add_passed.result (kept c.add_passed.new.running)) left refl (c.in_ok-passes_if.ensures ∙ ap (λ (b : Bool). got b left) c.if-branch.true) (c.add_passed.ensures.reads left)
