use Rattle.std.proofs.Common.{◌≡◌, ◌∙◌, [], List, ap, rules, sym}
use Rattle.pl_quick.proofs.Olds.{put_back_on}
use Rattle.pl_quick.proofs.old.undo.Goals as goal
use Rattle.pl_quick.specs.Old.{undone, undone_in}
use Rattle.pl_quick.specs.declared.old.Old.{Old}

pub loop-old-preserved : goal.loop-old-preserved
loop-old-preserved c =
    put_back_on (undone_in c.args.scratch.now) c.loop-old.scratch.olds.items c.pop.new.self.items c.in-Some.old _ c.loop-old.scratch.values c.set.new.values c.loop-old.invariant c.in-Some.ensures.items c.value_of.ensures c.set.ensures

pub returns : goal.returns
returns c =
    let none : c.loop-old.scratch.olds.items ≡ [] = search rules in
    sym (ap (λ (os : List Old). undone os c.loop-old.scratch.values) none) ∙ c.loop-old.invariant
