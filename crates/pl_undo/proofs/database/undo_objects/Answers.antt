use Rattle.std.proofs.Common.{◌≡◌, ◌<◌, ◌+◌, ◌∙◌, List, ap, length, arith}
use Rattle.pl_catalog.specs.declared.object.Object.{Object}
use Rattle.pl_history.specs.History.{History, back}
use Rattle.pl_undo.specs.Store.{objects_of, state_at}
use Rattle.pl_undo.proofs.Marks.{at_back, length_back, objects_undone}
use Rattle.pl_undo.proofs.database.undo_objects.Goals as goal

pub loop-catalog-preserved : goal.loop-catalog-preserved
loop-catalog-preserved c =
    let old : History (List Object) = objects_of c.loop-catalog.catalog in
    let below : c.args.start < length old.past = omega (arith, c.loop-catalog-test.true, c.changes.ensures) in
    let is : objects_of c.undo.new.self ≡ back old = objects_undone c.loop-catalog.catalog c.undo.new.self c.undo.ensures.objects c.undo.ensures.past in
    let l : length (back old).past + 1 ≡ length old.past = length_back old (omega (arith, below)) in
    let n : length c.undo.new.self.past ≡ length (back old).past = ap (λ (h : History (List Object)). length h.past) is in
    record {
      same = λ n le. ap (λ (h : History (List Object)). state_at h n) is ∙ (at_back old n (omega (arith, le, below)) ∙ c.loop-catalog.invariant.same n le);
      long = omega (arith, below, l, n);
    }
