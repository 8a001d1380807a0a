use Rattle.std.proofs.Common.{◌≡◌, ◌<◌, ◌+◌, ◌∙◌, List, ap, length, arith}
use Rattle.pl_history.specs.History.{History, back}
use Rattle.pl_tables.specs.Named.{Named}
use Rattle.pl_undo.specs.Store.{state_at}
use Rattle.pl_undo.proofs.Marks.{at_back, length_back}
use Rattle.pl_undo.proofs.database.undo_tables.Goals as goal

pub loop-tables-preserved : goal.loop-tables-preserved
loop-tables-preserved c =
    let t = c.loop-tables.tables in
    let below : c.args.start < length t.past = omega (arith, c.loop-tables-test.true, c.changes.ensures) in
    let l : length (back t).past + 1 ≡ length t.past = length_back t (omega (arith, below)) in
    let n : length c.undo.new.self.past ≡ length (back t).past = ap (λ (h : History (List Named)). length h.past) c.undo.ensures.back in
    record {
      same = λ n le. ap (λ (h : History (List Named)). state_at h n) c.undo.ensures.back ∙ (at_back t n (omega (arith, le, below)) ∙ c.loop-tables.invariant.same n le);
      long = omega (arith, below, l, n);
    }
