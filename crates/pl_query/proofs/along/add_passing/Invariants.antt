use Rattle.std.proofs.Common.{◌≡◌, drop, length}
use Rattle.pl_product.specs.Product.{condition}
use Rattle.pl_query.specs.Along.{along}
use Rattle.pl_query.specs.Rows.{in_turn}
use Rattle.pl_query.specs.Running.{kept}
use Rattle.pl_value.specs.Frames.{rows_of}
use Rattle.pl_query.proofs.along.add_passing.Given as goal

abbrev pub invariant-loop-at : goal.invariant-loop-at
invariant-loop-at g l =
    let adds = along (condition g.C.Caller.calls (g.S.Subqueries.sub l.sub) l.filter) l.pairs l.count (rows_of l.fn.stands.items) in
    record {
      reads : in_turn adds l.bundles (0, kept l.fn.running) l.fn.caller ≡ in_turn adds (drop l.at l.bundles) (l.passed, kept l.running) l.caller;
      stands : rows_of l.stands.items ≡ rows_of l.fn.stands.items;
      long : length l.running.columns.items ≡ length l.pairs;
    }
