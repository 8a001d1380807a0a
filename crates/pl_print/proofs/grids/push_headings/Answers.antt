use Rattle.std.proofs.Common.{◌≡◌, ℕ, List, ◌++◌, codes, rules}
use Rattle.pl_print.proofs.Joins.{one_more}
use Rattle.pl_print.proofs.grids.push_headings.Goals as goal

pub loop-head-preserved : goal.loop-head-preserved
loop-head-preserved c =
    let between : c.extend_from_slice.new.self.items ≡ c.loop-head.out.items ++ c.loop-head.separator.now = search rules in
    let after : c.extend_from_slice-in-loop-head.new.self.items ≡ c.extend_from_slice.new.self.items ++ c.head-item.result = search rules in
    one_more (λ (head : List ℕ). head) (codes "|") c.args.heads.now c.loop-head.head-index c.head-item.result c.args.out.now.items c.loop-head.separator.now _ _ _ c.loop-head-test.true c.head-item.is c.loop-head.invariant.0 c.loop-head.invariant.1 between after
