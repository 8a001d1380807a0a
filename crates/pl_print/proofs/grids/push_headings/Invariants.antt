use Rattle.std.proofs.Common.{◌≡◌, ◌++◌, take, codes}
use Rattle.std.specs.List.{join_by}
use Rattle.pl_print.proofs.Joins.{separator_after}
use Rattle.pl_print.proofs.grids.push_headings.Given as goal

abbrev pub invariant-loop-head : goal.invariant-loop-head
invariant-loop-head l =
    (l.separator ≡ separator_after (codes "|") (take l.head-index l.heads)) ×
    (l.out.items ≡ l.initial.out.items ++ join_by (λ head. head) (codes "|") (take l.head-index l.heads))
