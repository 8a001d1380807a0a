use Rattle.std.proofs.Common.{◌≡◌, ◌++◌, length, map}
use Rattle.std.specs.List.{filter_map}
use Rattle.pl_ddl.specs.Views.{rule_view}
use Rattle.pl_ddl.specs.Written.{rule_behind}
use Rattle.pl_ddl.proofs.written.add_behind.Given as goal

abbrev pub invariant-loop-behind : goal.invariant-loop-behind
invariant-loop-behind l =
    map rule_view l.fn.rules.items ++ filter_map (rule_behind l.column) l.fn.behind
    ≡ map rule_view l.rules.items ++ filter_map (rule_behind l.column) l.behind

abbrev pub decreases-loop-behind : goal.decreases-loop-behind
decreases-loop-behind l = length l.behind
