use Rattle.std.proofs.Common.{◌≡◌, ◌+◌, ◌*◌, [], max, map, drop}
use denote.Param.Weighed.{most}
use Rattle.pl_names.specs.Names.{around}
use Rattle.pl_names.specs.Sources.{no_items}
use Rattle.pl_scope.specs.Expressions.{arguments_on, arms_on}
use Rattle.pl_scope.specs.Gathered.{chain_on, gather}
use Rattle.pl_scope.specs.Steps.{no_froms}
use Rattle.pl_scope.specs.Queries.{froms_on, joins_on, items_on, groups_on, keys_on}
use Rattle.pl_scope.specs.Resolution.{part, argument_part, from_part, item_part, term_view, factor_view, arm_view, key_view, join_view}
use Rattle.pl_tree.specs.declared.tree.Argument.TheShapes.{weighed-Expr-Case-0, weighed-Expr-NullIf-0, weighed-Expr-Subquery-0}
use Rattle.pl_tree.specs.declared.tree.Arm.{size-Arm}
use Rattle.pl_tree.specs.declared.tree.Expr.{size-Expr}
use Rattle.pl_tree.specs.declared.tree.Factor.{size-Factor}
use Rattle.pl_tree.specs.declared.tree.Query.{size-Query}
use Rattle.pl_tree.specs.declared.tree.Term.{size-Term}
use Rattle.pl_typing.specs.Calls.{no_arguments}
use Rattle.pl_typing.specs.Cases.{no_arms}
use Rattle.pl_scope.proofs.+resolving.Given as goal

abbrev pub invariant-expressions::gathered_on-loop-part : goal.invariant-expressions::gathered_on-loop-part
invariant-expressions::gathered_on-loop-part l = gather (map part l.list) l.fn.first (around l.names) l.fn.made ≡ gather (map part (drop l.part-index l.list)) l.done (around l.names) l.made

abbrev pub invariant-expressions::arguments_on-loop-part : goal.invariant-expressions::arguments_on-loop-part
invariant-expressions::arguments_on-loop-part l = arguments_on (map argument_part l.list) no_arguments (around l.names) l.fn.made ≡ arguments_on (map argument_part (drop l.part-index l.list)) l.done (around l.names) l.made

abbrev pub invariant-expressions::terms_on-loop-term : goal.invariant-expressions::terms_on-loop-term
invariant-expressions::terms_on-loop-term l = chain_on (map term_view l.terms) l.fn.first (around l.names) l.fn.made ≡ chain_on (map term_view (drop l.term-index l.terms)) l.run (around l.names) l.made

abbrev pub invariant-expressions::factors_on-loop-factor : goal.invariant-expressions::factors_on-loop-factor
invariant-expressions::factors_on-loop-factor l = chain_on (map factor_view l.factors) l.fn.first (around l.names) l.fn.made ≡ chain_on (map factor_view (drop l.factor-index l.factors)) l.run (around l.names) l.made

abbrev pub invariant-expressions::arms_on-loop-arm : goal.invariant-expressions::arms_on-loop-arm
invariant-expressions::arms_on-loop-arm l = arms_on l.operand (map arm_view l.arms) no_arms (around l.names) l.fn.made ≡ arms_on l.operand (map arm_view (drop l.arm-index l.arms)) l.done (around l.names) l.made

abbrev pub invariant-queries::froms_on-loop-part : goal.invariant-queries::froms_on-loop-part
invariant-queries::froms_on-loop-part l = froms_on (map from_part l.list) l.row no_froms (around l.names) l.fn.made ≡ froms_on (map from_part (drop l.part-index l.list)) l.row l.done (around l.names) l.made

abbrev pub invariant-queries::joins_on-loop-join : goal.invariant-queries::joins_on-loop-join
invariant-queries::joins_on-loop-join l = joins_on (map join_view l.joins) l.row l.fn.first (around l.names) l.fn.made ≡ joins_on (map join_view (drop l.join-index l.joins)) l.row l.done (around l.names) l.made

abbrev pub invariant-queries::items_on-loop-part : goal.invariant-queries::items_on-loop-part
invariant-queries::items_on-loop-part l = items_on (map item_part l.list) l.sources no_items (around l.names) l.fn.made ≡ items_on (map item_part (drop l.part-index l.list)) l.sources l.done (around l.names) l.made

abbrev pub invariant-queries::groups_on-loop-part : goal.invariant-queries::groups_on-loop-part
invariant-queries::groups_on-loop-part l = groups_on (map part l.list) l.sources l.items [] (around l.names) l.fn.made ≡ groups_on (map part (drop l.part-index l.list)) l.sources l.items l.done (around l.names) l.made

abbrev pub invariant-queries::keys_on-loop-part : goal.invariant-queries::keys_on-loop-part
invariant-queries::keys_on-loop-part l = keys_on (map key_view l.list) l.is_distinct l.heads l.fn.first (around l.names) l.fn.made ≡ keys_on (map key_view (drop l.part-index l.list)) l.is_distinct l.heads l.done (around l.names) l.made

-- ---- what falls with each call: six times the depth of what is read, and how many calls may follow
-- that don't go into its parts; of several parts the depth of the deepest

abbrev pub decreases-expressions::expr : goal.decreases-expressions::expr
decreases-expressions::expr l = 6 * goal.size-expressions::expr l

abbrev pub decreases-expressions::boxed : goal.decreases-expressions::boxed
decreases-expressions::boxed l = 6 * goal.size-expressions::boxed l + 1

abbrev pub decreases-expressions::call : goal.decreases-expressions::call
decreases-expressions::call l = 6 * goal.size-expressions::call l + 3

abbrev pub decreases-expressions::arguments_on : goal.decreases-expressions::arguments_on
decreases-expressions::arguments_on l = 6 * goal.size-expressions::arguments_on l + 2

abbrev pub decreases-expressions::argument : goal.decreases-expressions::argument
decreases-expressions::argument l = 6 * goal.size-expressions::argument l + 1

abbrev pub decreases-expressions::second : goal.decreases-expressions::second
decreases-expressions::second l = 6 * goal.size-expressions::second l + 2

abbrev pub decreases-expressions::gathered_on : goal.decreases-expressions::gathered_on
decreases-expressions::gathered_on l = 6 * goal.size-expressions::gathered_on l + 1

abbrev pub decreases-expressions::terms_on : goal.decreases-expressions::terms_on
decreases-expressions::terms_on l = 6 * goal.size-expressions::terms_on l + 1

abbrev pub decreases-expressions::factors_on : goal.decreases-expressions::factors_on
decreases-expressions::factors_on l = 6 * goal.size-expressions::factors_on l + 1

abbrev pub decreases-expressions::maybe : goal.decreases-expressions::maybe
decreases-expressions::maybe l = 6 * goal.size-expressions::maybe l + 1

abbrev pub decreases-expressions::maybe_condition : goal.decreases-expressions::maybe_condition
decreases-expressions::maybe_condition l = 6 * goal.size-expressions::maybe_condition l + 2

abbrev pub decreases-expressions::arms_on : goal.decreases-expressions::arms_on
decreases-expressions::arms_on l = 6 * goal.size-expressions::arms_on l + 1

abbrev pub decreases-forms::cast : goal.decreases-forms::cast
decreases-forms::cast l = 6 * goal.size-forms::cast l + 2

abbrev pub decreases-forms::signed : goal.decreases-forms::signed
decreases-forms::signed l = 6 * goal.size-forms::signed l + 2

abbrev pub decreases-forms::asked : goal.decreases-forms::asked
decreases-forms::asked l = 6 * goal.size-forms::asked l + 2

abbrev pub decreases-forms::negated : goal.decreases-forms::negated
decreases-forms::negated l = 6 * goal.size-forms::negated l + 2

abbrev pub decreases-forms::null_if : goal.decreases-forms::null_if
decreases-forms::null_if l = 6 * max (goal.size-forms::null_if l) (weighed-Expr-NullIf-0.weight _ size-Expr l.right.now) + 3

abbrev pub decreases-forms::like : goal.decreases-forms::like
decreases-forms::like l = 6 * max (goal.size-forms::like l) (weighed-Expr-NullIf-0.weight _ size-Expr l.pattern.now) + 3

abbrev pub decreases-forms::compared : goal.decreases-forms::compared
decreases-forms::compared l = 6 * max (goal.size-forms::compared l) (weighed-Expr-NullIf-0.weight _ size-Expr l.right.now) + 3

abbrev pub decreases-forms::distinct : goal.decreases-forms::distinct
decreases-forms::distinct l = 6 * max (goal.size-forms::distinct l) (weighed-Expr-NullIf-0.weight _ size-Expr l.right.now) + 3

abbrev pub decreases-forms::between : goal.decreases-forms::between
decreases-forms::between l = 6 * max (goal.size-forms::between l) (max (weighed-Expr-NullIf-0.weight _ size-Expr l.low.now) (weighed-Expr-NullIf-0.weight _ size-Expr l.high.now)) + 3

abbrev pub decreases-forms::product : goal.decreases-forms::product
decreases-forms::product l = 6 * max (goal.size-forms::product l) (most size-Factor l.factors.now) + 2

abbrev pub decreases-forms::sum : goal.decreases-forms::sum
decreases-forms::sum l = 6 * max (goal.size-forms::sum l) (most size-Term l.terms.now) + 2

abbrev pub decreases-forms::picked : goal.decreases-forms::picked
decreases-forms::picked l = 6 * goal.size-forms::picked l + 2

abbrev pub decreases-forms::in_list : goal.decreases-forms::in_list
decreases-forms::in_list l = 6 * max (goal.size-forms::in_list l) (most size-Expr l.list.now) + 2

abbrev pub decreases-forms::row : goal.decreases-forms::row
decreases-forms::row l = 6 * goal.size-forms::row l + 2

abbrev pub decreases-forms::concat : goal.decreases-forms::concat
decreases-forms::concat l = 6 * goal.size-forms::concat l + 2

abbrev pub decreases-forms::all_of : goal.decreases-forms::all_of
decreases-forms::all_of l = 6 * goal.size-forms::all_of l + 2

abbrev pub decreases-forms::any_of : goal.decreases-forms::any_of
decreases-forms::any_of l = 6 * goal.size-forms::any_of l + 2

abbrev pub decreases-forms::scalar : goal.decreases-forms::scalar
decreases-forms::scalar l = 6 * goal.size-forms::scalar l + 5

abbrev pub decreases-forms::exists : goal.decreases-forms::exists
decreases-forms::exists l = 6 * goal.size-forms::exists l + 5

abbrev pub decreases-forms::in_query : goal.decreases-forms::in_query
decreases-forms::in_query l = 6 * max (goal.size-forms::in_query l) (weighed-Expr-Subquery-0.weight _ size-Query l.inner.now) + 5

abbrev pub decreases-forms::case : goal.decreases-forms::case
decreases-forms::case l = 6 * max (goal.size-forms::case l) (max (most size-Arm l.arms.now) (weighed-Expr-Case-0.weight _ size-Expr l.otherwise.now)) + 2

abbrev pub decreases-queries::query : goal.decreases-queries::query
decreases-queries::query l = 6 * goal.size-queries::query l + 4

abbrev pub decreases-queries::select : goal.decreases-queries::select
decreases-queries::select l = 6 * goal.size-queries::select l + 3

abbrev pub decreases-queries::arrange : goal.decreases-queries::arrange
decreases-queries::arrange l = 6 * goal.size-queries::arrange l + 3

abbrev pub decreases-queries::froms_on : goal.decreases-queries::froms_on
decreases-queries::froms_on l = 6 * goal.size-queries::froms_on l + 1

abbrev pub decreases-queries::from : goal.decreases-queries::from
decreases-queries::from l = 6 * goal.size-queries::from l

abbrev pub decreases-queries::joins_on : goal.decreases-queries::joins_on
decreases-queries::joins_on l = 6 * goal.size-queries::joins_on l + 5

abbrev pub decreases-queries::join_on : goal.decreases-queries::join_on
decreases-queries::join_on l = 6 * goal.size-queries::join_on l + 4

abbrev pub decreases-queries::join_condition : goal.decreases-queries::join_condition
decreases-queries::join_condition l = 6 * goal.size-queries::join_condition l + 3

abbrev pub decreases-queries::items_on : goal.decreases-queries::items_on
decreases-queries::items_on l = 6 * goal.size-queries::items_on l + 2

abbrev pub decreases-queries::item_on : goal.decreases-queries::item_on
decreases-queries::item_on l = 6 * goal.size-queries::item_on l + 1

abbrev pub decreases-queries::groups_on : goal.decreases-queries::groups_on
decreases-queries::groups_on l = 6 * goal.size-queries::groups_on l + 2

abbrev pub decreases-queries::group_on : goal.decreases-queries::group_on
decreases-queries::group_on l = 6 * goal.size-queries::group_on l + 1

abbrev pub decreases-queries::keys_on : goal.decreases-queries::keys_on
decreases-queries::keys_on l = 6 * goal.size-queries::keys_on l + 2

abbrev pub decreases-queries::key_on : goal.decreases-queries::key_on
decreases-queries::key_on l = 6 * goal.size-queries::key_on l + 1

abbrev pub decreases-queries::maybe_limit : goal.decreases-queries::maybe_limit
decreases-queries::maybe_limit l = 6 * goal.size-queries::maybe_limit l + 2
