use Rattle.std.proofs.Common.{◌≡◌, ◌+◌, ◌∙◌, Some, drop, length, map, rules, arith, refl}
use Rattle.std.proofs.lemmas.Grind.{common_steps}
use Rattle.std.specs.Option.{option_map}
use Rattle.pl_names.specs.Names.{around}
use Rattle.pl_scope.proofs.Aggregates.{aggregate_called, from_arguments}
use Rattle.pl_scope.proofs.Equations.{part_pick, part_null_if, part_case_view, part_signed, part_product_view, part_sum_view, part_between, part_in_list, part_in_query, part_like, part_compare, part_is, part_is_distinct, part_not, from_function, from_joined, part_literal, part_parameter, part_name, part_qualified, part_call, part_count_rows, part_subquery, part_exists, part_row, part_cast, part_concat, part_and, part_or, argument_value, argument_named, from_table, from_query, item_value, item_all, item_all_of}
use Rattle.pl_scope.proofs.Following.{continues_err, continues_ok, follows_is, follows_stops}
use Rattle.pl_scope.proofs.Gathered.{and_meets, chain_meets, concat_meets, condition_meets, in_list_goes, in_list_stops, limit_meets, or_meets, pick_meets, row_meets}
use Rattle.pl_scope.proofs.InTurn.{ended, given, goes_on, next, step_goes, step_stops, stops}
use Rattle.pl_scope.proofs.Joining.{join_goes, join_stops}
use Rattle.pl_scope.proofs.Lifted.{lifted}
use Rattle.pl_scope.specs.Answers.{Meets, got, settled}
use Rattle.pl_scope.specs.Expressions.{arguments_on, no_aggregates, arms_on}
use Rattle.pl_scope.specs.Gathered.{chain_on, gather, gathered_with}
use Rattle.pl_scope.specs.Queries.{froms_on, joins_on, items_on, groups_on, keys_on}
use Rattle.pl_scope.specs.Steps.{put_beside}
use Rattle.pl_scope.specs.Resolution.{argument_part, part, from_part, item_part, term_view, factor_view, arm_view, key_view, join_view}
use Rattle.pl_typing.specs.Aggregates.{aggregate_named}
use Rattle.pl_typing.specs.Calls.{no_arguments}
use Rattle.pl_typing.specs.Operators.{stepped}
use Rattle.pl_scope.proofs.+resolving.Goals as goal

pub expressions::expr-returns-in-Literal : goal.expressions::expr-returns-in-Literal
expressions::expr-returns-in-Literal t c = rw (c.in-Literal.is, part_literal) (lifted _ _ _ c.literal.ensures)

pub expressions::expr-returns-in-Parameter : goal.expressions::expr-returns-in-Parameter
expressions::expr-returns-in-Parameter t c = rw (c.in-Parameter.is, part_parameter) (lifted _ _ _ c.parameter.ensures)

pub expressions::expr-returns-in-Name : goal.expressions::expr-returns-in-Name
expressions::expr-returns-in-Name t c = rw (c.in-Name.is, part_name) (lifted _ _ _ c.named.ensures)

pub expressions::expr-returns-in-Qualified : goal.expressions::expr-returns-in-Qualified
expressions::expr-returns-in-Qualified t c = rw (c.in-Qualified.is, part_qualified) (lifted _ _ _ c.qualified.ensures)

pub expressions::expr-returns-in-Call : goal.expressions::expr-returns-in-Call
expressions::expr-returns-in-Call t c = rw (c.in-Call.is, part_call, ← c.as_slice.ensures) (c.call.ensures)

pub expressions::expr-returns-in-CountRows : goal.expressions::expr-returns-in-CountRows
expressions::expr-returns-in-CountRows t c = rw (c.in-CountRows.is, part_count_rows) (c.count_rows.ensures)

pub expressions::expr-returns-in-Subquery : goal.expressions::expr-returns-in-Subquery
expressions::expr-returns-in-Subquery t c = rw (c.in-Subquery.is, part_subquery) c.scalar.ensures

pub expressions::expr-returns-in-Exists : goal.expressions::expr-returns-in-Exists
expressions::expr-returns-in-Exists t c = rw (c.in-Exists.is, part_exists) c.exists.ensures

pub expressions::expr-returns-in-Pick : goal.expressions::expr-returns-in-Pick
expressions::expr-returns-in-Pick t c = rw (c.in-Pick.is, part_pick, ← c.as_slice-in-Pick.ensures) c.picked.ensures

pub expressions::expr-returns-in-NullIf : goal.expressions::expr-returns-in-NullIf
expressions::expr-returns-in-NullIf t c = rw (c.in-NullIf.is, part_null_if) c.null_if.ensures

pub expressions::expr-returns-in-Row : goal.expressions::expr-returns-in-Row
expressions::expr-returns-in-Row t c = rw (c.in-Row.is, part_row, ← c.as_slice-in-Row.ensures) c.row.ensures

pub expressions::expr-returns-in-Case : goal.expressions::expr-returns-in-Case
expressions::expr-returns-in-Case t c = rw (c.in-Case.is, part_case_view, ← c.as_slice-in-Case.ensures) c.case.ensures

pub expressions::expr-returns-in-Cast : goal.expressions::expr-returns-in-Cast
expressions::expr-returns-in-Cast t c = rw (c.in-Cast.is, part_cast, ← c.as_slice-in-Cast.ensures) c.cast.ensures

pub expressions::expr-returns-in-Signed : goal.expressions::expr-returns-in-Signed
expressions::expr-returns-in-Signed t c = rw (c.in-Signed.is, part_signed, ← c.as_slice-in-Signed.ensures) c.signed.ensures

pub expressions::expr-returns-in-Product : goal.expressions::expr-returns-in-Product
expressions::expr-returns-in-Product t c = rw (c.in-Product.is, part_product_view, ← c.as_slice-in-Product.ensures) c.product.ensures

pub expressions::expr-returns-in-Sum : goal.expressions::expr-returns-in-Sum
expressions::expr-returns-in-Sum t c = rw (c.in-Sum.is, part_sum_view, ← c.as_slice-in-Sum.ensures) c.sum.ensures

pub expressions::expr-returns-in-Concat : goal.expressions::expr-returns-in-Concat
expressions::expr-returns-in-Concat t c = rw (c.in-Concat.is, part_concat, ← c.as_slice-in-Concat.ensures) c.concat.ensures

pub expressions::expr-returns-in-Between : goal.expressions::expr-returns-in-Between
expressions::expr-returns-in-Between t c = rw (c.in-Between.is, part_between) c.between.ensures

pub expressions::expr-returns-in-InList : goal.expressions::expr-returns-in-InList
expressions::expr-returns-in-InList t c = rw (c.in-InList.is, part_in_list, ← c.as_slice-in-InList.ensures) c.in_list.ensures

pub expressions::expr-returns-in-InQuery : goal.expressions::expr-returns-in-InQuery
expressions::expr-returns-in-InQuery t c = rw (c.in-InQuery.is, part_in_query) c.in_query.ensures

pub expressions::expr-returns-in-Like : goal.expressions::expr-returns-in-Like
expressions::expr-returns-in-Like t c = rw (c.in-Like.is, part_like) c.like.ensures

pub expressions::expr-returns-in-Compare : goal.expressions::expr-returns-in-Compare
expressions::expr-returns-in-Compare t c = rw (c.in-Compare.is, part_compare) c.compared.ensures

pub expressions::expr-returns-in-Is : goal.expressions::expr-returns-in-Is
expressions::expr-returns-in-Is t c = rw (c.in-Is.is, part_is) c.asked.ensures

pub expressions::expr-returns-in-IsDistinct : goal.expressions::expr-returns-in-IsDistinct
expressions::expr-returns-in-IsDistinct t c = rw (c.in-IsDistinct.is, part_is_distinct) c.distinct.ensures

pub expressions::expr-returns-in-Not : goal.expressions::expr-returns-in-Not
expressions::expr-returns-in-Not t c = rw (c.in-Not.is, part_not) c.negated.ensures

pub expressions::expr-returns-in-And : goal.expressions::expr-returns-in-And
expressions::expr-returns-in-And t c = rw (c.in-And.is, part_and, ← c.as_slice-in-And.ensures) c.all_of.ensures

pub expressions::expr-returns-in-Or : goal.expressions::expr-returns-in-Or
expressions::expr-returns-in-Or t c = rw (c.in-Or.is, part_or, ← c.as_slice-in-Or.ensures) c.any_of.ensures

pub expressions::arguments_on-returns-in_err-typed : goal.expressions::arguments_on-returns-in_err-typed
expressions::arguments_on-returns-in_err-typed t c = rw (next (λ l. arguments_on (map argument_part l) c.loop-part.done (around c.args.names.now) c.loop-part.made) c.args.list.now c.loop-part.part-index c.part-item.result _ c.loop-part-test.true c.part-item.is c.loop-part.invariant) (stops _ _ _ _ _ _ c.from_residual.ensures.1 c.in_err-typed.ensures)

pub expressions::arguments_on-loop-part-preserved : goal.expressions::arguments_on-loop-part-preserved
expressions::arguments_on-loop-part-preserved t c = rw (next (λ l. arguments_on (map argument_part l) c.loop-part.done (around c.args.names.now) c.loop-part.made) c.args.list.now c.loop-part.part-index c.part-item.result _ c.loop-part-test.true c.part-item.is c.loop-part.invariant, c.in_ok-typed.ensures, c.in_ok-done.ensures) refl

pub expressions::arguments_on-returns : goal.expressions::arguments_on-returns
expressions::arguments_on-returns t c = ended (λ l. arguments_on (map argument_part l) c.loop-part.done (around c.args.names.now) c.loop-part.made) c.args.list.now c.loop-part.part-index _ c.loop-part-test.false c.loop-part.invariant

pub expressions::arms_on-returns-in_err-when : goal.expressions::arms_on-returns-in_err-when
expressions::arms_on-returns-in_err-when t c = rw (next (λ l. arms_on c.args.operand.now (map arm_view l) c.loop-arm.done (around c.args.names.now) c.loop-arm.made) c.args.arms.now c.loop-arm.arm-index c.arm-item.result _ c.loop-arm-test.true c.arm-item.is c.loop-arm.invariant) (stops _ _ _ _ _ _ c.from_residual.ensures.1 c.in_err-when.ensures)

pub expressions::arms_on-returns-in_err-when-2 : goal.expressions::arms_on-returns-in_err-when-2
expressions::arms_on-returns-in_err-when-2 t c = rw (next (λ l. arms_on c.args.operand.now (map arm_view l) c.loop-arm.done (around c.args.names.now) c.loop-arm.made) c.args.arms.now c.loop-arm.arm-index c.arm-item.result _ c.loop-arm-test.true c.arm-item.is c.loop-arm.invariant) (goes_on _ _ _ _ _ _ c.in_ok-when.ensures (step_stops _ _ _ _ _ _ c.from_residual-in_err-when-2.ensures.1 c.in_err-when-2.ensures))

pub expressions::arms_on-returns-in_err-then : goal.expressions::arms_on-returns-in_err-then
expressions::arms_on-returns-in_err-then t c = rw (next (λ l. arms_on c.args.operand.now (map arm_view l) c.loop-arm.done (around c.args.names.now) c.loop-arm.made) c.args.arms.now c.loop-arm.arm-index c.arm-item.result _ c.loop-arm-test.true c.arm-item.is c.loop-arm.invariant) (goes_on _ _ _ _ _ _ c.in_ok-when.ensures (step_goes _ _ _ _ _ _ c.in_ok-when-2.ensures (stops _ _ _ _ _ _ c.from_residual-in_err-then.ensures.1 c.in_err-then.ensures)))

pub expressions::arms_on-loop-arm-preserved : goal.expressions::arms_on-loop-arm-preserved
expressions::arms_on-loop-arm-preserved t c = rw (next (λ l. arms_on c.args.operand.now (map arm_view l) c.loop-arm.done (around c.args.names.now) c.loop-arm.made) c.args.arms.now c.loop-arm.arm-index c.arm-item.result _ c.loop-arm-test.true c.arm-item.is c.loop-arm.invariant, c.in_ok-when.ensures, c.in_ok-when-2.ensures, c.in_ok-then.ensures, c.in_ok-done.ensures) refl

pub expressions::arms_on-returns : goal.expressions::arms_on-returns
expressions::arms_on-returns t c = ended (λ l. arms_on c.args.operand.now (map arm_view l) c.loop-arm.done (around c.args.names.now) c.loop-arm.made) c.args.arms.now c.loop-arm.arm-index _ c.loop-arm-test.false c.loop-arm.invariant

pub queries::groups_on-returns-in_err-key : goal.queries::groups_on-returns-in_err-key
queries::groups_on-returns-in_err-key t c = rw (next (λ l. groups_on (map part l) c.args.sources.now c.args.items.now c.loop-part.done (around c.args.names.now) c.loop-part.made) c.args.list.now c.loop-part.part-index c.part-item.result _ c.loop-part-test.true c.part-item.is c.loop-part.invariant) (stops _ _ _ _ _ _ c.from_residual.ensures.1 c.in_err-key.ensures)

pub queries::items_on-returns-in_err-done : goal.queries::items_on-returns-in_err-done
queries::items_on-returns-in_err-done t c = rw (next (λ l. items_on (map item_part l) c.args.sources.now c.loop-part.done (around c.args.names.now) c.loop-part.made) c.args.list.now c.loop-part.part-index c.part-item.result _ c.loop-part-test.true c.part-item.is c.loop-part.invariant) (stops _ _ _ _ _ _ c.from_residual.ensures.1 c.in_err-done.ensures)

pub queries::items_on-loop-part-preserved : goal.queries::items_on-loop-part-preserved
queries::items_on-loop-part-preserved t c = rw (next (λ l. items_on (map item_part l) c.args.sources.now c.loop-part.done (around c.args.names.now) c.loop-part.made) c.args.list.now c.loop-part.part-index c.part-item.result _ c.loop-part-test.true c.part-item.is c.loop-part.invariant, c.in_ok-done.ensures) refl

pub queries::items_on-returns : goal.queries::items_on-returns
queries::items_on-returns t c = ended (λ l. items_on (map item_part l) c.args.sources.now c.loop-part.done (around c.args.names.now) c.loop-part.made) c.args.list.now c.loop-part.part-index _ c.loop-part-test.false c.loop-part.invariant

pub queries::joins_on-returns-in_err-done : goal.queries::joins_on-returns-in_err-done
queries::joins_on-returns-in_err-done t c = rw (next (λ l. joins_on (map join_view l) c.args.row c.loop-join.done (around c.args.names.now) c.loop-join.made) c.args.joins.now c.loop-join.join-index c.join-item.result _ c.loop-join-test.true c.join-item.is c.loop-join.invariant) (stops _ _ _ _ _ _ c.from_residual.ensures.1 c.in_err-done.ensures)

pub queries::joins_on-loop-join-preserved : goal.queries::joins_on-loop-join-preserved
queries::joins_on-loop-join-preserved t c = rw (next (λ l. joins_on (map join_view l) c.args.row c.loop-join.done (around c.args.names.now) c.loop-join.made) c.args.joins.now c.loop-join.join-index c.join-item.result _ c.loop-join-test.true c.join-item.is c.loop-join.invariant, c.in_ok-done.ensures) refl

pub queries::joins_on-returns : goal.queries::joins_on-returns
queries::joins_on-returns t c = ended (λ l. joins_on (map join_view l) c.args.row c.loop-join.done (around c.args.names.now) c.loop-join.made) c.args.joins.now c.loop-join.join-index _ c.loop-join-test.false c.loop-join.invariant

pub queries::keys_on-returns-in_err-done : goal.queries::keys_on-returns-in_err-done
queries::keys_on-returns-in_err-done t c = rw (next (λ l. keys_on (map key_view l) c.args.is_distinct c.args.heads.now c.loop-part.done (around c.args.names.now) c.loop-part.made) c.args.list.now c.loop-part.part-index c.part-item.result _ c.loop-part-test.true c.part-item.is c.loop-part.invariant) (stops _ _ _ _ _ _ c.from_residual.ensures.1 c.in_err-done.ensures)

pub queries::keys_on-loop-part-preserved : goal.queries::keys_on-loop-part-preserved
queries::keys_on-loop-part-preserved t c = rw (next (λ l. keys_on (map key_view l) c.args.is_distinct c.args.heads.now c.loop-part.done (around c.args.names.now) c.loop-part.made) c.args.list.now c.loop-part.part-index c.part-item.result _ c.loop-part-test.true c.part-item.is c.loop-part.invariant, c.in_ok-done.ensures) refl

pub queries::keys_on-returns : goal.queries::keys_on-returns
queries::keys_on-returns t c = ended (λ l. keys_on (map key_view l) c.args.is_distinct c.args.heads.now c.loop-part.done (around c.args.names.now) c.loop-part.made) c.args.list.now c.loop-part.part-index _ c.loop-part-test.false c.loop-part.invariant

pub expressions::argument-returns-in_err-expr-in-FatalErrors : goal.expressions::argument-returns-in_err-expr-in-FatalErrors
expressions::argument-returns-in_err-expr-in-FatalErrors t c = rw (c.in-FatalErrors.is, argument_named) (stops _ _ _ _ _ _ c.from_residual.ensures.1 c.in_err-expr-in-FatalErrors.ensures)

pub expressions::argument-returns-in-Value : goal.expressions::argument-returns-in-Value
expressions::argument-returns-in-Value t c = rw (c.in-Value.is, argument_value) c.expr.ensures

pub expressions::maybe-returns-in_err-expr-in-Some : goal.expressions::maybe-returns-in_err-expr-in-Some
expressions::maybe-returns-in_err-expr-in-Some t c = rw (c.in-Some.is, ← c.get.ensures) (stops _ _ _ _ _ _ c.from_residual.ensures.1 c.in_err-expr-in-Some.ensures)

pub expressions::maybe-returns-in_ok-expr-in-Some : goal.expressions::maybe-returns-in_ok-expr-in-Some
expressions::maybe-returns-in_ok-expr-in-Some t c = rw (c.in-Some.is, ← c.get.ensures, c.in_ok-expr-in-Some.ensures) refl

pub queries::from-returns-in-Table : goal.queries::from-returns-in-Table
queries::from-returns-in-Table t c = rw (c.in-Table.is, from_table) (lifted _ _ _ c.table.ensures)

pub queries::from-returns-in_err-done-in-Joined : goal.queries::from-returns-in_err-done-in-Joined
queries::from-returns-in_err-done-in-Joined t c = rw (c.in-Joined.is, from_joined, ← c.get-in-Joined.ensures) (stops _ _ _ _ _ _ c.from_residual.ensures.1 c.in_err-done-in-Joined.ensures)

pub queries::from-returns-in_ok-done-in-Joined : goal.queries::from-returns-in_ok-done-in-Joined
queries::from-returns-in_ok-done-in-Joined t c = rw (c.in-Joined.is, from_joined, ← c.get-in-Joined.ensures, ← c.as_slice-in-Joined.ensures) (goes_on _ _ _ _ _ _ c.in_ok-done-in-Joined.ensures c.joins_on.ensures)

pub queries::group_on-returns-in_err-at : goal.queries::group_on-returns-in_err-at
queries::group_on-returns-in_err-at t c = rw (← c.as_written.ensures, ← c.group_written-written.ensures, ← c.as_slice.ensures, ← c.as_slice-2.ensures) (step_stops _ _ _ _ _ _ c.from_residual.ensures.1 c.in_err-at.ensures)

pub queries::key_on-returns-in_err-at : goal.queries::key_on-returns-in_err-at
queries::key_on-returns-in_err-at t c = rw (← c.as_written.ensures, ← c.as_slice.ensures) (step_stops _ _ _ _ _ _ c.from_residual.ensures.1 c.in_err-at.ensures)

pub queries::item_on-returns-in-All : goal.queries::item_on-returns-in-All
queries::item_on-returns-in-All t c = rw (c.in-All.is, item_all) (lifted _ _ _ c.every_column.ensures)

pub queries::item_on-returns-in-AllOf : goal.queries::item_on-returns-in-AllOf
queries::item_on-returns-in-AllOf t c = rw (c.in-AllOf.is, item_all_of) (lifted _ _ _ c.columns_of.ensures)

pub expressions::call-returns-in_ok-all-in-Some : goal.expressions::call-returns-in_ok-all-in-Some
expressions::call-returns-in_ok-all-in-Some t c =
    let parts = map argument_part c.args.arguments.now in
    let a = around c.args.names.now in
    let made = c.args.made.now in
    let more = c.arguments_on-in-Some.new.made in
    let kind = c.in-Some.kind in
    let all = c.in_ok-all-in-Some.all in
    let named : aggregate_named c.args.name ≡ Some kind
    = first_of (search rules, grind (arith, common_steps)) in
    let since : c.len-since.result ≡ length made.queries
    = first_of (search rules, grind (arith, common_steps)) in
    let arguments : arguments_on parts no_arguments (no_aggregates a) made ≡ got all more
    = first_of (search rules, grind (arith, common_steps)) in
    let meets : Meets (from_arguments kind c.args.name c.len-since.result a all more) c.collect.result c.collect.new.made
    = first_of (search rules, grind (arith, common_steps)) in
    aggregate_called c.args.name parts a made more kind all c.len-since.result c.collect.result c.collect.new.made named since arguments meets

pub expressions::second-returns-in_err-right-in-Ok : goal.expressions::second-returns-in_err-right-in-Ok
expressions::second-returns-in_err-right-in-Ok t c = continues_ok _ _ _ _ _ _ c.in-Ok.is (stops _ _ _ _ _ _ c.from_residual.ensures.1 c.in_err-right-in-Ok.ensures)

pub expressions::second-returns-in_ok-right-in-Ok : goal.expressions::second-returns-in_ok-right-in-Ok
expressions::second-returns-in_ok-right-in-Ok t c = continues_ok _ _ _ _ _ _ c.in-Ok.is (goes_on _ _ _ _ _ _ c.in_ok-right-in-Ok.ensures (lifted _ _ _ c.two_by.ensures))

pub expressions::second-returns-in-Err : goal.expressions::second-returns-in-Err
expressions::second-returns-in-Err t c = continues_err _ _ _ _ _ c.in-Err.is

pub expressions::gathered_on-returns-in_err-done : goal.expressions::gathered_on-returns-in_err-done
expressions::gathered_on-returns-in_err-done t c = rw (next (λ l. gather (map part l) c.loop-part.done (around c.args.names.now) c.loop-part.made) c.args.list.now c.loop-part.part-index c.part-item.result _ c.loop-part-test.true c.part-item.is c.loop-part.invariant) (follows_stops ((part c.part-item.result).means (around c.args.names.now) c.loop-part.made) (λ y made. settled (gathered_with c.loop-part.done y) made) (λ done made. gather (map part (drop (c.loop-part.part-index + 1) c.args.list.now)) done (around c.args.names.now) made) _ _ c.expr-next.new.made c.expr-next.new.made c.from_residual.ensures.1 (c.in_err-done.ensures _ _ c.expr-next.ensures))

pub expressions::gathered_on-loop-part-preserved : goal.expressions::gathered_on-loop-part-preserved
expressions::gathered_on-loop-part-preserved t c = next (λ l. gather (map part l) c.loop-part.done (around c.args.names.now) c.loop-part.made) c.args.list.now c.loop-part.part-index c.part-item.result _ c.loop-part-test.true c.part-item.is c.loop-part.invariant ∙ follows_is ((part c.part-item.result).means (around c.args.names.now) c.loop-part.made) (λ y made. settled (gathered_with c.loop-part.done y) made) (λ done made. gather (map part (drop (c.loop-part.part-index + 1) c.args.list.now)) done (around c.args.names.now) made) _ _ (c.in_ok-done.ensures _ _ c.expr-next.ensures)

pub expressions::gathered_on-returns : goal.expressions::gathered_on-returns
expressions::gathered_on-returns t c = rw (ended (λ l. gather (map part l) c.loop-part.done (around c.args.names.now) c.loop-part.made) c.args.list.now c.loop-part.part-index _ c.loop-part-test.false c.loop-part.invariant) (lifted _ _ _ c.whole.ensures)

pub expressions::factors_on-returns-in_err-run : goal.expressions::factors_on-returns-in_err-run
expressions::factors_on-returns-in_err-run t c = rw (next (λ l. chain_on (map factor_view l) c.loop-factor.run (around c.args.names.now) c.loop-factor.made) c.args.factors.now c.loop-factor.factor-index c.factor-item.result _ c.loop-factor-test.true c.factor-item.is c.loop-factor.invariant) (follows_stops ((factor_view c.factor-item.result).operand.means (around c.args.names.now) c.loop-factor.made) (λ y made. settled (stepped (factor_view c.factor-item.result).by c.loop-factor.run y) made) (λ done made. chain_on (map factor_view (drop (c.loop-factor.factor-index + 1) c.args.factors.now)) done (around c.args.names.now) made) _ _ c.expr-operand.new.made c.expr-operand.new.made c.from_residual.ensures.1 (c.in_err-run.ensures _ _ c.expr-operand.ensures))

pub expressions::factors_on-loop-factor-preserved : goal.expressions::factors_on-loop-factor-preserved
expressions::factors_on-loop-factor-preserved t c = next (λ l. chain_on (map factor_view l) c.loop-factor.run (around c.args.names.now) c.loop-factor.made) c.args.factors.now c.loop-factor.factor-index c.factor-item.result _ c.loop-factor-test.true c.factor-item.is c.loop-factor.invariant ∙ follows_is ((factor_view c.factor-item.result).operand.means (around c.args.names.now) c.loop-factor.made) (λ y made. settled (stepped (factor_view c.factor-item.result).by c.loop-factor.run y) made) (λ done made. chain_on (map factor_view (drop (c.loop-factor.factor-index + 1) c.args.factors.now)) done (around c.args.names.now) made) _ _ (c.in_ok-run.ensures _ _ c.expr-operand.ensures)

pub expressions::factors_on-returns : goal.expressions::factors_on-returns
expressions::factors_on-returns t c = rw (ended (λ l. chain_on (map factor_view l) c.loop-factor.run (around c.args.names.now) c.loop-factor.made) c.args.factors.now c.loop-factor.factor-index _ c.loop-factor-test.false c.loop-factor.invariant) (given _ _ _ c.chain_of.ensures)

pub expressions::terms_on-returns-in_err-run : goal.expressions::terms_on-returns-in_err-run
expressions::terms_on-returns-in_err-run t c = rw (next (λ l. chain_on (map term_view l) c.loop-term.run (around c.args.names.now) c.loop-term.made) c.args.terms.now c.loop-term.term-index c.term-item.result _ c.loop-term-test.true c.term-item.is c.loop-term.invariant) (follows_stops ((term_view c.term-item.result).operand.means (around c.args.names.now) c.loop-term.made) (λ y made. settled (stepped (term_view c.term-item.result).by c.loop-term.run y) made) (λ done made. chain_on (map term_view (drop (c.loop-term.term-index + 1) c.args.terms.now)) done (around c.args.names.now) made) _ _ c.expr-operand.new.made c.expr-operand.new.made c.from_residual.ensures.1 (c.in_err-run.ensures _ _ c.expr-operand.ensures))

pub expressions::terms_on-loop-term-preserved : goal.expressions::terms_on-loop-term-preserved
expressions::terms_on-loop-term-preserved t c = next (λ l. chain_on (map term_view l) c.loop-term.run (around c.args.names.now) c.loop-term.made) c.args.terms.now c.loop-term.term-index c.term-item.result _ c.loop-term-test.true c.term-item.is c.loop-term.invariant ∙ follows_is ((term_view c.term-item.result).operand.means (around c.args.names.now) c.loop-term.made) (λ y made. settled (stepped (term_view c.term-item.result).by c.loop-term.run y) made) (λ done made. chain_on (map term_view (drop (c.loop-term.term-index + 1) c.args.terms.now)) done (around c.args.names.now) made) _ _ (c.in_ok-run.ensures _ _ c.expr-operand.ensures)

pub expressions::terms_on-returns : goal.expressions::terms_on-returns
expressions::terms_on-returns t c = rw (ended (λ l. chain_on (map term_view l) c.loop-term.run (around c.args.names.now) c.loop-term.made) c.args.terms.now c.loop-term.term-index _ c.loop-term-test.false c.loop-term.invariant) (given _ _ _ c.chain_of.ensures)

pub queries::froms_on-returns-in_err-done : goal.queries::froms_on-returns-in_err-done
queries::froms_on-returns-in_err-done t c = let row = rw (c.len.ensures) at c.in_ok-at.ensures.0 in rw (next (λ l. froms_on (map from_part l) c.args.row c.loop-part.done (around c.args.names.now) c.loop-part.made) c.args.list.now c.loop-part.part-index c.part-item.result _ c.loop-part-test.true c.part-item.is c.loop-part.invariant, ← row) (follows_stops (from_part c.part-item.result c.in_ok-at.at (around c.args.names.now) c.loop-part.made) (λ more made. settled (put_beside c.loop-part.done more) made) (λ done made. froms_on (map from_part (drop (c.loop-part.part-index + 1) c.args.list.now)) c.args.row done (around c.args.names.now) made) _ _ c.from-more.new.made c.from-more.new.made c.from_residual-in_err-done.ensures.1 (c.in_err-done.ensures _ _ c.from-more.ensures))

pub queries::froms_on-loop-part-preserved : goal.queries::froms_on-loop-part-preserved
queries::froms_on-loop-part-preserved t c = let row = rw (c.len.ensures) at c.in_ok-at.ensures.0 in rw (next (λ l. froms_on (map from_part l) c.args.row c.loop-part.done (around c.args.names.now) c.loop-part.made) c.args.list.now c.loop-part.part-index c.part-item.result _ c.loop-part-test.true c.part-item.is c.loop-part.invariant, ← row) (follows_is (from_part c.part-item.result c.in_ok-at.at (around c.args.names.now) c.loop-part.made) (λ more made. settled (put_beside c.loop-part.done more) made) (λ done made. froms_on (map from_part (drop (c.loop-part.part-index + 1) c.args.list.now)) c.args.row done (around c.args.names.now) made) _ _ (c.in_ok-done.ensures _ _ c.from-more.ensures))

pub queries::froms_on-returns : goal.queries::froms_on-returns
queries::froms_on-returns t c = ended (λ l. froms_on (map from_part l) c.args.row c.loop-part.done (around c.args.names.now) c.loop-part.made) c.args.list.now c.loop-part.part-index _ c.loop-part-test.false c.loop-part.invariant

pub expressions::maybe_condition-returns : goal.expressions::maybe_condition-returns
expressions::maybe_condition-returns t c = condition_meets (option_map part c.args.e.now) (around c.args.names.now) c.args.made.now c.truth_if.result c.maybe-condition.new.made (c.truth_if.ensures _ _ c.maybe-condition.ensures)

pub queries::maybe_limit-returns : goal.queries::maybe_limit-returns
queries::maybe_limit-returns t c = limit_meets (option_map part c.args.e.now) (around c.args.names.now) c.args.made.now c.limit_if.result c.maybe-count.new.made (c.limit_if.ensures _ _ c.maybe-count.ensures)

pub queries::from-returns-in-Function : goal.queries::from-returns-in-Function
queries::from-returns-in-Function t c = rw (c.in-Function.is, from_function, ← c.as_slice.ensures) (c.valued_of.ensures _ _ c.call-value.ensures)

pub queries::from-returns-in-Subquery : goal.queries::from-returns-in-Subquery
queries::from-returns-in-Subquery t c = rw (c.in-Subquery.is, from_query, ← c.get.ensures) (c.derived_of.ensures _ _ c.query-inner.ensures)

pub queries::item_on-returns-in-Value : goal.queries::item_on-returns-in-Value
queries::item_on-returns-in-Value t c = rw (c.in-Value.is, item_value) (c.with_value.ensures _ _ c.expr-value.ensures)

pub queries::group_on-returns-in-None : goal.queries::group_on-returns-in-None
queries::group_on-returns-in-None t c = rw (← c.as_written.ensures, ← c.group_written-written.ensures, ← c.as_slice.ensures, ← c.as_slice-2.ensures) (step_goes _ _ _ _ _ _ (rw (c.in-None.is) at c.in_ok-at.ensures) (c.tree_alone.ensures _ _ c.expr-key.ensures))

pub queries::key_on-returns-in-None : goal.queries::key_on-returns-in-None
queries::key_on-returns-in-None t c = rw (← c.as_written.ensures) (step_goes _ _ _ _ _ _ (rw (c.in-None.is, c.as_slice.ensures) at c.in_ok-at.ensures) (c.by_value.ensures _ _ c.expr-value.ensures))

pub queries::key_on-returns-in-Some : goal.queries::key_on-returns-in-Some
queries::key_on-returns-in-Some t c = rw (← c.as_written.ensures) (step_goes _ _ _ _ _ _ (rw (c.in-Some.is, c.as_slice.ensures) at c.in_ok-at.ensures) (given _ _ _ c.by_item.ensures))

pub queries::join_on-returns-in_err-both : goal.queries::join_on-returns-in_err-both
queries::join_on-returns-in_err-both t c = let row = rw (c.len.ensures) at c.in_ok-at.ensures.0 in join_stops (join_view c.args.join.now) c.args.row c.in_ok-at.at c.args.done (around c.args.names.now) c.args.made.now c.from-with.new.made _ _ c.from-with.new.made row c.from_residual-in_err-both.ensures.1 (c.in_err-both.ensures _ _ c.from-with.ensures)

pub queries::join_on-returns : goal.queries::join_on-returns
queries::join_on-returns t c = let row = rw (c.len.ensures) at c.in_ok-at.ensures.0 in join_goes (join_view c.args.join.now) c.args.row c.in_ok-at.at c.args.done (around c.args.names.now) c.args.made.now c.from-with.new.made c.joined_on.result _ c.join_condition-on.new.made row (c.in_ok-both.ensures _ _ c.from-with.ensures) (c.joined_on.ensures _ _ c.join_condition-on.ensures)

pub expressions::boxed-returns : goal.expressions::boxed-returns
expressions::boxed-returns t c = rw (← c.get.ensures) c.expr.ensures

pub forms::cast-returns : goal.forms::cast-returns
forms::cast-returns t c = c.cast_known.ensures _ _ c.boxed-operand.ensures

pub forms::signed-returns : goal.forms::signed-returns
forms::signed-returns t c = c.signed_of.ensures _ _ c.boxed-operand.ensures

pub forms::asked-returns : goal.forms::asked-returns
forms::asked-returns t c = c.asked_of.ensures _ _ c.boxed-operand.ensures

pub forms::negated-returns : goal.forms::negated-returns
forms::negated-returns t c = c.negated_of.ensures _ _ c.boxed-operand.ensures

pub forms::null_if-returns : goal.forms::null_if-returns
forms::null_if-returns t c = c.second.ensures _ c.boxed-left.ensures

pub forms::like-returns : goal.forms::like-returns
forms::like-returns t c = c.second.ensures _ c.boxed-operand.ensures

pub forms::compared-returns : goal.forms::compared-returns
forms::compared-returns t c = c.second.ensures _ c.boxed-left.ensures

pub forms::distinct-returns : goal.forms::distinct-returns
forms::distinct-returns t c = c.second.ensures _ c.boxed-left.ensures

pub forms::between-returns-in_err-operand : goal.forms::between-returns-in_err-operand
forms::between-returns-in_err-operand t c = stops _ _ _ _ _ _ c.from_residual.ensures.1 c.in_err-operand.ensures

pub forms::between-returns : goal.forms::between-returns
forms::between-returns t c = goes_on _ _ _ _ _ _ c.in_ok-operand.ensures (c.second.ensures _ c.boxed-low.ensures)

pub forms::product-returns-in_err-first : goal.forms::product-returns-in_err-first
forms::product-returns-in_err-first t c = stops _ _ _ _ _ _ c.from_residual.ensures.1 c.in_err-first.ensures

pub forms::product-returns : goal.forms::product-returns
forms::product-returns t c = chain_meets _ (map factor_view c.args.factors.now) (around c.args.names.now) _ _ c.new-run.result c.factors_on.result c.factors_on.new.made c.in_ok-first.ensures c.new-run.ensures c.factors_on.ensures

pub forms::sum-returns-in_err-first : goal.forms::sum-returns-in_err-first
forms::sum-returns-in_err-first t c = stops _ _ _ _ _ _ c.from_residual.ensures.1 c.in_err-first.ensures

pub forms::sum-returns : goal.forms::sum-returns
forms::sum-returns t c = chain_meets _ (map term_view c.args.terms.now) (around c.args.names.now) _ _ c.new-run.result c.terms_on.result c.terms_on.new.made c.in_ok-first.ensures c.new-run.ensures c.terms_on.ensures

pub forms::picked-returns : goal.forms::picked-returns
forms::picked-returns t c = pick_meets _ (map part c.args.list.now) c.new.result (around c.args.names.now) c.args.made.now c.gathered_on.result c.gathered_on.new.made c.new.ensures c.gathered_on.ensures

pub forms::in_list-returns-in_err-first : goal.forms::in_list-returns-in_err-first
forms::in_list-returns-in_err-first t c = in_list_stops _ _ (map part c.args.list.now) c.new.result (around c.args.names.now) c.boxed-operand.new.made _ _ c.boxed-operand.new.made c.new.ensures c.from_residual.ensures.1 (c.in_err-first.ensures _ _ c.boxed-operand.ensures)

pub forms::in_list-returns : goal.forms::in_list-returns
forms::in_list-returns t c = in_list_goes _ _ (map part c.args.list.now) c.new.result (around c.args.names.now) c.boxed-operand.new.made c.gathered_on.result _ c.gathered_on.new.made c.new.ensures (c.in_ok-first.ensures _ _ c.boxed-operand.ensures) c.gathered_on.ensures

pub forms::row-returns : goal.forms::row-returns
forms::row-returns t c = row_meets (map part c.args.list.now) c.new.result (around c.args.names.now) c.args.made.now c.gathered_on.result c.gathered_on.new.made c.new.ensures c.gathered_on.ensures

pub forms::concat-returns : goal.forms::concat-returns
forms::concat-returns t c = concat_meets (map part c.args.list.now) (around c.args.names.now) c.args.made.now c.gathered_on.result c.gathered_on.new.made c.gathered_on.ensures

pub forms::all_of-returns : goal.forms::all_of-returns
forms::all_of-returns t c = and_meets (map part c.args.list.now) c.new.result (around c.args.names.now) c.args.made.now c.gathered_on.result c.gathered_on.new.made c.new.ensures c.gathered_on.ensures

pub forms::any_of-returns : goal.forms::any_of-returns
forms::any_of-returns t c = or_meets (map part c.args.list.now) c.new.result (around c.args.names.now) c.args.made.now c.gathered_on.result c.gathered_on.new.made c.new.ensures c.gathered_on.ensures

pub forms::scalar-returns : goal.forms::scalar-returns
forms::scalar-returns t c = rw (← c.get.ensures) (c.scalar_of.ensures _ _ c.query-inner.ensures)

pub forms::exists-returns : goal.forms::exists-returns
forms::exists-returns t c = rw (← c.get.ensures) (c.exists_of.ensures _ _ c.query-inner.ensures)

pub forms::in_query-returns-in_err-operand : goal.forms::in_query-returns-in_err-operand
forms::in_query-returns-in_err-operand t c = stops _ _ _ _ _ _ c.from_residual.ensures.1 c.in_err-operand.ensures

pub forms::in_query-returns : goal.forms::in_query-returns
forms::in_query-returns t c = rw (← c.get.ensures) (goes_on _ _ _ _ _ _ c.in_ok-operand.ensures (c.in_query_of.ensures _ _ c.query-inner.ensures))

pub forms::case-returns-in_err-operand : goal.forms::case-returns-in_err-operand
forms::case-returns-in_err-operand t c = stops _ _ _ _ _ _ c.from_residual.ensures.1 c.in_err-operand.ensures

pub forms::case-returns-in_err-done : goal.forms::case-returns-in_err-done
forms::case-returns-in_err-done t c = goes_on _ _ _ _ _ _ c.in_ok-operand.ensures (rw (← c.operand_type-ty.ensures) (stops _ _ _ _ _ _ c.from_residual-in_err-done.ensures.1 c.in_err-done.ensures))

pub forms::case-returns : goal.forms::case-returns
forms::case-returns t c = goes_on _ _ _ _ _ _ c.in_ok-operand.ensures (rw (← c.operand_type-ty.ensures, ← c.tree_of.ensures) (goes_on _ _ _ _ _ _ c.in_ok-done.ensures (c.cased.ensures _ _ c.maybe-otherwise.ensures)))
