use Rattle.std.proofs.Common.{◌≡◌, ◌∙◌, length, sym, ap, arith, rules, vec_len}
use Rattle.pl_order.proofs.Kept.{at_first, at_row, at_last}
use Rattle.pl_order.proofs.distinction.distinct.Goals as goal

pub loop-row-init : goal.loop-row-init
loop-row-init c =
    let given = c.into_iter-row-iterator.ensures.into_iter_gives in
    record {
      kept = at_first c.args.rows.items _ _ (search rules) given.0;
      counted = ap length given.0 ∙ (let counts : length c.args.rows.items ≡ vec_len c.args.rows = search rules in counts) ∙ sym given.1;
    }

pub loop-row-preserved : goal.loop-row-preserved
loop-row-preserved c =
    let was = c.loop-row.invariant in
    let steps = c.in-Some.ensures.steps in
    record {
      kept = was.kept ∙ at_row c.loop-row.keys c.in-Some.row _ _ _ steps.0 c.in_ok-find_or_add.ensures.ok;
      counted = omega (arith, was.counted, ap length steps.0, steps.1);
    }

pub returns : goal.returns
returns c =
    let was = c.loop-row.invariant in
    c.into_rows.ensures ∙ sym (was.kept ∙ at_last c.loop-row.keys _ (was.counted ∙ c.in-None.ensures.steps.0))
