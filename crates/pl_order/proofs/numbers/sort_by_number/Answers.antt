use Rattle.std.proofs.Common.{◌∙◌}
use Rattle.std.proofs.lemmas.Result.{on_ok_weaker}
use Rattle.pl_order.proofs.Numbered.{sorted_falling, sorted_rising}
use Rattle.pl_order.proofs.numbers.sort_by_number.Goals as goal

pub returns-then-key-clause-ok : goal.returns-then-key-clause-ok
returns-then-key-clause-ok c = on_ok_weaker c.sort_falling.result (λ e. e ∙ sorted_falling c.args.key.now c.args.rows.now.items c.if-key.true c.requires) c.sort_falling.ensures.ok

pub returns-else-key-clause-ok : goal.returns-else-key-clause-ok
returns-else-key-clause-ok c = on_ok_weaker c.sort_rising.result (λ e. e ∙ sorted_rising c.args.key.now c.args.rows.now.items c.if-key.false c.requires) c.sort_rising.ensures.ok
