use Rattle.pl_undo.proofs.Keys.{keys_done, keys_step}
use Rattle.pl_undo.proofs.database.keys_of.Goals as goal

pub loop-rule-preserved : goal.loop-rule-preserved
loop-rule-preserved c =
    keys_step c.args.rules.now c.loop-rule.rule-index c.rule-item.result c.loop-rule.keys.items c.push_key.new.keys.items c.loop-rule-test.true c.rule-item.is c.in_ok-push_key.ensures c.loop-rule.invariant

pub returns : goal.returns
returns c = keys_done c.args.rules.now c.loop-rule.rule-index c.loop-rule.keys.items c.loop-rule-test.false c.loop-rule.invariant
