use Rattle.std.proofs.Common.{◌∷◌, [], ◌++◌, take, ap, sym, ◌∙◌, subst}
use Rattle.std.proofs.lemmas.List.{take_more, take_all}
use Rattle.pl_base.specs.declared.value.Value.{Value}
use Rattle.pl_codec.specs.Spelling.{value_bytes, is_stored_value}
use Rattle.pl_codec.proofs.ReadsBack.{EachValue, one_value_more, values_back}
use Rattle.pl_codec.proofs.Pushed.{one_pushed, all_pushed, each_passes}
use Rattle.pl_codec.proofs.payload.push_values.Goals as goal

pub push_value-requires : goal.push_value-requires
push_value-requires c = each_passes is_stored_value c.args.values.now c.loop-value.value-index c.value-item.result c.requires c.loop-value-test.true c.value-item.is

pub loop-value-preserved : goal.loop-value-preserved
loop-value-preserved c =
    let was = c.loop-value.invariant in
    let xs = c.args.values.now in
    let i = c.loop-value.value-index in
    let x = c.value-item.result in
    record {
      spelled = one_pushed value_bytes xs i x c.args.bytes.now.items _ _ c.loop-value-test.true c.value-item.is was.spelled c.in_ok-push_value.ensures.spelled;
      read_back = subst EachValue (ap (λ (y : Value). take i xs ++ y ∷ []) c.value-item.is ∙ sym (take_more xs i x c.loop-value-test.true)) (one_value_more (take i xs) x was.read_back c.in_ok-push_value.ensures.read_back);
    }

pub returns-clause-spelled : goal.returns-clause-spelled
returns-clause-spelled c = all_pushed value_bytes c.args.values.now c.loop-value.value-index c.args.bytes.now.items _ c.loop-value-test.false c.loop-value.invariant.spelled

pub returns-clause-read_back : goal.returns-clause-read_back
returns-clause-read_back c = values_back c.args.values.now (subst EachValue (take_all c.loop-value.value-index c.args.values.now c.loop-value-test.false) c.loop-value.invariant.read_back)
