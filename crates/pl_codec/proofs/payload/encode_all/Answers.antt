use Rattle.std.proofs.Common.{◌≡◌, ◌∷◌, [], ◌++◌, List, ℕ, take, ap, sym, ◌∙◌, subst}
use Rattle.std.proofs.lemmas.List.{take_more, take_all}
use Rattle.pl_base.specs.declared.operation.Op.{Op}
use Rattle.pl_codec.specs.Spelling.{op_bytes, is_stored_op, ops_bytes}
use Rattle.pl_codec.specs.Reading.{operations_of}
use Rattle.pl_codec.proofs.ReadsBack.{EachOp, one_op_more, all_back}
use Rattle.pl_codec.proofs.Pushed.{one_pushed, all_pushed, each_passes}
use Rattle.pl_codec.proofs.payload.encode_all.Goals as goal

pub push_op-requires : goal.push_op-requires
push_op-requires c = each_passes is_stored_op c.args.ops.now c.loop-op.op-index c.op-item.result c.requires c.loop-op-test.true c.op-item.is

pub loop-op-preserved : goal.loop-op-preserved
loop-op-preserved c =
    let was = c.loop-op.invariant in
    let xs = c.args.ops.now in
    let i = c.loop-op.op-index in
    let x = c.op-item.result in
    record {
      spelled = one_pushed op_bytes xs i x [] _ _ c.loop-op-test.true c.op-item.is was.spelled c.in_ok-push_op.ensures.spelled;
      read_back = subst EachOp (ap (λ (y : Op). take i xs ++ y ∷ []) c.op-item.is ∙ sym (take_more xs i x c.loop-op-test.true)) (one_op_more (take i xs) x was.read_back c.in_ok-push_op.ensures.read_back);
    }

pub returns-clause-spelled : goal.returns-clause-spelled
returns-clause-spelled c = c.from_vec.ensures ∙ all_pushed op_bytes c.args.ops.now c.loop-op.op-index [] _ c.loop-op-test.false c.loop-op.invariant.spelled

pub returns-clause-read_back : goal.returns-clause-read_back
returns-clause-read_back c =
    let spelled : c.from_vec.result ≡ ops_bytes c.args.ops.now = c.from_vec.ensures ∙ all_pushed op_bytes c.args.ops.now c.loop-op.op-index [] _ c.loop-op-test.false c.loop-op.invariant.spelled in
    ap (λ (l : List ℕ). operations_of l) spelled ∙ all_back c.args.ops.now (subst EachOp (take_all c.loop-op.op-index c.args.ops.now c.loop-op-test.false) c.loop-op.invariant.read_back)
