use Rattle.std.proofs.Common.{◌≡◌, ◌∙◌, ℕ, List, ap, rules}
use Rattle.pl_codec.specs.Spelling.{op_bytes}
use Rattle.pl_codec.specs.Reading.{operations_of}
use Rattle.pl_codec.proofs.ReadsBack.{one_back}
use Rattle.pl_codec.proofs.payload.encode.Goals as goal

pub returns-clause-read_back : goal.returns-clause-read_back
returns-clause-read_back c =
    let spelled : c.from_vec.result ≡ op_bytes c.args.op.now = search rules in
    ap (λ (l : List ℕ). operations_of l) spelled ∙ one_back c.args.op.now c.in_ok-push_op.ensures.read_back
