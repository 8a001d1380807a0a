use Rattle.std.proofs.Common.{◌∙◌}
use Rattle.std.proofs.lemmas.Result.{IfOk-weaker}
use Rattle.pl_control.proofs.Noting.{line_is}
use Rattle.pl_control.proofs.notices.line_of.Goals as goal
use Rattle.pl_engine.specs.Engines.{world}

pub returns : goal.returns
returns c =
    let is = line_is c.args.state c.args.at (world c.args.engine.now) c.failure.result c.in_ok-text.text c.failure.ensures c.in_ok-text.ensures in
    IfOk-weaker c.notice.result _ _ (λ line made. made ∙ is) c.notice.ensures
