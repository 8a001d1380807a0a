use Rattle.std.proofs.Common.{ap, subst, length}
use Rattle.pl_base.specs.declared.value.Value.{Value}
use Rattle.pl_query.specs.Query.{rows_before}
use Rattle.pl_query.specs.Sources.{Tables}
use Rattle.pl_value.specs.Answers.{Reads}
use Rattle.pl_value.specs.Frames.{rows_of}
use Rattle.pl_value.specs.Meaning.{value}
use Rattle.pl_query.proofs.within.evaluate.Goals as goal

pub returns : goal.returns
returns g c =
    subst (λ (ts : Tables). Reads {A = Value} (value g.C.Caller.calls (rows_before g.C.Caller.calls c.args.queries.now ts (length c.args.queries.now)) c.args.e.now (rows_of c.args.frame.now) c.args.caller.now) c.value.result c.value.new.caller)
    (ap g.T.Tables.table c.in_ok-store.ensures) c.value.ensures
