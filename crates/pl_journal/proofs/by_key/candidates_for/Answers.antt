use Rattle.std.proofs.Common.{sym, subst, Option, Some}
use Rattle.std.specs.Prelude.{IfOk}
use Rattle.pl_journal.proofs.Noted.{found_for, if_ok_then}
use Rattle.pl_journal.specs.ByKey.{AreFound, AreFoundFor}
use Rattle.pl_resolved.specs.declared.expression.RExpr.{RExpr}
use Rattle.pl_value.specs.Frames.{rows_of}
use Rattle.pl_journal.proofs.by_key.candidates_for.Goals as goal

pub returns-in-Some : goal.returns-in-Some
returns-in-Some c =
    let ts = c.args.journal.now.now.tables in
    subst (λ (o : Option RExpr). IfOk c.candidates_of.result (λ found. AreFoundFor c.args.name o (rows_of c.args.around.now) ts found)) (sym c.in-Some.is)
    (subst (λ (x : RExpr). IfOk c.candidates_of.result (λ found. AreFoundFor c.args.name (Some x) (rows_of c.args.around.now) ts found)) c.get.ensures (if_ok_then c.candidates_of.result (λ found. AreFound c.args.name c.get.result.now (rows_of c.args.around.now) ts found) (λ found. AreFoundFor c.args.name (Some c.get.result.now) (rows_of c.args.around.now) ts found) (λ found is. found_for c.args.name c.get.result.now (rows_of c.args.around.now) ts found is) c.candidates_of.ensures))
