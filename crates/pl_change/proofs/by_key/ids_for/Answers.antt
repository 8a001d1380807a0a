use Rattle.std.proofs.Common.{◌≡◌, inl, inr, subst}
use Rattle.pl_journal.proofs.Noted.{if_ok_then}
use Rattle.pl_change.specs.Running.{AreEnough, listed}
use Rattle.pl_journal.specs.ByKey.{AreFoundFor, IsFoundFor}
use Rattle.pl_change.specs.Changes.{ids}
use Rattle.pl_value.specs.Frames.{rows_of}
use Rattle.pl_change.proofs.by_key.ids_for.Goals as goal

pub returns-in-All : goal.returns-in-All
returns-in-All c =
    let ts = c.args.journal.now.now.tables in
    let name = c.args.command.now.change.now.table in
    if_ok_then c.ids_of.result (λ made. made.items ≡ ids name ts) (λ made. AreEnough name c.args.condition.now (rows_of c.args.command.now.around.now) ts made.items) (λ made is. inl is) c.ids_of.ensures

pub returns-in-Only : goal.returns-in-Only
returns-in-Only c =
    let ts = c.args.journal.now.now.tables in
    let name = c.args.command.now.change.now.table in
    let around = rows_of c.args.command.now.around.now in
    let by : IsFoundFor name c.args.condition.now around ts c.in-Only.found = subst (λ found. AreFoundFor name c.args.condition.now around ts found) c.in-Only.is c.in_ok-candidates_for.ensures in
    if_ok_then c.list_of.result (λ made. made.items ≡ listed c.in-Only.found) (λ made. AreEnough name c.args.condition.now around ts made.items)
    (λ made is. inr (record { found = c.in-Only.found; by = by; few = is })) c.list_of.ensures
