use Rattle.std.proofs.Common.{ap, refl, sym, ◌∙◌}
use Rattle.pl_command.proofs.of_pl_engine.Joins.{lawful}
use Rattle.pl_transactions.proofs.Ends.{idle_so, rolls_by, rolls_told}
use Rattle.pl_transactions.proofs.Quiet.{goes_as, goes_quietly}
use Rattle.pl_transactions.proofs.ending.roll_back.Goals as goal
use Rattle.pl_transactions.specs.State.{session_at}
use Rattle.pl_command.specs.pl_world.Sessions.{rolls_back}

pub end_none-requires-clause-is : goal.end_none-requires-clause-is
end_none-requires-clause-is g c = idle_so c.args.transaction.now.mode (sym c.is_idle.ensures ∙ c.if-is_idle.true)

pub returns-then-is_idle : goal.returns-then-is_idle
returns-then-is_idle g c =
    let is = idle_so c.args.transaction.now.mode (sym c.is_idle.ensures ∙ c.if-is_idle.true) in
    goes_as g.P.Port _ _ _ _ c.end_none.result c.args.transaction.now c.args.engine.now c.end_none.new.engine c.args.port.now c.end_none.new.port (ap (λ m. rolls_back m (session_at c.args.transaction.now c.args.engine.now)) (sym is)) refl c.end_none.ensures

pub returns : goal.returns
returns g c =
    let is = sym c.is_idle.ensures ∙ c.if-is_idle.false in
    goes_as g.P.Port _ _ _ _ c.undo_block.result c.undo_block.new.transaction c.args.engine.now c.undo_block.new.engine c.args.port.now c.args.port.now
    (rolls_by (session_at c.args.transaction.now c.args.engine.now) c.args.transaction.now.mode is) (rolls_told c.args.transaction.now.mode is)
    (goes_quietly (lawful g.P.Port g.met.P.Port.none g.met.P.Port.joins g.met.P.Port.rises) _ _ c.undo_block.result c.undo_block.new.transaction c.args.engine.now c.undo_block.new.engine c.args.port.now c.requires.fits c.undo_block.ensures)
