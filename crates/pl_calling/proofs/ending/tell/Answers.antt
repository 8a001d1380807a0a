use Rattle.pl_engine.proofs.Joins.{lawful}
use Rattle.pl_calling.proofs.Telling.{tell_cut, tell_on}
use Rattle.pl_calling.proofs.ending.tell.Goals as goal

pub returns-in-Err : goal.returns-in-Err
returns-in-Err g c = λ db fits.
    let law = lawful g.P.Port g.met.P.Port.none g.met.P.Port.joins g.met.P.Port.rises in
    let t = c.loop-piece.invariant db fits in
    tell_cut law db c.args.pieces.now c.loop-piece.piece-index c.piece-item.result c.as_bytes.result.now c.in-Err.stop c.loop-piece-test.true c.piece-item.is c.as_bytes.ensures t (c.in-Err.ensures db t.1)

pub loop-piece-preserved : goal.loop-piece-preserved
loop-piece-preserved g c = λ db fits.
    let law = lawful g.P.Port g.met.P.Port.none g.met.P.Port.joins g.met.P.Port.rises in
    let t = c.loop-piece.invariant db fits in
    tell_on law db c.args.pieces.now c.loop-piece.piece-index c.piece-item.result c.as_bytes.result.now c.loop-piece-test.true c.piece-item.is c.as_bytes.ensures t (c.in-Ok.ensures db t.1)
