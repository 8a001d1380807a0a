use Rattle.pl_reading.proofs.OwnTexts.{alike_so}
use Rattle.pl_reading.proofs.Readings.{read_so}
use Rattle.pl_reading.proofs.reading.read_piece.Goals as goal

pub read_outcome-requires : goal.read_outcome-requires
read_outcome-requires c = let p = c.requires.placed in record { placed = (p.0, c.args.piece.end, p.1.ends, p.1.tokens) }

pub returns : goal.returns
returns c =
    let p = c.requires.placed in
    let read = read_so c.args.text.now c.args.piece.tokens c.read_outcome.result c.read_outcome.ensures in
    record { read = read; alike = alike_so c.args.text.now p.0 c.args.piece c.read_outcome.result p.2 read }
