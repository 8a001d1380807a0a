use Rattle.pl_body_pieces.proofs.pieces.ended_label.Goals as goal

pub returns : goal.returns
returns c = c.until.ensures _ c.optional_name-label.ensures
