use Rattle.pl_unique.proofs.known.number_by_parts.Goals as goal

pub returns : goal.returns
returns c = c.get_index_of.ensures.index
