use Rattle.pl_body_items.proofs.OneTree.{one_tree}
use Rattle.pl_body_items.proofs.making.one_tree.Goals as goal

pub returns : goal.returns
returns c = record { is = one_tree }
