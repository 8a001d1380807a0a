use Rattle.std.proofs.Common.{◌∙◌, ap, ℕ, List, []}
use Rattle.pl_groups.specs.Tallies.{longer}
use Rattle.pl_groups.proofs.tally.first_text.Goals as goal

pub returns : goal.returns
returns c = c.in_ok-add.ensures ∙ (ap (λ (l : List ℕ). longer l c.text.result.now) c.new-made.ensures ∙ ap (longer []) c.text.ensures)
