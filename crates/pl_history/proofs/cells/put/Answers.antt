use Rattle.std.proofs.Common.{◌∙◌, Option, None, Some, List, sym, ap, ℕ}
use Rattle.std.specs.List.{slice_set}
use Rattle.pl_history.proofs.Inverses.{set_set}
use Rattle.pl_history.proofs.cells.put.Goals as goal

pub returns-in-Some-clause-numbers : goal.returns-in-Some-clause-numbers
returns-in-Some-clause-numbers c =
    c.occupy.ensures.numbers ∙ (ap (λ (ns : List (Option ℕ)). slice_set ns c.args.at (Some c.in-Some.number)) c.release.ensures.numbers
    ∙ (set_set c.args.numbers.now.items c.args.at None (Some c.in-Some.number) ∙ ap (slice_set c.args.numbers.now.items c.args.at) (sym c.in-Some.is)))
