use Rattle.std.proofs.Common.{Option, Some, sym, subst, ℕ}
use Rattle.std.specs.List.{slice_set}
use Rattle.pl_history.specs.Pairs.{Inverse}
use Rattle.pl_history.proofs.Inverses.{occupied}
use Rattle.pl_history.proofs.cells.occupy.Goals as goal

pub returns-clause-inverse : goal.returns-clause-inverse
returns-clause-inverse c =
    let numbers = c.args.numbers.now.items in
    let places = c.args.places.now.items in
    subst (λ (o : Option ℕ). Inverse (slice_set numbers c.args.at o) (slice_set places c.args.number c.to-back.result)) (sym c.to-there.ensures)
    (subst (λ (o : Option ℕ). Inverse (slice_set numbers c.args.at (Some c.args.number)) (slice_set places c.args.number o)) (sym c.to-back.ensures)
    (occupied numbers places c.args.at c.args.number c.requires.inverse c.requires.empty c.requires.known c.requires.free))
