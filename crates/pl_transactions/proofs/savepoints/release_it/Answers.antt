use Rattle.std.proofs.Common.{◌∙◌, ◌<◌, ap, length, sym, subst, ℕ, List, Option, Some, None}
use Rattle.std.specs.Prelude.{IfSome}
use Rattle.pl_transactions.proofs.Quiet.{quietly_as}
use Rattle.pl_transactions.proofs.Saves.{released_by}
use Rattle.pl_transactions.proofs.savepoints.release_it.Goals as goal
use Rattle.pl_transactions.specs.Places.{place_in}

pub release_at-requires-clause-within : goal.release_at-requires-clause-within
release_at-requires-clause-within c =
    let at : c.in-Some.at < length c.as_slice.result.now = subst (λ (o : Option ℕ). IfSome o (λ at. at < length c.as_slice.result.now)) c.in-Some.is c.place_of.ensures.within in
    subst (λ (ns : List (List ℕ)). c.in-Some.at < length ns) c.as_slice.ensures.value at

pub returns-in-Some : goal.returns-in-Some
returns-in-Some c =
    quietly_as _ _ c.release_at.result c.release_at.new.transaction c.args.engine.now c.release_at.new.engine
    (released_by c.args.transaction.now c.args.name c.args.engine.now c.requires.stands (Some c.in-Some.at) (sym c.in-Some.is ∙ c.place_of.ensures.is ∙ ap (place_in c.args.name) c.as_slice.ensures.value) c.requires.is) c.release_at.ensures

pub returns-in-None : goal.returns-in-None
returns-in-None c =
    quietly_as _ _ c.refuse.result c.refuse.new.transaction c.args.engine.now c.args.engine.now
    (released_by c.args.transaction.now c.args.name c.args.engine.now c.requires.stands None (sym c.in-None.is ∙ c.place_of.ensures.is ∙ ap (place_in c.args.name) c.as_slice.ensures.value) c.requires.is) c.refuse.ensures
