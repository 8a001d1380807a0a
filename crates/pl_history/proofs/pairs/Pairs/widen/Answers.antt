use Rattle.std.proofs.Common.{◌≡◌, ◌+◌, ◌++◌, ◌∷◌, [], Option, None, List, sym, ap, subst, ℕ, length, length-append, arith}
use Rattle.pl_history.specs.Pairs.{Inverse}
use Rattle.pl_history.proofs.Inverses.{none_more}
use Rattle.pl_history.proofs.Past.{fits_more}
use Rattle.pl_history.proofs.pairs.Pairs.widen.Goals as goal

pub invariant_of-self-2 : goal.invariant_of-self-2
invariant_of-self-2 c =
    let ns = c.self.inside.numbers.items in
    let ps = c.self.inside.places.items in
    let n : length (ps ++ None ∷ []) ≡ length ps + 1 = length-append ps (None ∷ []) in
    let e : length c.push.new.self.items ≡ length (ps ++ None ∷ []) = ap (λ (ms : List (Option ℕ)). length ms) c.in_ok-push.ensures.items in (
      subst (Inverse ns) (sym c.in_ok-push.ensures.items) (none_more ns ps c.self.invariant.0),
      fits_more (length ps) (length c.push.new.self.items) (omega (arith, n, e)) _ c.self.invariant.1,
    )
