use Rattle.std.proofs.Common.{◌≡◌, Option, None, Some, subst, ℕ, vec_len, length, rules, arith}
use Rattle.std.specs.List.{slice_get}
use Rattle.pl_history.specs.Pairs.{Paired}
use Rattle.pl_history.proofs.Inverses.{place_past}
use Rattle.pl_history.proofs.pairs.Pairs.place_of.Goals as goal

pub returns-else-number-len : goal.returns-else-number-len
returns-else-number-len c at =
    let ps = c.self.inside.places.items in
    let l : vec_len c.self.inside.places ≡ length ps = search rules in
    subst (λ (q : Paired). ((let o : Option ℕ = None in o ≡ Some at) → slice_get q.numbers.current at ≡ Some (Some c.args.number)) × (slice_get q.numbers.current at ≡ Some (Some c.args.number) → (let o : Option ℕ = None in o ≡ Some at)))
    c.self.view_is (place_past c.self.inside.numbers.items ps c.args.number c.self.invariant.0 (omega (arith, l, c.len.ensures, c.if-number-len.false)) at)
