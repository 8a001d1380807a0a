use Rattle.std.proofs.Common.{◌≡◌, ◌↔◌, Option, None, Some, List, subst, ℕ}
use Rattle.std.specs.List.{slice_get}
use Rattle.pl_history.specs.History.{History}
use Rattle.pl_unique.specs.declared.key.Part.{Part}
use Rattle.pl_unique.proofs.Numbers.{found, missing}
use Rattle.pl_unique.proofs.key_map.KeyMap.place_of.Goals as goal

pub returns-in-Some : goal.returns-in-Some
returns-in-Some c at =
    let keys = c.self.inside.keys in
    let numbers = c.self.inside.numbers.numbers.current in
    let of : (n : ℕ) → (let o : Option ℕ = Some c.in-Some.number in o ≡ Some n) ↔ (slice_get keys n ≡ Some c.args.key.now) = subst (λ (o : Option ℕ). (n : ℕ) → (o ≡ Some n) ↔ (slice_get keys n ≡ Some c.args.key.now)) c.in-Some.is c.number_of.ensures in
    subst (λ (h : History (List (Option (List Part)))). (c.place_of.result ≡ Some at) ↔ (slice_get h.current at ≡ Some (Some c.args.key.now))) c.self.view_is
    (found keys c.args.key.now numbers c.in-Some.number c.place_of.result of c.place_of.ensures at)

pub returns-in-None : goal.returns-in-None
returns-in-None c at =
    let keys = c.self.inside.keys in
    let of : (n : ℕ) → (let o : Option ℕ = None in o ≡ Some n) ↔ (slice_get keys n ≡ Some c.args.key.now) = subst (λ (o : Option ℕ). (n : ℕ) → (o ≡ Some n) ↔ (slice_get keys n ≡ Some c.args.key.now)) c.in-None.is c.number_of.ensures in
    subst (λ (h : History (List (Option (List Part)))). (let o : Option ℕ = None in o ≡ Some at) ↔ (slice_get h.current at ≡ Some (Some c.args.key.now))) c.self.view_is
    (missing keys c.args.key.now c.self.inside.numbers.numbers.current of at)
