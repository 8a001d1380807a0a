use Rattle.std.proofs.Common.{◌≡◌, ◌∷◌, [], ◌∙◌, ◌↔◌, Option, Some, List, ℕ, ℤ, FitsSigned, ap, subst, sym, rules}
use Rattle.std.specs.Int.{w64}
use Rattle.std.specs.List.{position, slice_get}
use Rattle.std.proofs.lemmas.Int.{to_z-of_z}
use Rattle.pl_unique.specs.declared.key.Part.{Part}
use Rattle.pl_unique.specs.declared.key.Part.TheVariants.{Number}
use Rattle.pl_unique.specs.Numbered.{same_key}
use Rattle.pl_unique.specs.Parts.{told, holds}
use Rattle.pl_unique.proofs.Alone.{alone_is}
use Rattle.pl_unique.proofs.Same.{place_is}
use Rattle.pl_unique.proofs.known.Keys.number_of.Goals as goal

pub returns-in-Some : goal.returns-in-Some
returns-in-Some c n =
    let number = c.in-Some.number in
    let key : List Part = Number number ∷ [] in
    let keys = c.self.inside.set.keys in
    let is : c.args.key.now ≡ key = alone_is c.args.key.now number (sym c.alone.ensures ∙ c.in-Some.is) in
    let fits : FitsSigned w64 number = search rules in
    let found : c.get_index_of.result ≡ position (same_key key) keys =
    c.get_index_of.ensures.index ∙ ap (λ (z : ℤ). position (same_key (Number z ∷ [])) keys) (to_z-of_z w64 number fits) in
    subst (λ (k : List Part). (c.get_index_of.result ≡ Some n) ↔ (slice_get c.args.self.now n ≡ Some k)) (sym is)
    (subst (λ (ks : List (List Part)). (c.get_index_of.result ≡ Some n) ↔ (slice_get ks n ≡ Some key)) c.self.view_is
    (subst (λ (o : Option ℕ). (o ≡ Some n) ↔ (slice_get keys n ≡ Some key)) (sym found)
    (place_is (same_key key) key (told key) (holds key) same_key holds keys c.self.invariant n)))

pub returns-in-None : goal.returns-in-None
returns-in-None c n =
    let key = c.args.key.now in
    subst (λ (ks : List (List Part)). (c.number_by_parts.result ≡ Some n) ↔ (slice_get ks n ≡ Some key)) c.self.view_is
    (subst (λ (o : Option ℕ). (o ≡ Some n) ↔ (slice_get c.self.inside.set.keys n ≡ Some key)) (sym c.number_by_parts.ensures)
    (place_is (same_key key) key (told key) (holds key) same_key holds c.self.inside.set.keys c.self.invariant n))
