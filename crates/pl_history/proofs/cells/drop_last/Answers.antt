use Rattle.std.proofs.Common.{◌≡◌, ◌<◌, ◌++◌, ◌∷◌, [], ◌∙◌, Option, None, Some, List, sym, ap, subst, ℕ, vec_len, length, rules, arith}
use Rattle.pl_history.specs.Pairs.{Inverse}
use Rattle.pl_history.proofs.Inverses.{last_released, last_within, shortened}
use Rattle.pl_history.proofs.cells.drop_last.Goals as goal

pub index_mut-requires : goal.index_mut-requires
index_mut-requires c =
    let places = c.args.places.now.items in
    let n = c.in-Some-get.number in
    let is : c.args.numbers.now.items ≡ c.pop.new.self.items ++ Some n ∷ [] = c.in-Some.ensures.items ∙ ap (λ (o : Option ℕ). c.pop.new.self.items ++ o ∷ []) (sym c.get.ensures ∙ c.in-Some-get.is) in
    let lt : n < length places = last_within c.pop.new.self.items places n (subst (λ (ns : List (Option ℕ)). Inverse ns places) is c.requires.inverse) in
    let l : vec_len c.args.places.now ≡ length places = search rules in
    omega (arith, lt, l)

pub returns-in-Some-get-clause-inverse : goal.returns-in-Some-get-clause-inverse
returns-in-Some-get-clause-inverse c =
    let places = c.args.places.now.items in
    let n = c.in-Some-get.number in
    let is : c.args.numbers.now.items ≡ c.pop.new.self.items ++ Some n ∷ [] = c.in-Some.ensures.items ∙ ap (λ (o : Option ℕ). c.pop.new.self.items ++ o ∷ []) (sym c.get.ensures ∙ c.in-Some-get.is) in
    last_released c.pop.new.self.items places n (subst (λ (ns : List (Option ℕ)). Inverse ns places) is c.requires.inverse)

pub returns-in-None-get-clause-inverse : goal.returns-in-None-get-clause-inverse
returns-in-None-get-clause-inverse c =
    let places = c.args.places.now.items in
    let is : c.args.numbers.now.items ≡ c.pop.new.self.items ++ None ∷ [] = c.in-Some.ensures.items ∙ ap (λ (o : Option ℕ). c.pop.new.self.items ++ o ∷ []) (sym c.get.ensures ∙ c.in-None-get.is) in
    shortened c.pop.new.self.items places (subst (λ (ns : List (Option ℕ)). Inverse ns places) is c.requires.inverse)
