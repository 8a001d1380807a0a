use Rattle.std.proofs.Common.{◌≡◌, ◌<◌, ◌++◌, ◌∷◌, [], ◌∙◌, refl, sym, ap, vec_len, length, rules, arith}
use Rattle.std.specs.List.{slice_set}
use Rattle.pl_history.specs.History.{back}
use Rattle.pl_history.specs.Pairs.{Paired}
use Rattle.pl_history.specs.declared.pairs.Change.{Change}
use Rattle.pl_history.specs.declared.pairs.Change.TheVariants.{Pushed, Set}
use Rattle.pl_history.proofs.Inverses.{set_past}
use Rattle.pl_history.proofs.Past.{gone_back, fits_back, both_fit, known_back, free_back}
use Rattle.pl_history.proofs.pairs.Pairs.undo.Goals as goal

pub invariant_of-self : goal.invariant_of-self
invariant_of-self c =
    let ns = c.self.inside.numbers.items in
    let ps = c.self.inside.places.items in
    let is : c.self.inside.changes.items ≡ c.pop.new.self.items ++ Pushed ∷ [] = c.in-Some-Pushed.ensures.items ∙ ap (λ (d : Change). c.pop.new.self.items ++ d ∷ []) c.in-Some-Pushed.field-0-is in
    (c.drop_last.ensures.inverse, fits_back c.pop.new.self.items c.self.inside.changes.items Pushed ns is (length ps) (length c.drop_last.new.places.items) c.drop_last.new.numbers.items c.drop_last.ensures.len c.drop_last.ensures.numbers c.self.invariant.1)

pub put-requires-clause-known : goal.put-requires-clause-known
put-requires-clause-known c x some =
    let ns = c.self.inside.numbers.items in
    let ps = c.self.inside.places.items in
    let change = Set c.in-Some-Set.at c.in-Some-Set.number in
    let is : c.self.inside.changes.items ≡ c.pop.new.self.items ++ change ∷ [] = c.in-Some-Set.ensures.items ∙ ap (λ (d : Change). c.pop.new.self.items ++ d ∷ []) c.in-Some-Set.field-0-is in
    let l : vec_len c.self.inside.numbers ≡ length ns = search rules in
    let there : c.in-Some-Set.at < length ns = omega (arith, l, c.len.ensures, c.if-at-len.true) in
    let fits = (both_fit c.pop.new.self.items c.self.inside.changes.items change ns is (length ps) c.self.invariant.1).1 in
    known_back ns c.in-Some-Set.at c.in-Some-Set.number (length ps) there fits x some

pub put-requires-clause-free : goal.put-requires-clause-free
put-requires-clause-free c x some p has =
    let ns = c.self.inside.numbers.items in
    let ps = c.self.inside.places.items in
    let change = Set c.in-Some-Set.at c.in-Some-Set.number in
    let is : c.self.inside.changes.items ≡ c.pop.new.self.items ++ change ∷ [] = c.in-Some-Set.ensures.items ∙ ap (λ (d : Change). c.pop.new.self.items ++ d ∷ []) c.in-Some-Set.field-0-is in
    let l : vec_len c.self.inside.numbers ≡ length ns = search rules in
    let there : c.in-Some-Set.at < length ns = omega (arith, l, c.len.ensures, c.if-at-len.true) in
    let fits = (both_fit c.pop.new.self.items c.self.inside.changes.items change ns is (length ps) c.self.invariant.1).1 in
    free_back ns c.in-Some-Set.at c.in-Some-Set.number (length ps) there fits x some p has

pub invariant_of-self-then-at-len : goal.invariant_of-self-then-at-len
invariant_of-self-then-at-len c =
    let ns = c.self.inside.numbers.items in
    let ps = c.self.inside.places.items in
    let change = Set c.in-Some-Set.at c.in-Some-Set.number in
    let is : c.self.inside.changes.items ≡ c.pop.new.self.items ++ change ∷ [] = c.in-Some-Set.ensures.items ∙ ap (λ (d : Change). c.pop.new.self.items ++ d ∷ []) c.in-Some-Set.field-0-is in
    (c.put.ensures.inverse, fits_back c.pop.new.self.items c.self.inside.changes.items change ns is (length ps) (length c.put.new.places.items) c.put.new.numbers.items c.put.ensures.len c.put.ensures.numbers c.self.invariant.1)

pub invariant_of-self-else-at-len : goal.invariant_of-self-else-at-len
invariant_of-self-else-at-len c =
    let ns = c.self.inside.numbers.items in
    let ps = c.self.inside.places.items in
    let change = Set c.in-Some-Set.at c.in-Some-Set.number in
    let is : c.self.inside.changes.items ≡ c.pop.new.self.items ++ change ∷ [] = c.in-Some-Set.ensures.items ∙ ap (λ (d : Change). c.pop.new.self.items ++ d ∷ []) c.in-Some-Set.field-0-is in
    let l : vec_len c.self.inside.numbers ≡ length ns = search rules in
    let same : ns ≡ slice_set ns c.in-Some-Set.at c.in-Some-Set.number = sym (set_past ns c.in-Some-Set.at c.in-Some-Set.number (omega (arith, l, c.len.ensures, c.if-at-len.false))) in
    (c.self.invariant.0, fits_back c.pop.new.self.items c.self.inside.changes.items change ns is (length ps) (length ps) ns refl same c.self.invariant.1)

pub returns-in-Some-Pushed-clause-back : goal.returns-in-Some-Pushed-clause-back
returns-in-Some-Pushed-clause-back c =
    let ns = c.self.inside.numbers.items in
    let is : c.self.inside.changes.items ≡ c.pop.new.self.items ++ Pushed ∷ [] = c.in-Some-Pushed.ensures.items ∙ ap (λ (d : Change). c.pop.new.self.items ++ d ∷ []) c.in-Some-Pushed.field-0-is in
    gone_back c.pop.new.self.items c.self.inside.changes.items Pushed ns is c.drop_last.new.numbers.items c.drop_last.ensures.numbers ∙ ap (λ (q : Paired). back q.numbers) c.self.view_is

pub returns-then-at-len-clause-back : goal.returns-then-at-len-clause-back
returns-then-at-len-clause-back c =
    let ns = c.self.inside.numbers.items in
    let ps = c.self.inside.places.items in
    let change = Set c.in-Some-Set.at c.in-Some-Set.number in
    let is : c.self.inside.changes.items ≡ c.pop.new.self.items ++ change ∷ [] = c.in-Some-Set.ensures.items ∙ ap (λ (d : Change). c.pop.new.self.items ++ d ∷ []) c.in-Some-Set.field-0-is in
    gone_back c.pop.new.self.items c.self.inside.changes.items change ns is c.put.new.numbers.items c.put.ensures.numbers ∙ ap (λ (q : Paired). back q.numbers) c.self.view_is

pub returns-else-at-len-clause-back : goal.returns-else-at-len-clause-back
returns-else-at-len-clause-back c =
    let ns = c.self.inside.numbers.items in
    let ps = c.self.inside.places.items in
    let change = Set c.in-Some-Set.at c.in-Some-Set.number in
    let is : c.self.inside.changes.items ≡ c.pop.new.self.items ++ change ∷ [] = c.in-Some-Set.ensures.items ∙ ap (λ (d : Change). c.pop.new.self.items ++ d ∷ []) c.in-Some-Set.field-0-is in
    let l : vec_len c.self.inside.numbers ≡ length ns = search rules in
    let same : ns ≡ slice_set ns c.in-Some-Set.at c.in-Some-Set.number = sym (set_past ns c.in-Some-Set.at c.in-Some-Set.number (omega (arith, l, c.len.ensures, c.if-at-len.false))) in
    gone_back c.pop.new.self.items c.self.inside.changes.items change ns is ns same ∙ ap (λ (q : Paired). back q.numbers) c.self.view_is
