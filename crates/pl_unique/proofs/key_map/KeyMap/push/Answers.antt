use Rattle.std.proofs.Common.{◌≡◌, ◌<◌, ◌++◌, ◌∷◌, [], ◌∙◌, Option, List, sym, ap, ℕ, length, arith}
use Rattle.std.specs.List.{slice_get}
use Rattle.pl_history.specs.History.{History, changed, seen_as}
use Rattle.pl_history.specs.Pairs.{Paired}
use Rattle.pl_unique.specs.declared.key.Part.{Part}
use Rattle.pl_unique.specs.Numbered.{keys_at}
use Rattle.pl_unique.proofs.Numbers.{stands, stays, stay_known, pushed, pushed_known, on_err}
use Rattle.pl_unique.proofs.key_map.KeyMap.push.Goals as goal

abbrev Numbers : Type 0
Numbers = List (Option ℕ)

abbrev View : Type 0
View = History (List (Option (List Part)))

pub push-requires-clause-known : goal.push-requires-clause-known
push-requires-clause-known c n is =
    let lt : n < length c.number_for.new.keys = c.in_ok-number.ensures.within n is in
    omega (arith, lt, c.number_for.ensures.room)

pub push-requires-clause-free : goal.push-requires-clause-free
push-requires-clause-free c n is at has =
    let keys = c.self.inside.keys in
    let numbers = c.self.inside.numbers.numbers.current in
    stands keys c.number_for.new.keys c.number_for.ensures.more c.number_for.ensures.kept (λ at. ⊥) numbers c.args.key c.in_ok-number.number c.self.invariant.1.0 c.in_ok-number.ensures.within c.in_ok-number.ensures.is
    (λ k e p h. c.requires.free k e p (ap (λ (v : View). slice_get v.current p) (sym c.self.view_is) ∙ h)) n is at
    (ap (λ (g : History Numbers). slice_get g.current at) (sym c.number_for.ensures.numbers) ∙ has)

pub invariant_of-self : goal.invariant_of-self
invariant_of-self c =
    let h = c.self.inside.numbers.numbers in
    (c.number_for.ensures.room, stay_known c.self.inside.keys c.number_for.new.keys c.number_for.ensures.more c.number_for.ensures.kept h c.number_for.new.numbers.numbers c.number_for.ensures.numbers c.self.invariant.1)

pub invariant_of-self-2 : goal.invariant_of-self-2
invariant_of-self-2 c =
    let h = c.self.inside.numbers.numbers in
    (omega (arith, c.number_for.ensures.room, c.push.ensures.count), pushed_known c.self.inside.keys c.number_for.new.keys c.number_for.ensures.more c.number_for.ensures.kept h c.number_for.new.numbers.numbers c.number_for.ensures.numbers c.self.invariant.1 c.in_ok-number.number c.args.key c.in_ok-number.ensures.is c.push.new.self.numbers c.in_ok-number.ensures.within c.in_ok-push.ensures.ok)

pub returns-clause-ok : goal.returns-clause-ok
returns-clause-ok c =
    let h = c.self.inside.numbers.numbers in
    pushed c.self.inside.keys c.number_for.new.keys c.number_for.ensures.more c.number_for.ensures.kept h c.number_for.new.numbers.numbers c.number_for.ensures.numbers c.self.invariant.1 c.in_ok-number.number c.args.key c.in_ok-number.ensures.is c.push.new.self.numbers c.in_ok-push.ensures.ok
    ∙ ap (λ (v : View). changed (v.current ++ c.args.key ∷ []) v) c.self.view_is

pub returns-in_err-number-clause-err : goal.returns-in_err-number-clause-err
returns-in_err-number-clause-err c =
    on_err (seen_as (keys_at c.number_for.new.keys) c.number_for.new.numbers.numbers ≡ c.args.self.now) c.from_residual.result (stays c.self.inside.keys c.number_for.new.keys c.number_for.ensures.more c.number_for.ensures.kept c.self.inside.numbers.numbers c.number_for.new.numbers.numbers c.number_for.ensures.numbers c.self.invariant.1 ∙ c.self.view_is)

pub invariant_of-self-in_err-push : goal.invariant_of-self-in_err-push
invariant_of-self-in_err-push c = (
  omega (arith, c.number_for.ensures.room, c.push.ensures.count),
  stay_known c.self.inside.keys c.number_for.new.keys c.number_for.ensures.more c.number_for.ensures.kept c.self.inside.numbers.numbers c.push.new.self.numbers (ap (λ (q : Paired). q.numbers) c.in_err-push.ensures.err ∙ c.number_for.ensures.numbers) c.self.invariant.1,
)

pub returns-in_err-push-clause-err : goal.returns-in_err-push-clause-err
returns-in_err-push-clause-err c =
    on_err (seen_as (keys_at c.number_for.new.keys) c.push.new.self.numbers ≡ c.args.self.now) c.from_residual-in_err-push.result (stays c.self.inside.keys c.number_for.new.keys c.number_for.ensures.more c.number_for.ensures.kept c.self.inside.numbers.numbers c.push.new.self.numbers (ap (λ (q : Paired). q.numbers) c.in_err-push.ensures.err ∙ c.number_for.ensures.numbers) c.self.invariant.1 ∙ c.self.view_is)
