use Rattle.std.proofs.Common.{◌≡◌, ◌<◌, ◌∙◌, Option, List, sym, ap, ℕ, length, arith}
use Rattle.std.specs.List.{slice_get, slice_set}
use Rattle.pl_history.specs.History.{History, changed, seen_as}
use Rattle.pl_history.specs.Pairs.{Paired}
use Rattle.pl_unique.specs.declared.key.Part.{Part}
use Rattle.pl_unique.specs.Numbered.{keys_at}
use Rattle.pl_unique.proofs.Numbers.{stands, stays, stay_known, was_set, set_known, on_err}
use Rattle.pl_unique.proofs.key_map.KeyMap.set.Goals as goal

abbrev Numbers : Type 0
Numbers = List (Option ℕ)

abbrev View : Type 0
View = History (List (Option (List Part)))

pub set-requires-clause-known : goal.set-requires-clause-known
set-requires-clause-known c n is =
    let lt : n < length c.number_for.new.keys = c.in_ok-number.ensures.within n is in
    omega (arith, lt, c.number_for.ensures.room)

pub set-requires-clause-free : goal.set-requires-clause-free
set-requires-clause-free c n is at has =
    let keys = c.self.inside.keys in
    let numbers = c.self.inside.numbers.numbers.current in
    stands keys c.number_for.new.keys c.number_for.ensures.more c.number_for.ensures.kept (λ p. p ≡ c.args.at) numbers c.args.key c.in_ok-number.number c.self.invariant.1.0 c.in_ok-number.ensures.within c.in_ok-number.ensures.is
    (λ k e p h. c.requires.free k e p (ap (λ (v : View). slice_get v.current p) (sym c.self.view_is) ∙ h)) n is at
    (ap (λ (g : History Numbers). slice_get g.current at) (sym c.number_for.ensures.numbers) ∙ has)

pub invariant_of-self : goal.invariant_of-self
invariant_of-self c =
    let h = c.self.inside.numbers.numbers in
    (c.number_for.ensures.room, stay_known c.self.inside.keys c.number_for.new.keys c.number_for.ensures.more c.number_for.ensures.kept h c.number_for.new.numbers.numbers c.number_for.ensures.numbers c.self.invariant.1)

pub invariant_of-self-2 : goal.invariant_of-self-2
invariant_of-self-2 c =
    let h = c.self.inside.numbers.numbers in
    (omega (arith, c.number_for.ensures.room, c.set.ensures.count), set_known c.self.inside.keys c.number_for.new.keys c.number_for.ensures.more c.number_for.ensures.kept h c.number_for.new.numbers.numbers c.number_for.ensures.numbers c.self.invariant.1 c.in_ok-number.number c.args.key c.in_ok-number.ensures.is c.set.new.self.numbers c.args.at c.in_ok-number.ensures.within c.in_ok-set.ensures.ok)

pub returns-clause-ok : goal.returns-clause-ok
returns-clause-ok c =
    let h = c.self.inside.numbers.numbers in
    was_set c.self.inside.keys c.number_for.new.keys c.number_for.ensures.more c.number_for.ensures.kept h c.number_for.new.numbers.numbers c.number_for.ensures.numbers c.self.invariant.1 c.in_ok-number.number c.args.key c.in_ok-number.ensures.is c.set.new.self.numbers c.args.at c.in_ok-set.ensures.ok
    ∙ ap (λ (v : View). changed (slice_set v.current c.args.at c.args.key) v) c.self.view_is

pub returns-in_err-number-clause-err : goal.returns-in_err-number-clause-err
returns-in_err-number-clause-err c =
    on_err (seen_as (keys_at c.number_for.new.keys) c.number_for.new.numbers.numbers ≡ c.args.self.now) c.from_residual.result (stays c.self.inside.keys c.number_for.new.keys c.number_for.ensures.more c.number_for.ensures.kept c.self.inside.numbers.numbers c.number_for.new.numbers.numbers c.number_for.ensures.numbers c.self.invariant.1 ∙ c.self.view_is)

pub invariant_of-self-in_err-set : goal.invariant_of-self-in_err-set
invariant_of-self-in_err-set c = (
  omega (arith, c.number_for.ensures.room, c.set.ensures.count),
  stay_known c.self.inside.keys c.number_for.new.keys c.number_for.ensures.more c.number_for.ensures.kept c.self.inside.numbers.numbers c.set.new.self.numbers (ap (λ (q : Paired). q.numbers) c.in_err-set.ensures.err ∙ c.number_for.ensures.numbers) c.self.invariant.1,
)

pub returns-in_err-set-clause-err : goal.returns-in_err-set-clause-err
returns-in_err-set-clause-err c =
    on_err (seen_as (keys_at c.number_for.new.keys) c.set.new.self.numbers ≡ c.args.self.now) c.from_residual-in_err-set.result (stays c.self.inside.keys c.number_for.new.keys c.number_for.ensures.more c.number_for.ensures.kept c.self.inside.numbers.numbers c.set.new.self.numbers (ap (λ (q : Paired). q.numbers) c.in_err-set.ensures.err ∙ c.number_for.ensures.numbers) c.self.invariant.1 ∙ c.self.view_is)
