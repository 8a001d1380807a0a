use Rattle.std.proofs.Common.{◌≡◌, ◌-◌, ◌+◌, ◌++◌, ◌∷◌, [], ◌∙◌, Option, None, List, sym, ap, subst, ℕ, vec_len, length, length-append, rules, arith}
use Rattle.std.specs.List.{slice_get, slice_set}
use Rattle.pl_history.specs.History.{changed, history}
use Rattle.pl_history.specs.Pairs.{Paired, Inverse, IsFree}
use Rattle.pl_history.specs.Undo.{undo_one}
use Rattle.pl_history.specs.declared.pairs.Change.{Change}
use Rattle.pl_history.specs.declared.pairs.Change.TheVariants.{Pushed}
use Rattle.pl_history.proofs.Inverses.{widened, free_widened, set_end}
use Rattle.pl_history.proofs.Past.{gone_on, fits_on, fits_now, back_pushed}
use Rattle.pl_history.proofs.pairs.Pairs.push.Goals as goal

pub put-requires-clause-free : goal.put-requires-clause-free
put-requires-clause-free c x some p is =
    let ns = c.self.inside.numbers.items in
    let l : vec_len c.push.new.self ≡ length c.push.new.self.items = search rules in
    let n : length (ns ++ None ∷ []) ≡ length ns + 1 = length-append ns (None ∷ []) in
    let e : length c.push.new.self.items ≡ length (ns ++ None ∷ []) = ap (λ (ms : List (Option ℕ)). length ms) c.in_ok-push.ensures.items in
    let free : IsFree x ns = subst (λ (q : Paired). IsFree x q.numbers.current) (sym c.self.view_is) (c.requires.free x some) in
    let at : p ≡ length ns = free_widened ns x free p (ap (λ (ms : List (Option ℕ)). slice_get ms p) (sym c.in_ok-push.ensures.items) ∙ is) in
    omega (arith, at, l, n, e, c.len-at.ensures)

pub put-requires-clause-inverse : goal.put-requires-clause-inverse
put-requires-clause-inverse c =
    subst (λ (ms : List (Option ℕ)). Inverse ms c.self.inside.places.items) (sym c.in_ok-push.ensures.items) (widened c.self.inside.numbers.items c.self.inside.places.items c.self.invariant.0)

pub invariant_of-self-2 : goal.invariant_of-self-2
invariant_of-self-2 c =
    let ns = c.self.inside.numbers.items in
    let cs = c.self.inside.changes.items in
    let l : vec_len c.push.new.self ≡ length c.push.new.self.items = search rules in
    let n : length (ns ++ None ∷ []) ≡ length ns + 1 = length-append ns (None ∷ []) in
    let e : length c.push.new.self.items ≡ length (ns ++ None ∷ []) = ap (λ (ms : List (Option ℕ)). length ms) c.in_ok-push.ensures.items in
    let at : c.len-at.result - 1 ≡ length ns = omega (arith, l, n, e, c.len-at.ensures) in
    let new : c.put.new.numbers.items ≡ ns ++ c.args.number ∷ [] = c.put.ensures.numbers ∙ (ap (λ (ms : List (Option ℕ)). slice_set ms (c.len-at.result - 1) c.args.number) c.in_ok-push.ensures.items ∙ (ap (λ (i : ℕ). slice_set (ns ++ None ∷ []) i c.args.number) at ∙ set_end ns None c.args.number)) in
    let is : c.push_reserved.new.self.items ≡ cs ++ Pushed ∷ [] = c.push_reserved.ensures.items ∙ ap (λ (ds : List Change). ds ++ Pushed ∷ []) c.reserve.ensures.items in
    (c.put.ensures.inverse, fits_on cs c.push_reserved.new.self.items Pushed ns c.put.new.numbers.items is (ap (undo_one Pushed) new ∙ back_pushed ns c.args.number) (length c.self.inside.places.items) (length c.put.new.places.items) c.put.ensures.len c.self.invariant.1 (fits_now ns c.self.inside.places.items c.self.invariant.0))

pub returns-clause-ok : goal.returns-clause-ok
returns-clause-ok c =
    let ns = c.self.inside.numbers.items in
    let cs = c.self.inside.changes.items in
    let l : vec_len c.push.new.self ≡ length c.push.new.self.items = search rules in
    let n : length (ns ++ None ∷ []) ≡ length ns + 1 = length-append ns (None ∷ []) in
    let e : length c.push.new.self.items ≡ length (ns ++ None ∷ []) = ap (λ (ms : List (Option ℕ)). length ms) c.in_ok-push.ensures.items in
    let at : c.len-at.result - 1 ≡ length ns = omega (arith, l, n, e, c.len-at.ensures) in
    let new : c.put.new.numbers.items ≡ ns ++ c.args.number ∷ [] = c.put.ensures.numbers ∙ (ap (λ (ms : List (Option ℕ)). slice_set ms (c.len-at.result - 1) c.args.number) c.in_ok-push.ensures.items ∙ (ap (λ (i : ℕ). slice_set (ns ++ None ∷ []) i c.args.number) at ∙ set_end ns None c.args.number)) in
    let is : c.push_reserved.new.self.items ≡ cs ++ Pushed ∷ [] = c.push_reserved.ensures.items ∙ ap (λ (ds : List Change). ds ++ Pushed ∷ []) c.reserve.ensures.items in
    gone_on cs c.push_reserved.new.self.items Pushed ns c.put.new.numbers.items is (ap (undo_one Pushed) new ∙ back_pushed ns c.args.number)
    ∙ (ap (λ (ms : List (Option ℕ)). changed ms (history undo_one cs ns)) new ∙ ap (λ (q : Paired). changed (q.numbers.current ++ c.args.number ∷ []) q.numbers) c.self.view_is)
