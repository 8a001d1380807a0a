use Rattle.std.proofs.Common.{◌≡◌, ◌<◌, ◌∙◌, ℕ, add-one, ap, arith, length, refl, rules, slice_get, Some, subst, sym, take, vec_len}
use Rattle.std.proofs.lemmas.Option.{slice_get_read}
use Rattle.pl_journal.proofs.Fronts.{as_many, is_back}
use Rattle.pl_undo.specs.Store.{Stored}
use Rattle.pl_journal.proofs.journal.Journal.roll_back.Goals as goal

pub index-size-requires : goal.index-size-requires
index-size-requires c =
    let counts : vec_len c.self.inside.sizes ≡ length c.self.inside.sizes.items = search rules in
    let many = as_many c.self.inside.store.last c.self.inside.payload.items 0 c.self.inside.sizes.items c.self.inside.store.marks c.self.invariant.fronts in
    let live : c.args.mark.now.at < length c.self.inside.store.marks = subst (λ (s : Stored). c.args.mark.now.at < length s.marks) (sym c.self.view_is) c.requires.live in
    omega (arith, counts, many, live)

pub overflow_add-mark : goal.overflow_add-mark
overflow_add-mark c =
    let counts : vec_len c.self.inside.sizes ≡ length c.self.inside.sizes.items = search rules in
    let many = as_many c.self.inside.store.last c.self.inside.payload.items 0 c.self.inside.sizes.items c.self.inside.store.marks c.self.invariant.fronts in
    let live : c.args.mark.now.at < length c.self.inside.store.marks = subst (λ (s : Stored). c.args.mark.now.at < length s.marks) (sym c.self.view_is) c.requires.live in
    let lt : c.args.mark.now.at < vec_len c.self.inside.sizes = omega (arith, counts, many, live) in
    search (rules, lt)

pub invariant_of-self : goal.invariant_of-self
invariant_of-self c =
    let at = c.args.mark.now.at in
    let sizes = c.self.inside.sizes.items in
    let many = as_many c.self.inside.store.last c.self.inside.payload.items 0 sizes c.self.inside.store.marks c.self.invariant.fronts in
    let live : at < length c.self.inside.store.marks = subst (λ (s : Stored). at < length s.marks) (sym c.self.view_is) c.requires.live in
    let is : slice_get sizes at ≡ Some c.index-size.result.now = slice_get_read sizes (length sizes) at c.index-size.result.now refl (omega (arith, many, live)) c.index-size.ensures in
    is_back c.self.inside.payload.items sizes c.self.inside.store c.self.invariant at c.index-size.result.now c.truncate.new.self.items c.truncate-2.new.self.items c.roll_back.new.self is c.truncate.ensures.items
    (c.truncate-2.ensures.items ∙ ap (λ (n : ℕ). take n sizes) (add-one at)) c.roll_back.ensures.now c.roll_back.ensures.last (c.roll_back.ensures.marks ∙ ap (λ (n : ℕ). take n c.self.inside.store.marks) (add-one at))
