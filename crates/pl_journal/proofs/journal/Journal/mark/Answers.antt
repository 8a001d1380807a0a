use Rattle.std.proofs.Common.{◌≡◌, ◌∙◌, ◌++◌, ℕ, [], ◌∷◌, ap, length, rules, vec_len}
use Rattle.pl_journal.proofs.Fronts.{is_set}
use Rattle.pl_journal.proofs.journal.Journal.mark.Goals as goal

pub invariant_of-self : goal.invariant_of-self
invariant_of-self c =
    let counts : vec_len c.self.inside.payload ≡ length c.self.inside.payload.items = search rules in
    is_set c.self.inside.payload.items c.self.inside.sizes.items c.self.inside.store c.self.invariant c.push_reserved.new.self.items c.mark.new.self
    (c.push_reserved.ensures.items ∙ ap (λ (n : ℕ). c.self.inside.sizes.items ++ n ∷ []) (c.len.ensures ∙ counts)) c.mark.ensures.now c.mark.ensures.last c.mark.ensures.marks
