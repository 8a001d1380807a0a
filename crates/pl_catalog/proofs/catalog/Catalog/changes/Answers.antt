use Rattle.std.proofs.Common.{◌≡◌, ◌∙◌, sym, ap, vec_len, length, rules}
use Rattle.pl_catalog.specs.Objects.{Catalogue}
use Rattle.pl_catalog.proofs.Found.{length_past}
use Rattle.pl_catalog.proofs.catalog.Catalog.changes.Goals as goal

pub returns : goal.returns
returns c =
    let l : vec_len c.self.inside.steps ≡ length c.self.inside.steps.items = search rules in
    c.len.ensures ∙ (l ∙ (sym (length_past c.self.inside.steps.items c.self.inside.entries.items) ∙ ap (λ (k : Catalogue). length k.past) c.self.view_is))
