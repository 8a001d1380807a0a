use Rattle.std.proofs.Common.{◌≡◌, ◌∙◌, List, sym, ap, vec_len, length, rules}
use Rattle.pl_history.specs.History.{History}
use Rattle.pl_tables.specs.Named.{Named}
use Rattle.pl_tables.proofs.Finding.{length_past}
use Rattle.pl_tables.proofs.tables.Tables.changes.Goals as goal

pub returns : goal.returns
returns c =
    let l : vec_len c.self.inside.steps ≡ length c.self.inside.steps.items = search rules in
    c.len.ensures ∙ (l ∙ (sym (length_past c.self.inside.steps.items c.self.inside.places.items) ∙ ap (λ (h : History (List Named)). length h.past) c.self.view_is))
