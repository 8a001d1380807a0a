use Rattle.std.proofs.Common.{◌≡◌, ◌∙◌, ap, filter, rules}
use Rattle.std.proofs.lemmas.Fn.{filter_same}
use Rattle.pl_catalog.specs.declared.entries.Entry.{Entry}
use Rattle.pl_catalog.specs.Entries.{there}
use Rattle.pl_catalog.proofs.Found.{there_filtered}
use Rattle.pl_catalog.proofs.entries.purge.Goals as goal

pub returns : goal.returns
returns c =
    let es = c.args.entries.now.items in
    let left : c.retain.new.self.items ≡ filter (λ (e : Entry). e.is_there) es = filter_same _ _ _ (λ x b f' k. search rules) _ _ c.retain.ensures.filtered in
    ap there left ∙ there_filtered es
