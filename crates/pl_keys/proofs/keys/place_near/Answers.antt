use Rattle.std.proofs.Common.{sym, ap, ◌∙◌}
use Rattle.pl_keys.specs.Same.{same}
use Rattle.pl_keys.proofs.Marked.{near}
use Rattle.pl_keys.proofs.keys.place_near.Goals as goal

pub returns-then-is_same : goal.returns-then-is_same
returns-then-is_same c = sym (near c.args.row.now c.args.rows.now c.args.mark c.args.place c.index-rows-place.result c.requires.marked c.requires.first
    (ap (same c.args.row.now) (sym c.index-rows-place.is ∙ sym c.as_slice.ensures) ∙ (sym c.is_same.ensures.same ∙ c.if-is_same.true)))
