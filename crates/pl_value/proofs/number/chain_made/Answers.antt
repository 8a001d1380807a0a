use Rattle.std.proofs.Common.{sym, ap, ◌∙◌}
use Rattle.pl_base.specs.declared.value.Value.{Value}
use Rattle.pl_value.specs.Reading.{got}
use Rattle.pl_value.proofs.number.chain_made.Goals as goal

pub returns : goal.returns
returns g c = λ calls sub caller.
    c.in_ok-number.ensures calls sub caller ∙ ap (λ (v : Value). got v caller) (sym c.in_ok-v.ensures)
