use Rattle.std.proofs.Common.{sym, ap, ◌∙◌}
use Rattle.pl_base.specs.declared.value.Value.{Value}
use Rattle.pl_value.specs.Reading.{got}
use Rattle.pl_value.proofs.membership.operand_in.Goals as goal

pub returns-in-Some : goal.returns-in-Some
returns-in-Some g c = λ calls sub caller.
    c.in-Some.ensures calls sub caller ∙ ap (λ (v : Value). got v caller) (sym c.lent.ensures)

pub returns : goal.returns
returns g c = λ calls sub caller.
    c.in_ok-number.ensures calls sub caller ∙ ap (λ (v : Value). got v caller) (sym (c.made.ensures ∙ c.in_ok-v.ensures))
