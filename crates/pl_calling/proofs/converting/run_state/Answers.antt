use Rattle.std.proofs.Common.{◌∙◌, sym}
use Rattle.pl_calling.proofs.Named.{as_it_is}
use Rattle.pl_calling.proofs.converting.run_state.Goals as goal

pub returns : goal.returns
returns c = as_it_is c.args.state (sym c.eq.ensures ∙ c.if-eq.false, (sym c.eq-else-eq.ensures ∙ c.if-eq-2.false, (sym c.eq-else-eq-2.ensures ∙ c.if-eq-3.false, (sym c.eq-else-eq-3.ensures ∙ c.if-eq-4.false, (sym c.eq-else-eq-4.ensures ∙ c.if-eq-5.false, (sym c.eq-else-eq-5.ensures ∙ c.if-eq-6.false, (sym c.eq-else-eq-6.ensures ∙ c.if-eq-7.false, tt)))))))
