use Rattle.std.proofs.Common.{◌∙◌}
use Rattle.pl_typing.proofs.operators.pair.Goals as goal

pub returns : goal.returns
returns c = c.in_ok-new.ensures ∙ rw (
  c.into_inner.ensures,
  c.into_inner-2.ensures,
  c.in_ok-first.ensures,
  c.in_ok-second.ensures,
  c.taken-left_type.ensures,
  c.taken-right_type.ensures,
)
