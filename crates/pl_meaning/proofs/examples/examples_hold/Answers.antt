use Rattle.std.proofs.Common.{refl}
use Rattle.std.specs.Fmt.{digits}
use Rattle.pl_base.specs.Condition.{conditions}
use Rattle.pl_meaning.proofs.examples.examples_hold.Goals as goal

pub returns : goal.returns
unfolding digits conditions
returns c = record {
  text = refl;
  commits = refl;
  last = refl;
  fails = refl;
  does_not_fail = refl;
  error = refl;
  notice = refl;
  before_all = (refl, refl);
  in_the_first = (refl, refl);
  between = (refl, refl);
  at_the_end = (refl, refl);
}
