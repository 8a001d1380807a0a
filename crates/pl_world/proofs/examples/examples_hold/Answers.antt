use Rattle.std.proofs.Common.{refl}
use Rattle.pl_base.specs.Condition.{conditions}
use Rattle.pl_meaning.specs.pl_names.Names.{qualified_means}
use Rattle.pl_world.proofs.examples.examples_hold.Goals as goal
use Rattle.pl_world.specs.Blocks.{handling}
use Rattle.pl_world.specs.Variables.{declared, opened}

pub returns : goal.returns
unfolding conditions qualified_means handling declared opened
returns c = record {
  up = refl;
  to_the_last = refl;
  down = refl;
  none = refl;
  one = refl;
  text = refl;
  named = refl;
  coded = refl;
  success = refl;
  of_its_class = refl;
  of_no_class = refl;
  others = refl;
  not_canceled = refl;
  sqlstate_of_block = refl;
  no_function_by_call = refl;
  no_procedure_inside = refl;
  void_given = refl;
  void_prints = refl;
  void_is_no_null = refl;
}
