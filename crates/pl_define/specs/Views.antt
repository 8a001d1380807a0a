-- The failures of the code as those of the definitions. It says how the code stands to these.
use Rattle.std.specs.Prelude.{Option, Some, None}
use Rattle.pl_base.specs.declared.state.State.{State}
use Rattle.pl_routine_ddl.specs.pl_typing.declared.fail.ScopeFail.{ScopeFail}
use Rattle.pl_routine_ddl.specs.pl_typing.declared.fail.ScopeFail.TheVariants.{State as Fails, Memory}

abbrev pub fail_by : Option State → ScopeFail
fail_by (Some state) = Fails state
fail_by None = Memory
