-- The code's columns and rules as those of the definitions. It says how the code stands to these.
use Rattle.std.specs.Prelude.{◌≡◌, Option, None, Some, Result, Ok, Err}
use Rattle.pl_base.specs.declared.state.State.{State}
use Rattle.pl_ddl.specs.Written as spec
use Rattle.pl_ddl.specs.declared.written.Asked.{Asked}
use Rattle.pl_ddl.specs.declared.written.Asked.TheVariants.{Check, Primary, Unique, Foreign}
use Rattle.pl_ddl.specs.declared.written.NewColumn.{NewColumn}
use Rattle.pl_ddl.specs.declared.written.NewRule.{NewRule}
use Rattle.pl_assigning.specs.pl_typing.declared.fail.ScopeFail.{ScopeFail}
use Rattle.pl_assigning.specs.pl_typing.declared.fail.ScopeFail.TheVariants.{State as Fails, Memory}

abbrev pub column_view : NewColumn → spec.NewColumn
column_view c = record { name = c.name.now; ty = c.ty.now; rules = c.rules.now }

abbrev pub asked_view : Asked → spec.Asked
asked_view (Check e) = spec.Check e.now
asked_view (Primary columns) = spec.Primary columns.now
asked_view (Unique columns) = spec.Unique columns.now
asked_view (Foreign columns) = spec.Foreign columns.now

abbrev pub rule_view : NewRule → spec.NewRule
rule_view r = record { name = r.name.now; asks = asked_view r.asks }

-- the call fails with this, or memory is wanting
abbrev pub FailsBy : {A : Type 0} → Result A ScopeFail → Option State → Type 0
FailsBy (Ok a) failure = failure ≡ None
FailsBy (Err (Fails state)) failure = failure ≡ Some state
FailsBy (Err Memory) failure = Unit {0}
