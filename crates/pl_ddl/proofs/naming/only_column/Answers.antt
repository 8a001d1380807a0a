use Rattle.std.proofs.Common.{◌∙◌, ◌<◌, sym, arith, length}
use Rattle.pl_ddl.proofs.Only.{front_alone, front_and_others}
use Rattle.pl_ddl.specs.Naming.{names_column}
use Rattle.pl_ddl.proofs.naming.only_column.Goals as goal

pub returns-then-names_any : goal.returns-then-names_any
returns-then-names_any c =
    let some : 0 < length c.loop-rest.rest.now = omega arith in
    sym (c.loop-rest.invariant
    ∙ front_and_others (names_column c.args.table c.args.e.now) c.loop-rest.rest.now c.column-item.result some c.column-item.is (sym c.if-names_column.ensures) (sym c.if-names_any.ensures))

pub returns-then-names_column : goal.returns-then-names_column
returns-then-names_column c =
    let some : 0 < length c.loop-rest.rest.now = omega arith in
    c.from_ref.ensures.value
    ∙ sym (c.loop-rest.invariant
    ∙ front_alone (names_column c.args.table c.args.e.now) c.loop-rest.rest.now c.column-item.result some c.column-item.is (sym c.if-names_column.ensures) (sym c.if-names_any.ensures))
