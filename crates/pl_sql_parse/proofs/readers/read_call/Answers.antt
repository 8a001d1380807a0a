use Rattle.std.proofs.Common.{rules}
use Rattle.pl_sql_parse.specs.Grammar.{Call}
use Rattle.pl_sql_parse.proofs.Step.{refused}
use Rattle.pl_sql_parse.proofs.Calls.{no_bracket, no_arguments, called}
use Rattle.pl_sql_parse.proofs.Procedures.{made_is_read}
use Rattle.pl_sql_parse.proofs.readers.read_call.Goals as goal

pub returns-in-Err : goal.returns-in-Err
returns-in-Err c = refused Call _ _ (search rules)

pub returns-in-Err-expect : goal.returns-in-Err-expect
returns-in-Err-expect c = λ e. no_bracket c.args.tokens.now c.name.new.self c.in-Ok.value c.in-Ok.ensures (c.in-Err-expect.ensures e)

pub returns-in-Err-read_arguments : goal.returns-in-Err-read_arguments
returns-in-Err-read_arguments c =
    λ e. no_arguments c.args.tokens.now c.name.new.self c.expect.new.self c.in-Ok.value c.in-Ok.ensures c.in-Ok-expect.ensures (c.in-Err-read_arguments.ensures e)

pub returns : goal.returns
returns c =
    made_is_read _ _ _ _
    (called c.args.tokens.now c.name.new.self c.expect.new.self c.read_arguments.new.tokens c.in-Ok.value c.in-Ok-read_arguments.value c.in-Ok.ensures c.in-Ok-expect.ensures c.in-Ok-read_arguments.ensures)
    c.call_of.ensures
