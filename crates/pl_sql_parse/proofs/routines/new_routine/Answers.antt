use Rattle.std.proofs.Common.{rules, ◌≡◌, false, Some}
use Rattle.pl_grammar.specs.Marks.{sees, after}
use Rattle.pl_grammar.specs.Parser.{expect}
use Rattle.pl_sql_parse.specs.Words.{FUNCTION, PROCEDURE}
use Rattle.pl_sql_parse.proofs.Procedures.{procedure_read, made_is_read}
use Rattle.pl_sql_parse.specs.Grammar.{NewRoutine}
use Rattle.pl_sql_parse.proofs.Step.{reads_rule, refused}
use Rattle.pl_sql_parse.proofs.routines.new_routine.Goals as goal

pub returns-in-Err : goal.returns-in-Err
returns-in-Err c = refused NewRoutine _ _ (search rules)

pub returns-in-Err-signature : goal.returns-in-Err-signature
returns-in-Err-signature c = refused NewRoutine _ _ (search rules)

pub returns-in-Err-returned : goal.returns-in-Err-returned
returns-in-Err-returned c = refused NewRoutine _ _ (search rules)

pub returns-then-eat : goal.returns-then-eat
returns-then-eat c = reads_rule NewRoutine _ _ _ (search rules)

pub returns-in-Err-expect : goal.returns-in-Err-expect
returns-in-Err-expect c = refused NewRoutine _ _ (search rules)

pub returns-in-Err-signature-2 : goal.returns-in-Err-signature-2
returns-in-Err-signature-2 c = refused NewRoutine _ _ (search rules)

pub returns-in-Err-clauses : goal.returns-in-Err-clauses
returns-in-Err-clauses c = refused NewRoutine _ _ (search rules)

pub returns : goal.returns
returns c =
    let no_function : sees FUNCTION c.or_replace.new.tokens ≡ false = search rules in
    let opened : expect PROCEDURE (after FUNCTION c.or_replace.new.tokens) ≡ Some (tt, c.expect.new.self) = search rules in
    made_is_read _ _ _ _
    (procedure_read c.args.tokens.now c.or_replace.new.tokens c.expect.new.self c.signature-2.new.tokens c.clauses.new.tokens c.in-Ok.value c.in-Ok-signature-2.value.0 c.in-Ok-signature-2.value.1 c.in-Ok-clauses.value
    c.in-Ok.ensures no_function opened c.in-Ok-signature-2.ensures c.in-Ok-clauses.ensures)
    c.routine_of-2.ensures
