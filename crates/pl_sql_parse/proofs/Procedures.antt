-- How CREATE PROCEDURE is read, step by step.
use Rattle.std.proofs.Common.{◌≡◌, ◌∙◌, ap, Bool, false, if◌then◌else◌, List, Option, Some, Result, Ok, Err}
use Rattle.pl_tree.specs.declared.command.Definition.{Definition as Definition_}
use Rattle.pl_tree.specs.declared.command.Param.{Param as Param_}
use Rattle.pl_tree.specs.declared.command.RoutineKind.TheVariants as kind
use Rattle.pl_tree.specs.declared.command.ResultType.TheVariants as returns
use Rattle.pl_grammar.specs.Marks.{Tokens, sees, after}
use Rattle.pl_grammar.specs.declared.fail.Fail.{Fail}
use Rattle.pl_grammar.specs.Parser.{Outcome, Parser, Reads, Makes, and_then, with_rest, expect}
use Rattle.pl_grammar.specs.Rule.{part, make, ◌then◌}
use Rattle.pl_sql_parse.specs.declared.parts.Clause.{Clause as Clause_}
use Rattle.pl_sql_parse.specs.Grammar.{NewRoutine, OrReplace, Signature, Returned, Clauses, Name, Routine, function_of, procedure_of}
use Rattle.pl_sql_parse.specs.FirstFollow.{reads, reads_part}
use Rattle.pl_sql_parse.specs.Trees.{routine_of}
use Rattle.pl_sql_parse.specs.Words.{FUNCTION, PROCEDURE}
use Rattle.pl_sql_parse.proofs.Step.{step}

abbrev Head : Type 0
Head = Name × List Param_

abbrev made : Bool × Routine → Parser Definition_
made p ts = with_rest (routine_of p.0 p.1.0 p.1.1.0.0 p.1.1.0.1 p.1.1.1.0 p.1.1.1.1) ts

abbrev listed : Head → List Clause_ → Parser (Head × List Clause_)
listed head clauses ts = Some ((head, clauses), ts)

abbrev clauses_of : Head → Parser (Head × List Clause_)
clauses_of head ts = and_then (reads_part Clauses ts) (listed head)

abbrev headed : Parser (Head × List Clause_)
headed ts = and_then (reads_part Signature ts) clauses_of

abbrev procedure : Head × List Clause_ → Parser Routine
procedure p ts = Some (procedure_of p, ts)

abbrev procedure_behind : Unit {0} → Parser Routine
procedure_behind u ts = and_then (headed ts) procedure

abbrev read_procedure : Parser Routine
read_procedure ts = and_then (expect PROCEDURE ts) procedure_behind

abbrev read_function : Parser Routine
read_function = reads (make function_of (part Signature then part Returned))

abbrev read_routine : Parser Routine
read_routine ts = (if sees FUNCTION ts then read_function else read_procedure) (after FUNCTION ts)

abbrev paired : Bool → Routine → Parser (Bool × Routine)
paired replaces routine ts = Some ((replaces, routine), ts)

abbrev routine_behind : Bool → Parser (Bool × Routine)
routine_behind replaces ts = and_then (read_routine ts) (paired replaces)

new_routine_is : (ts : Tokens) → reads_part NewRoutine ts ≡ and_then (and_then (reads_part OrReplace ts) routine_behind) made
new_routine_is ts = step NewRoutine ts

headed_is : (ts mid end : Tokens) (head : Head) (clauses : List Clause_) → reads_part Signature ts ≡ Some (head, mid) → reads_part Clauses mid ≡ Some (clauses, end) → headed ts ≡ Some ((head, clauses), end)
headed_is ts mid end head clauses h k = ap (λ (o : Outcome Head). and_then o clauses_of) h ∙ ap (λ (o : Outcome (List Clause_)). and_then o (listed head)) k

procedure_is : (ts rest end : Tokens) (p : Head × List Clause_) → sees FUNCTION ts ≡ false → expect PROCEDURE (after FUNCTION ts) ≡ Some (tt, rest) → headed rest ≡ Some (p, end) → read_routine ts ≡ Some (procedure_of p, end)
procedure_is ts rest end p h k l =
    ap (λ (b : Bool). (if b then read_function else read_procedure) (after FUNCTION ts)) h
    ∙ ap (λ (o : Outcome (Unit {0})). and_then o procedure_behind) k
    ∙ ap (λ (o : Outcome (Head × List Clause_)). and_then o procedure) l

pub procedure_read : (ts front rest mid end : Tokens) (replaces : Bool) (name : Name) (params : List Param_) (clauses : List Clause_)
    → reads_part OrReplace ts ≡ Some (replaces, front)
    → sees FUNCTION front ≡ false
    → expect PROCEDURE (after FUNCTION front) ≡ Some (tt, rest)
    → reads_part Signature rest ≡ Some ((name, params), mid)
    → reads_part Clauses mid ≡ Some (clauses, end)
    → reads_part NewRoutine ts ≡ with_rest (routine_of replaces kind.Procedure name params returns.Absent clauses) end
procedure_read ts front rest mid end replaces name params clauses h k l m n =
    new_routine_is ts
    ∙ ap (λ (o : Outcome Bool). and_then (and_then o routine_behind) made) h
    ∙ ap (λ (o : Outcome Routine). and_then (and_then o (paired replaces)) made) (procedure_is front rest end ((name, params), clauses) k l (headed_is rest mid end (name, params) clauses m n))

-- what is made of the parts is what is read
pub made_is_read : {A : Type 0} (outcome : Outcome A) (o : Option A) (result : Result A Fail) (end : Tokens) → outcome ≡ with_rest o end → Makes o result → Reads outcome result end
made_is_read {A = A} outcome o (Ok a) end is makes = is ∙ ap (λ (p : Option A). with_rest p end) makes
made_is_read {A = A} outcome o (Err e) end is makes = λ syntax. is ∙ ap (λ (p : Option A). with_rest p end) (makes syntax)
