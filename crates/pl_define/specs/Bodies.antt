-- The body that a text is, computed. What has to be believed is `Answers` of pl_routine: the law
-- `one_body_of_a_text` says that this is what it gives.
use Rattle.std.specs.Prelude.{◌≡◌, ◌-◌, ◌^◌, ◌&&◌, Bool, if◌then◌else◌, nat_lt}
use Rattle.std.specs.Prelude.{List, [], length, Option, Some, None, Ok, Err}
use Rattle.pl_base.specs.States.{INVALID_FUNCTION_DEFINITION, PROGRAM_LIMIT_EXCEEDED}
use Rattle.pl_base.specs.States.{STATEMENT_TOO_COMPLEX, SYNTAX_ERROR}
use Rattle.pl_base.specs.declared.state.State.{State}
use Rattle.pl_bodies.specs.declared.statement.Body.{Body}
use Rattle.pl_routine.specs.pl_body_parse.Computed.{body_of_tokens}
use Rattle.pl_routine.specs.pl_body_rules.Heading.{Routine}
use Rattle.pl_routine.specs.pl_body_rules.Rules.{first_breach}
use Rattle.pl_routine.specs.pl_body_rules.declared.breach.Breach.{Breach}
use Rattle.pl_routine.specs.pl_body_rules.declared.heading.Kind.{Kind}
use Rattle.pl_routine.specs.pl_body_rules.declared.heading.Kind.TheVariants as of
use Rattle.pl_codec.specs.Spelling.{is_text}
use Rattle.pl_reading.specs.pl_grammar.Deep.{start}
use Rattle.pl_reading.specs.pl_grammar.Marks.{kinds}
use Rattle.pl_lex.specs.Characters.{Text}
use Rattle.pl_lex.specs.Computed.{lexemes}
use Rattle.pl_lex.specs.Lexemes.{first_bad, tokens_of}
use Rattle.pl_lex.specs.declared.token.Bad.{Bad}
use Rattle.pl_lex.specs.declared.token.Token.{Token}
use Rattle.pl_reading.specs.Computed.{deep_from}
use Rattle.pl_routine.specs.Reading.{Answers, state_of}
use Rattle.pl_routine.specs.declared.reading.BodyFail.{BodyFail}
use Rattle.pl_tree.specs.declared.command.NewRoutine.{NewRoutine}
use Rattle.pl_tree.specs.declared.command.ResultType.TheVariants.{Absent}
use Rattle.pl_tree.specs.declared.command.RoutineKind.{RoutineKind}
use Rattle.pl_tree.specs.declared.command.RoutineKind.TheVariants.{Function, Procedure}
use Rattle.pl_routine_ddl.specs.pl_typing.Resolved.{Resolved}

-- ---- texts

-- a body that breaks no rule
abbrev pub unbroken : Option Breach → Body → Resolved Body
unbroken None body = Ok body
unbroken (Some breach) body = Err breach.state

abbrev pub keeping : Routine → Option Body → Resolved Body
keeping r None = Err SYNTAX_ERROR
keeping r (Some body) = unbroken (first_breach r body) body

abbrev pub body_by : Text → Routine → Option Bad → List Token → Resolved Body
body_by text r (Some bad) tokens = Err bad.state
body_by text r None tokens =
    if deep_from start (kinds tokens) then Err STATEMENT_TOO_COMPLEX
    else keeping r (body_of_tokens text tokens)

-- the first lexeme that is bad comes before all, then parts that stand too deep inside one another
unfoldable pub body_in : Text → Routine → Resolved Body
body_in text r = body_by text r (first_bad (lexemes 0 text)) (tokens_of (lexemes 0 text))

-- the text is refused with this state
abbrev pub IsRefused : Text → Routine → State → Type 0
IsRefused text r state =
    (fail : BodyFail) × Answers text r (Err fail) × (state_of fail ≡ Some state)

-- ---- a new routine

abbrev pub kind_of : RoutineKind → Kind
kind_of Function = of.Function
kind_of Procedure = of.Procedure

-- what its body is the body of
abbrev pub heading_of : NewRoutine → Routine
heading_of r = record {
  name = Some r.name;
  kind = kind_of r.kind;
  params = r.params;
  result = r.result;
}

-- each place in it is counted in 4 bytes
abbrev pub is_body_text : Text → Bool
is_body_text text = is_text text && nat_lt (length text) (2 ^ 32 - 1)

abbrev pub body_of_text : Text → Routine → Resolved Body
body_of_text text r =
    if is_body_text text then body_in text r else Err PROGRAM_LIMIT_EXCEEDED

abbrev pub written_body : Option Text → Routine → Resolved Body
written_body None r = Err INVALID_FUNCTION_DEFINITION
written_body (Some text) r = body_of_text text r

abbrev pub body_of : NewRoutine → Resolved Body
body_of r = written_body r.body (heading_of r)

-- ---- a DO

-- what its text is the body of: it has no name, no parameter and no result
abbrev pub nameless : Routine
nameless = record { name = None; kind = of.Do; params = []; result = Absent }
