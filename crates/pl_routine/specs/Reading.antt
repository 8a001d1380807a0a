-- What a text is read as, as the body of a routine, in the order in which its refusals come.
use Rattle.std.specs.Prelude.{◌≡◌, List, Option, Some, None, Result, Ok, Err}
use Rattle.pl_base.specs.States.{SYNTAX_ERROR, STATEMENT_TOO_COMPLEX}
use Rattle.pl_base.specs.declared.state.State.{State}
use Rattle.pl_bodies.specs.declared.statement.Body.{Body}
use Rattle.pl_body_parse.specs.Spells.{SpellsBody}
use Rattle.pl_body_rules.specs.Heading.{Routine}
use Rattle.pl_body_rules.specs.Rules.{first_breach}
use Rattle.pl_grammar.specs.Deep.{Deep, IsShallow}
use Rattle.pl_grammar.specs.Marks.{kinds}
use Rattle.pl_lex.specs.Characters.{Text}
use Rattle.pl_lex.specs.Lexemes.{IsBad, Lexemes}
use Rattle.pl_lex.specs.declared.token.Token.{Token}
use Rattle.pl_routine.specs.declared.reading.BodyFail.{BodyFail}
use Rattle.pl_routine.specs.declared.reading.BodyFail.TheVariants as fail

-- the tokens aren't too deep, and spell the body
abbrev pub Spell : Text → List Token → Body → Type 0
Spell text tokens body = IsShallow (kinds tokens) × SpellsBody text body tokens

-- what tokens are read as, of which none is bad: TooDeep comes at the first token at which more
-- than 100 parts are open, then Syntax where no body is spelled, then a rule that is broken
abbrev pub AnswersOf : Text → List Token → Routine → Result Body BodyFail → Type 0
AnswersOf text tokens r (Ok body) = Spell text tokens body × (first_breach r body ≡ None)
AnswersOf text tokens r (Err (fail.Bad bad)) = ⊥
AnswersOf text tokens r (Err (fail.TooDeep at)) = Deep (kinds tokens) at
AnswersOf text tokens r (Err fail.Syntax) =
    IsShallow (kinds tokens) × ((body : Body) → SpellsBody text body tokens → ⊥)
AnswersOf text tokens r (Err (fail.Breach breach)) =
    (body : Body) × Spell text tokens body × (first_breach r body ≡ Some breach)
AnswersOf text tokens r (Err fail.Memory) = Unit {0}

-- what a text is read as: the first lexeme that is bad comes before all
abbrev pub Answers : Text → Routine → Result Body BodyFail → Type 0
Answers text r (Err (fail.Bad bad)) = IsBad bad.at bad.state text
Answers text r (Err fail.Memory) = Unit {0}
Answers text r answer =
    (tokens : List Token) × Lexemes tokens text × AnswersOf text tokens r answer

-- a body whose tokens the text has
abbrev pub IsTreeOf : Text → Body → Type 0
IsTreeOf text body =
    (tokens : List Token) × Lexemes tokens text × SpellsBody text body tokens

-- the SQLSTATE of a refusal
abbrev pub state_of : BodyFail → Option State
state_of (fail.Bad bad) = Some bad.state
state_of (fail.TooDeep at) = Some STATEMENT_TOO_COMPLEX
state_of fail.Syntax = Some SYNTAX_ERROR
state_of (fail.Breach breach) = Some breach.state
state_of fail.Memory = None
