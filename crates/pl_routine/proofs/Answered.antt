-- What the reader's steps find is what the text is read as.
use Rattle.std.proofs.Common.{◌≡◌, ◌∙◌, List, None, Result, Ok, Err, subst, sym}
use Rattle.std.specs.Prelude.{IfOk}
use Rattle.pl_bodies.specs.declared.statement.Body.{Body}
use Rattle.pl_body_parse.specs.Spells.{SpellsBody}
use Rattle.pl_body_rules.specs.Heading.{Routine}
use Rattle.pl_body_rules.specs.Rules.{first_breach}
use Rattle.pl_lex.specs.Characters.{Text}
use Rattle.pl_lex.specs.Lexemes.{Lexemes}
use Rattle.pl_lex.specs.declared.token.Token.{Token}
use Rattle.pl_routine.specs.Keeping.{Keeps}
use Rattle.pl_routine.specs.Reading.{Spell, AnswersOf, Answers, IsTreeOf}
use Rattle.pl_routine.specs.declared.reading.BodyFail.{BodyFail}
use Rattle.pl_routine.specs.declared.reading.BodyFail.TheVariants as fail

-- a body that is spelled, with its rules
pub kept : (text : Text) (tokens : List Token) (r : Routine) (body : Body) (answer : Result Body BodyFail)
    → Spell text tokens body → Keeps r body answer → AnswersOf text tokens r answer
kept text tokens r body (Ok other) spells keeps =
    (subst (λ (b : Body). Spell text tokens b) (sym keeps.0) spells, subst (λ (b : Body). first_breach r b ≡ None) (sym keeps.0) keeps.1)
kept text tokens r body (Err (fail.Bad bad)) spells keeps = keeps
kept text tokens r body (Err (fail.TooDeep at)) spells keeps = absurd keeps
kept text tokens r body (Err fail.Syntax) spells keeps = absurd keeps
kept text tokens r body (Err (fail.Breach breach)) spells keeps = (body, spells, keeps)
kept text tokens r body (Err fail.Memory) spells keeps = tt

-- tokens without a bad one are those of the text
pub of_tokens : (text : Text) (tokens : List Token) (r : Routine) (answer : Result Body BodyFail)
    → Lexemes tokens text → AnswersOf text tokens r answer → Answers text r answer
of_tokens text tokens r (Ok body) lexed answers = (tokens, lexed, answers)
of_tokens text tokens r (Err (fail.Bad bad)) lexed answers = absurd answers
of_tokens text tokens r (Err (fail.TooDeep at)) lexed answers = (tokens, lexed, answers)
of_tokens text tokens r (Err fail.Syntax) lexed answers = (tokens, lexed, answers)
of_tokens text tokens r (Err (fail.Breach breach)) lexed answers = (tokens, lexed, answers)
of_tokens text tokens r (Err fail.Memory) lexed answers = tt

-- ---- no other body

pub kept_only : (text : Text) (tokens : List Token) (r : Routine) (body : Body) (answer : Result Body BodyFail)
    → ((other : Body) → SpellsBody text other tokens → other ≡ body) → Keeps r body answer
    → IfOk answer (λ kept. (other : Body) → SpellsBody text other tokens → other ≡ kept)
kept_only text tokens r body (Ok kept) only keeps = λ other spells. only other spells ∙ sym keeps.0
kept_only text tokens r body (Err fail) only keeps = tt

pub only_of_text : (text : Text) (items tokens : List Token) (answer : Result Body BodyFail)
    → tokens ≡ items → ((other : List Token) → Lexemes other text → other ≡ items)
    → IfOk answer (λ body. (other : Body) → SpellsBody text other tokens → other ≡ body)
    → IfOk answer (λ body. (other : Body) → IsTreeOf text other → other ≡ body)
only_of_text text items tokens (Ok body) is lexed only = λ other tree.
    only other (subst (λ (ts : List Token). SpellsBody text other ts) (lexed tree.0 tree.1 ∙ sym is) tree.2)
only_of_text text items tokens (Err fail) is lexed only = tt
