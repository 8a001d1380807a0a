-- The first token tells whether a command is a definition.
use Rattle.std.proofs.Common.{◌≡◌, ◌∙◌, sym, refl, Bool, true, false, ◌||◌, if◌then◌else◌, List, [], ◌∷◌}
use Rattle.pl_lex.specs.Characters.{Text}
use Rattle.pl_lex.specs.declared.token.Token.{Token}
use Rattle.pl_lex.specs.declared.token.TokenKind.{TokenKind}
use Rattle.pl_grammar.specs.Marks.{Tokens, Mark, kinds, marked, same_keyword, same_sign, sees, among}
use Rattle.pl_grammar.specs.Rule.{SpelledBy}
use Rattle.pl_grammar.specs.Fit.{clear, Begun}
use Rattle.pl_grammar.proofs.Sets.{clear_off}
use Rattle.pl_tree.specs.declared.command.Command.{Command as CommandTree}
use Rattle.pl_tree.specs.declared.command.Command.TheVariants as c
use Rattle.pl_tree.specs.declared.command.Definition.{Definition as DefinitionTree}
use Rattle.pl_sql_parse.specs.Grammar.{Command, Definition, rule}
use Rattle.pl_sql_parse.specs.FirstFollow.{firsts}
use Rattle.pl_sql_parse.specs.Spells.{SpellsCommand, command, definition, begins_definition}
use Rattle.pl_lex.specs.Slices.{slice_of}
use Rattle.pl_sql_parse.specs.Words.{CREATE, DROP}
use Rattle.pl_sql_parse.proofs.Theorem.{begins_so}

abbrev defining : List Mark
defining = CREATE ∷ DROP ∷ []

either_same : (a b : Bool) → (if a then true else (if b then true else false)) ≡ (a || b)
either_same true b = refl
either_same false true = refl
either_same false false = refl

defines : (t : TokenKind) (ts : Tokens) → among defining t ≡ begins_definition (t ∷ ts)
unfolding sees
defines t ts = either_same (marked CREATE t) (marked DROP t)

definition_begins : (ts : Tokens) → Begun defining false ts → begins_definition ts ≡ true
definition_begins [] h = absurd (cc)
definition_begins (t ∷ ts) h = sym (defines t ts) ∙ h

apart : clear defining (firsts Command) ≡ true
unfolding same_keyword same_sign
apart = refl

command_begins : (ts : Tokens) → Begun (firsts Command) false ts → begins_definition ts ≡ true → ⊥
command_begins [] h k = absurd (cc)
command_begins (t ∷ ts) h k = let off = clear_off defining (firsts Command) t apart (defines t ts ∙ k) in absurd (cc)

-- what no CREATE and no DROP begins is no definition
pub no_definition : (text : Text) (x : CommandTree) (ts : List Token) → begins_definition (kinds ts) ≡ false → SpellsCommand text x ts → SpelledBy rule Command x (kinds ts)
no_definition text x ts none_begins (command d) = d
no_definition text x ts none_begins (definition {x = d} s) = let one_begins = definition_begins (kinds ts) (begins_so Definition (kinds ts) d s) in absurd (cc)

-- and what one of them begins is one
pub record Defines (text : Text) (x : CommandTree) (ts : List Token) : Type 0 where
  pub tree : DefinitionTree
  pub spells : SpelledBy rule Definition tree (kinds ts)
  pub is : x ≡ c.Define tree (slice_of text ts)

pub a_definition : (text : Text) (x : CommandTree) (ts : List Token) → begins_definition (kinds ts) ≡ true → SpellsCommand text x ts → Defines text x ts
a_definition text x ts one_begins (command d) = absurd (command_begins (kinds ts) (begins_so Command (kinds ts) x d) one_begins)
a_definition text x ts one_begins (definition {x = d} s) = record { tree = d; spells = s; is = refl }
