-- Tokens spell one command or none, and it is computed.
use Rattle.std.proofs.Common.{◌≡◌, cond, Bool, true, false, List, [], ◌∷◌, Option, Some, None, Result, Ok, Err, refl, sym, ◌∙◌, ap, subst, arith}
use Rattle.std.specs.Prelude.{◌↔◌, option_map}
use Rattle.pl_lex.specs.Characters.{Text}
use Rattle.pl_lex.specs.declared.token.Token.{Token}
use Rattle.pl_tree.specs.declared.command.Command.{Command}
use Rattle.pl_tree.specs.declared.command.Command.TheVariants as c
use Rattle.pl_tree.specs.declared.command.Definition.{Definition}
use Rattle.pl_grammar.specs.Marks.{Tokens, kinds}
use Rattle.pl_grammar.specs.declared.fail.Fail.{Fail}
use Rattle.pl_grammar.specs.declared.fail.Fail.TheVariants.{Syntax}
use Rattle.pl_grammar.specs.Parser.{Outcome, Makes, ReadsAll}
use Rattle.pl_grammar.specs.Rule.{SpelledBy}
use Rattle.pl_sql_parse.specs.Grammar.{Part, Tree, Command as ACommand, Definition as ADefinition, rule}
use Rattle.pl_sql_parse.specs.FirstFollow.{reads_part}
use Rattle.pl_sql_parse.specs.Computed.{all_read, command_in}
use Rattle.pl_sql_parse.specs.Spells.{SpellsCommand, NoneSpells, command, definition, begins_definition}
use Rattle.pl_lex.specs.Slices.{slice_of}
use Rattle.pl_sql_parse.proofs.Theorem.{read_spells, one_tree, unread, not_whole}
use Rattle.pl_sql_parse.proofs.Which.{a_definition, no_definition}

module _ (p : Part) (ts : Tokens) (x : Tree p) where
  read_so : all_read (reads_part p ts) ≡ Some x → SpelledBy rule p x ts
  read_so = by_outcome (reads_part p ts) refl
    where
      by_outcome : (o : Outcome (Tree p)) → reads_part p ts ≡ o → all_read o ≡ Some x → SpelledBy rule p x ts
      by_outcome None e h = absurd (cc)
      by_outcome (Some (a, [])) e h = let same : a ≡ x = cc in subst (λ (y : Tree p). SpelledBy rule p y ts) same (read_spells p ts [] a e refl)
      by_outcome (Some (a, t ∷ rest)) e h = absurd (cc)

  is_read : SpelledBy rule p x ts → all_read (reads_part p ts) ≡ Some x
  is_read spelled = by_outcome (reads_part p ts) refl
    where
      by_outcome : (o : Outcome (Tree p)) → reads_part p ts ≡ o → all_read o ≡ Some x
      by_outcome None e = absurd (unread p ts e x spelled)
      by_outcome (Some (a, [])) e = ap (λ (y : Tree p). let o : Option (Tree p) = Some y in o) (sym (one_tree p ts [] a x e spelled))
      by_outcome (Some (a, t ∷ rest)) e = absurd (not_whole p ts (t ∷ rest) a e (λ none. absurd (omega (arith, none))) x spelled)

module _ (text : Text) (ts : List Token) where
  abbrev as_definition : Option Definition → Option Command
  as_definition o = option_map (λ (x : Definition). c.Define x (slice_of text ts)) o

  abbrev by_begin : Bool → Option Command
  by_begin b = cond b (as_definition (all_read (reads_part ADefinition (kinds ts)))) (all_read (reads_part ACommand (kinds ts)))

  found : (x : Command) → by_begin (begins_definition (kinds ts)) ≡ Some x → SpellsCommand text x ts
  found x = by_test (begins_definition (kinds ts))
    where
      by_definition : (o : Option Definition) → all_read (reads_part ADefinition (kinds ts)) ≡ o → as_definition o ≡ Some x → SpellsCommand text x ts
      by_definition None e h = absurd (cc)
      by_definition (Some d) e h = let same : c.Define d (slice_of text ts) ≡ x = cc in subst (λ (y : Command). SpellsCommand text y ts) same (definition (read_so ADefinition (kinds ts) d e))

      by_test : (b : Bool) → by_begin b ≡ Some x → SpellsCommand text x ts
      by_test true h = by_definition (all_read (reads_part ADefinition (kinds ts))) refl h
      by_test false h = command (read_so ACommand (kinds ts) x h)

  computed : (x : Command) → SpellsCommand text x ts → by_begin (begins_definition (kinds ts)) ≡ Some x
  computed x spells = by_test (begins_definition (kinds ts)) refl
    where
      by_test : (b : Bool) → begins_definition (kinds ts) ≡ b → by_begin b ≡ Some x
      by_test true e =
          let d = a_definition text x ts e spells in
          ap (λ (o : Option Definition). as_definition o) (is_read ADefinition (kinds ts) d.tree d.spells) ∙ ap (λ (y : Command). let o : Option Command = Some y in o) (sym d.is)
      by_test false e = is_read ACommand (kinds ts) x (no_definition text x ts e spells)

pub one_command : (text : Text) (ts : List Token) (x : Command) → (command_in text ts ≡ Some x) ↔ SpellsCommand text x ts
unfolding command_in
one_command text ts x = (found text ts x, computed text ts x)

-- ---- what the parser makes of whole lists

module _ {A : Type 0} (o : Outcome A) where
  all_made : (r : Result A Fail) → ReadsAll o r → Makes (all_read o) r
  all_made (Ok a) is = ap all_read is
  all_made (Err e) none = λ syntax. unread_all o refl (none syntax)
    where
      unread_all : (o' : Outcome A) → o ≡ o' → ((a : A) → o ≡ Some (a, []) → ⊥) → all_read o' ≡ None
      unread_all None e none = refl
      unread_all (Some (a, [])) e none = absurd (none a e)
      unread_all (Some (a, t ∷ rest)) e none = refl

module _ (text : Text) (ts : List Token) where
  -- of what neither CREATE nor DROP begins
  pub command_made : begins_definition (kinds ts) ≡ false → (r : Result Command Fail) → ReadsAll (reads_part ACommand (kinds ts)) r → Makes (command_in text ts) r
  unfolding command_in
  command_made other r h = subst (λ (b : Bool). Makes (by_begin text ts b) r) (sym other) (all_made (reads_part ACommand (kinds ts)) r h)

  -- of what one of them begins
  pub definition_made : begins_definition (kinds ts) ≡ true → (d : Definition) (source : Text) → ReadsAll (reads_part ADefinition (kinds ts)) (Ok d) → source ≡ slice_of text ts → command_in text ts ≡ Some (c.Define d source)
  unfolding command_in
  definition_made one d source h is =
      ap (by_begin text ts) one ∙ ap (as_definition text ts) (all_made (reads_part ADefinition (kinds ts)) (Ok d) h) ∙ ap (λ (source : Text). let o : Option Command = Some (c.Define d source) in o) (sym is)

  pub no_definition_made : begins_definition (kinds ts) ≡ true → (e : Fail) → ReadsAll (reads_part ADefinition (kinds ts)) (Err e) → e ≡ Syntax → command_in text ts ≡ None
  unfolding command_in
  no_definition_made one e h syntax = ap (by_begin text ts) one ∙ ap (as_definition text ts) (all_made (reads_part ADefinition (kinds ts)) (Err e) h syntax)

  -- and what it says of the commands that tokens spell
  pub made_spells : (x : Command) → command_in text ts ≡ Some x → SpellsCommand text x ts
  made_spells x h = (one_command text ts x).0 h

  pub made_alone : (x other : Command) → command_in text ts ≡ Some x → SpellsCommand text other ts → other ≡ x
  made_alone x other h spells = let k = (one_command text ts other).1 spells in cc

  pub none_made : command_in text ts ≡ None → NoneSpells text ts
  none_made h x spells = let k = (one_command text ts x).1 spells in absurd (cc)
