-- What one lexeme more does to what the loops of `lex` and `cut` have gathered. Nobody has to
-- believe it.
use Rattle.std.specs.Prelude.{◌≡◌, ℕ, List, [], ◌++◌, Option, Some, None}
use Rattle.pl_lex.specs.declared.token.LexemeKind.{LexemeKind}
use Rattle.pl_lex.specs.declared.token.Token.{Token}
use Rattle.pl_lex.specs.declared.token.Bad.{Bad}
use Rattle.pl_lex.specs.declared.lexer.LexFail.{LexFail}
use Rattle.pl_lex.specs.declared.lexer.LexFail.TheVariants as fail
use Rattle.pl_lex.specs.Lexemes.{with_token, or_bad}

-- one lexeme more that isn't bad, with its token at the end if it is one
pub record Kept (what : LexemeKind) (start end : ℕ) (old new : List Token) : Type 0 where
  pub tokens : new ≡ old ++ with_token what start end []
  pub good : or_bad what start None ≡ None

-- the failure that a lexeme is
abbrev pub FailsBy : LexemeKind → ℕ → LexFail → Type 0
FailsBy what start (fail.Bad at state) =
    or_bad what start None ≡ Some (record { at = at; state = state })
FailsBy what start fail.Memory = Unit {0}

-- the first of two
abbrev pub or_else : Option Bad → Option Bad → Option Bad
or_else None other = other
or_else (Some bad) other = Some bad

-- one lexeme more of a command
pub record Gathered (what : LexemeKind) (start end : ℕ) (old : List Token) (old_bad : Option Bad)
    (new : List Token) (new_bad : Option Bad) : Type 0 where
  pub tokens : new ≡ old ++ with_token what start end []
  pub bad : new_bad ≡ or_else old_bad (or_bad what start None)
