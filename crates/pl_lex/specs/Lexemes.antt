-- A whole text as its lexemes, its tokens, its first bad lexeme and its commands.
use Rattle.std.specs.Prelude.{◌≡◌, ℕ, ◌+◌, ◌<◌, ◌≤◌, Bool, true, false, ◌&&◌, List, [], ◌∷◌, ◌++◌}
use Rattle.std.specs.Prelude.{length, drop, min, if◌then◌else◌, Option, Some, None, Result, Ok, Err}
use Rattle.std.specs.Prelude.{IfOk}
use Rattle.pl_lex.specs.Characters.{Text}
use Rattle.pl_lex.specs.Rows.{Row}
use Rattle.pl_lex.specs.declared.token.LexemeKind.{LexemeKind}
use Rattle.pl_lex.specs.declared.token.LexemeKind.TheVariants as what
use Rattle.pl_lex.specs.declared.token.Token.{Token}
use Rattle.pl_lex.specs.declared.token.TokenKind.TheVariants as kind
use Rattle.pl_lex.specs.declared.sign.Sign.TheVariants as sign
use Rattle.pl_base.specs.declared.state.State.{State}
use Rattle.pl_lex.specs.declared.token.Bad.{Bad}
use Rattle.pl_lex.specs.declared.lexer.LexFail.{LexFail}
use Rattle.pl_lex.specs.declared.lexer.LexFail.TheVariants as fail
use Rattle.pl_lex.specs.declared.token.Piece.{Piece}

-- ---- lexemes

-- a row that stands at the front of a text, where none that stands there is longer
pub record Longest (what : LexemeKind) (front rest : Text) : Type 0 where
  pub stands : Row what front rest
  pub longest : (other : LexemeKind) (longer after : Text) → longer ++ after ≡ front ++ rest
      → Row other longer after → length longer ≤ length front

-- a lexeme, with the place of its first byte and of the byte behind its last
pub record Lexeme : Type 0 where
  pub what : LexemeKind
  pub start : ℕ
  pub end : ℕ

-- the text, which begins at a place, is these lexemes one after the other, each the longest that
-- stands there
abbrev pub Stand : ℕ → List Lexeme → Text → Type 0
Stand at [] text = text ≡ []
Stand at (x ∷ xs) text =
    (front : Text) × (rest : Text) × (text ≡ front ++ rest) × (x.start ≡ at)
    × (x.end ≡ at + length front) × Longest x.what front rest × Stand x.end xs rest

-- ---- tokens

-- the tokens behind a lexeme, with its own before them if it is one
abbrev pub with_token : LexemeKind → ℕ → ℕ → List Token → List Token
with_token (what.Read k) start end ts = record { kind = k; start = start; end = end } ∷ ts
with_token what.Skipped start end ts = ts
with_token (what.Bad s) start end ts = ts

-- the tokens among lexemes
abbrev pub tokens_of : List Lexeme → List Token
tokens_of [] = []
tokens_of (x ∷ xs) = with_token x.what x.start x.end (tokens_of xs)

-- a lexeme that is bad, or else another
abbrev pub or_bad : LexemeKind → ℕ → Option Bad → Option Bad
or_bad (what.Bad s) start other = Some (record { at = start; state = s })
or_bad (what.Read k) start other = other
or_bad what.Skipped start other = other

-- the first bad one among lexemes
abbrev pub first_bad : List Lexeme → Option Bad
first_bad [] = None
first_bad (x ∷ xs) = or_bad x.what x.start (first_bad xs)

-- the text is these tokens, with blanks and comments between them, and nothing in it is bad
abbrev pub Lexemes : List Token → Text → Type 0
Lexemes tokens text =
    (all : List Lexeme) × Stand 0 all text × (first_bad all ≡ None) × (tokens_of all ≡ tokens)

-- the first bad lexeme of the text
abbrev pub IsBad : ℕ → State → Text → Type 0
IsBad at state text =
    (all : List Lexeme) × Stand 0 all text
    × (first_bad all ≡ Some (record { at = at; state = state }))

-- what a failure of `lex` says of the text
abbrev pub IsFailure : LexFail → Text → Type 0
IsFailure (fail.Bad at state) text = IsBad at state text
IsFailure fail.Memory text = Unit {0}

-- ---- commands

-- a `;`
abbrev pub is_semicolon : LexemeKind → Bool
is_semicolon (what.Read (kind.Sign sign.Semicolon)) = true
is_semicolon _ = false

-- a blank or a comment
abbrev pub is_skipped : LexemeKind → Bool
is_skipped what.Skipped = true
is_skipped (what.Read k) = false
is_skipped (what.Bad s) = false

-- nothing but blanks and comments
abbrev pub all_skipped : List Lexeme → Bool
all_skipped [] = true
all_skipped (x ∷ xs) = is_skipped x.what && all_skipped xs

-- the tokens, or the first bad lexeme
abbrev pub outcome_by : Option Bad → List Token → Result (List Token) Bad
outcome_by None tokens = Ok tokens
outcome_by (Some bad) tokens = Err bad

-- a command by its tokens, its first bad lexeme and its places
abbrev pub piece : List Token → Option Bad → ℕ → ℕ → Piece
piece tokens bad start end = record { tokens = outcome_by bad tokens; start = start; end = end }

-- the command of these lexemes
abbrev pub piece_of : List Lexeme → ℕ → ℕ → Piece
piece_of all start end = piece (tokens_of all) (first_bad all) start end

-- The commands of lexemes, which begin at a place: one up to each `;`, and one more where more than
-- blanks and comments follow the last `;`, up to the end. `before` are the lexemes of the first
-- command that were passed.
abbrev pub pieces_from : ℕ → ℕ → List Lexeme → List Lexeme → List Piece
pieces_from end from before [] = if all_skipped before then [] else piece_of before from end ∷ []
pieces_from end from before (x ∷ xs) =
    if is_semicolon x.what then piece_of before from x.start ∷ pieces_from end x.end [] xs
    else pieces_from end from (before ++ x ∷ []) xs

-- the commands of a text
abbrev pub Commands : List Piece → Text → Type 0
Commands pieces text =
    (all : List Lexeme) × Stand 0 all text × (pieces_from (length text) 0 [] all ≡ pieces)

-- ---- where tokens stand

-- the token is what is read of the text from its start to its end
pub record IsSpelled (text : Text) (token : Token) : Type 0 where
  pub front : Text
  pub rest : Text
  pub is : drop token.start text ≡ front ++ rest
  pub ends : token.end ≡ token.start + length front
  pub read : Longest (what.Read token.kind) front rest

-- the tokens stand in the text in order, between two places, each spelled from its start to its end
abbrev pub StandIn : Text → ℕ → ℕ → List Token → Type 0
StandIn text from end [] = from ≤ end
StandIn text from end (t ∷ ts) =
    (from ≤ t.start) × (t.start < t.end) × IsSpelled text t × StandIn text t.end end ts

-- the command was looked for at a place, and stands in the text from there to its end with its
-- tokens
pub record IsPlaced (text : Text) (from : ℕ) (p : Piece) : Type 0 where
  pub start : p.start ≡ from
  pub begins : from ≤ p.end
  pub ends : p.end ≤ length text
  pub tokens : IfOk p.tokens (λ tokens. StandIn text from p.end tokens)

-- ---- one command after the other

-- the lexemes before the first `;`
abbrev pub before_semicolon : List Lexeme → List Lexeme
before_semicolon [] = []
before_semicolon (x ∷ xs) = if is_semicolon x.what then [] else x ∷ before_semicolon xs

-- the place of the first `;`, or else the end of the text
abbrev pub command_end : ℕ → List Lexeme → ℕ
command_end end [] = end
command_end end (x ∷ xs) = if is_semicolon x.what then x.start else command_end end xs

-- the command at the front of lexemes, if they are more than blanks and comments
abbrev pub next_command : ℕ → ℕ → List Lexeme → Option Piece
next_command from end all =
    if all_skipped all then None
    else Some (piece_of (before_semicolon all) from (command_end end all))

-- the command that begins at a place of a text
abbrev pub IsNext : Text → ℕ → Option Piece → Type 0
IsNext text from next =
    (all : List Lexeme) × Stand from all (drop from text)
    × (next_command from (length text) all ≡ next)

-- Cutting gives these commands from a place on: each is the next one there, and the one after it is
-- looked for behind its `;`, or at the end of the text.
abbrev pub Cuts : Text → ℕ → List Piece → Type 0
Cuts text from [] = IsNext text from None
Cuts text from (p ∷ ps) = IsNext text from (Some p) × Cuts text (min (p.end + 1) (length text)) ps
