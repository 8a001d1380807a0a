-- What stands at the front of a text: one row for each kind of lexeme (PostgreSQL's manual,
-- "Lexical Structure").
use Prim.Native.Char.{code}
use Rattle.std.specs.Prelude.{◌≡◌, ℕ, suc, ◌<◌, ◌≤◌, true, false, List, [], ◌∷◌, ◌++◌, length, map}
use Rattle.std.specs.Prelude.{Some, ◌⊎◌, ◌||◌, ◌==◌, codes}
use Rattle.std.specs.Char.{to_ascii_lowercase, is_ascii_digit}
use Rattle.pl_lex.specs.Characters.{Text, quote, name_quote, dollar, point, backslash, is_blank}
use Rattle.pl_lex.specs.Characters.{begins_word, is_word, is_spoiler, is_tag, are_digits, every}
use Rattle.pl_lex.specs.Characters.{is_of_line}
use Rattle.pl_lex.specs.Keywords.{keyword_text}
use Rattle.pl_lex.specs.Spellings.{between, doubled, number, depth, mark, Lacks, EndsAtFirst}
use Rattle.pl_lex.specs.Spellings.{spelled, Part, are_parts, spelled_parts, value_of_part}
use Rattle.pl_lex.specs.Spellings.{any_refused}
use Rattle.pl_lex.specs.declared.keyword.Keyword.{Keyword}
use Rattle.pl_lex.specs.declared.sign.Sign.{Sign}
use Rattle.pl_lex.specs.declared.sign.Sign.TheVariants.{NotEqual}
use Rattle.pl_base.specs.States.{SYNTAX_ERROR, NAME_TOO_LONG, FEATURE_NOT_SUPPORTED}
use Rattle.pl_base.specs.States.{NUMERIC_VALUE_OUT_OF_RANGE}
use Rattle.pl_lex.specs.declared.token.LexemeKind.{LexemeKind}
use Rattle.pl_lex.specs.declared.token.LexemeKind.TheVariants.{Read, Skipped, Bad}
use Rattle.pl_lex.specs.declared.token.TokenKind.TheVariants as kind

-- `E` or `e`
abbrev pub IsE : ℕ → Type 0
IsE b = (b == code "E" || b == code "e") ≡ true

-- a character that is by itself no blank and no sign, and begins no word, number, quoted name or
-- text
abbrev pub IsStray : ℕ → Type 0
IsStray b =
    ((is_blank b || begins_word b || is_ascii_digit b || b == name_quote || b == quote) ≡ false)
    × ((s : Sign) → spelled s ≡ b ∷ [] → ⊥)

-- The front of a text is one lexeme, where rest is what follows it. Which of several rows counts is
-- said by `Longest`.
pub data Row (what : LexemeKind) (front rest : Text) : Type 0 where
  -- one blank
  blank : (b : ℕ) → is_blank b ≡ true
      → front ≡ b ∷ []
      → what ≡ Skipped → Row what front rest
  -- a comment from `--` to the end of the line at most
  line_comment : (line : Text) → every is_of_line line ≡ true
      → front ≡ codes "--" ++ line
      → what ≡ Skipped → Row what front rest
  -- a comment from `/*` to the `*/` that closes it, with whole comments inside
  comment : (inner : Text) → depth 1 inner ≡ Some 0
      → front ≡ codes "/*" ++ inner
      → what ≡ Skipped → Row what front rest
  -- a word that is reserved, in any case
  keyword : (word : Keyword) → is_word front ≡ true → length front ≤ 63
      → map to_ascii_lowercase front ≡ keyword_text word
      → what ≡ Read (kind.Keyword word) → Row what front rest
  -- another word, read in lower case
  word : is_word front ≡ true → length front ≤ 63
      → ((word : Keyword) → map to_ascii_lowercase front ≡ keyword_text word → ⊥)
      → what ≡ Read (kind.Word (map to_ascii_lowercase front)) → Row what front rest
  -- a name between double quotes, each double quote in it written twice
  quoted_name : (name : Text) → 0 < length name → length name ≤ 63
      → front ≡ between name_quote (doubled name_quote name)
      → what ≡ Read (kind.Quoted name) → Row what front rest
  -- a number
  number_token : are_digits front ≡ true → number front ≤ 9223372036854775808
      → what ≡ Read (kind.Number (number front)) → Row what front rest
  -- a text between quotes, each quote in it written twice
  text_token : (text : Text)
      → front ≡ between quote (doubled quote text)
      → what ≡ Read (kind.Text text) → Row what front rest
  -- an E-text
  escape_text : (e : ℕ) (parts : List Part) → IsE e → are_parts parts ≡ true
      → any_refused parts ≡ false
      → front ≡ e ∷ between quote (spelled_parts parts)
      → what ≡ Read (kind.EscapeText (map value_of_part parts)) → Row what front rest
  -- a text between a mark and the first same mark behind it
  dollar_text : (tag text : Text) → is_tag tag ≡ true → EndsAtFirst (mark tag) (text ++ mark tag)
      → front ≡ mark tag ++ (text ++ mark tag)
      → what ≡ Read (kind.DollarText text) → Row what front rest
  -- a parameter
  parameter : (digits : Text) → are_digits digits ≡ true → 1 ≤ number digits → number digits ≤ 65535
      → front ≡ dollar ∷ digits
      → what ≡ Read (kind.Parameter (number digits)) → Row what front rest
  -- a sign
  sign_token : (s : Sign)
      → front ≡ spelled s
      → what ≡ Read (kind.Sign s) → Row what front rest
  -- the other spelling of `<>`
  other_not_equal : front ≡ codes "!="
      → what ≡ Read (kind.Sign NotEqual) → Row what front rest
  -- bad: a text without an end, to the end of the script
  endless_text : (text : Text)
      → front ≡ quote ∷ doubled quote text → rest ≡ []
      → what ≡ Bad SYNTAX_ERROR → Row what front rest
  -- bad: a quoted name without an end, to the end of the script
  endless_name : (name : Text)
      → front ≡ name_quote ∷ doubled name_quote name → rest ≡ []
      → what ≡ Bad SYNTAX_ERROR → Row what front rest
  -- bad: an E-text without an end, to the end of the script; its last backslash may have nothing
  -- behind it
  endless_escape_text : (e : ℕ) (parts : List Part) (last : Text) → IsE e → are_parts parts ≡ true
      → (last ≡ []) ⊎ (last ≡ backslash ∷ [])
      → front ≡ e ∷ quote ∷ (spelled_parts parts ++ last) → rest ≡ []
      → what ≡ Bad SYNTAX_ERROR → Row what front rest
  -- bad: a dollar text without an end, to the end of the script
  endless_dollar : (tag text : Text) → is_tag tag ≡ true → Lacks (mark tag) text
      → front ≡ mark tag ++ text → rest ≡ []
      → what ≡ Bad SYNTAX_ERROR → Row what front rest
  -- bad: a comment without an end, to the end of the script, with one comment or more left open
  endless_comment : (inner : Text) (n : ℕ) → depth 1 inner ≡ Some (suc n)
      → front ≡ codes "/*" ++ inner → rest ≡ []
      → what ≡ Bad SYNTAX_ERROR → Row what front rest
  -- bad: a word of more than 63 bytes
  long_word : is_word front ≡ true → 63 < length front
      → what ≡ Bad NAME_TOO_LONG → Row what front rest
  -- bad: a quoted name of more than 63 bytes
  long_name : (name : Text) → 63 < length name
      → front ≡ between name_quote (doubled name_quote name)
      → what ≡ Bad NAME_TOO_LONG → Row what front rest
  -- bad: an empty quoted name
  empty_name : front ≡ name_quote ∷ name_quote ∷ []
      → what ≡ Bad SYNTAX_ERROR → Row what front rest
  -- bad: an E-text with a backslash that is not read
  refused_escape : (e : ℕ) (parts : List Part) → IsE e → are_parts parts ≡ true
      → any_refused parts ≡ true
      → front ≡ e ∷ between quote (spelled_parts parts)
      → what ≡ Bad FEATURE_NOT_SUPPORTED → Row what front rest
  -- bad: digits with the rest of a word directly behind them
  spoiled_number : (digits spoiler : Text) → are_digits digits ≡ true → is_spoiler spoiler ≡ true
      → front ≡ digits ++ spoiler
      → what ≡ Bad SYNTAX_ERROR → Row what front rest
  -- bad: digits and a point with no second point behind it, and the digits behind the point
  point_number : (digits more : Text) → are_digits digits ≡ true → every is_ascii_digit more ≡ true
      → ((after : Text) → more ++ rest ≡ point ∷ after → ⊥)
      → front ≡ digits ++ point ∷ more
      → what ≡ Bad FEATURE_NOT_SUPPORTED → Row what front rest
  -- bad: a point and digits
  point_first : (digits : Text) → are_digits digits ≡ true
      → front ≡ point ∷ digits
      → what ≡ Bad FEATURE_NOT_SUPPORTED → Row what front rest
  -- bad: a number that is too great
  great_number : are_digits front ≡ true → 9223372036854775808 < number front
      → what ≡ Bad NUMERIC_VALUE_OUT_OF_RANGE → Row what front rest
  -- bad: a parameter out of its range
  bad_parameter : (digits : Text) → are_digits digits ≡ true
      → (number digits ≡ 0) ⊎ (65535 < number digits)
      → front ≡ dollar ∷ digits
      → what ≡ Bad SYNTAX_ERROR → Row what front rest
  -- bad: a character that begins no token
  stray : (b : ℕ) → IsStray b
      → front ≡ b ∷ []
      → what ≡ Bad SYNTAX_ERROR → Row what front rest
