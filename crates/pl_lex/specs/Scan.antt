-- The lexeme at the front of a text, computed from the left as the code does. Nobody has to believe
-- it: what counts is the relation `Row`, and `lex` and `cut` are stated by `Lexemes`.
use Rattle.std.specs.Prelude.{◌≤◌, ◌≡◌, ℕ, Bool, true, false, not, ◌&&◌, ◌||◌, ◌==◌, nat_le, ◌+◌}
use Rattle.std.specs.Prelude.{◌-◌, [], ◌∷◌, length, map, take, drop, slice_index, if◌then◌else◌}
use Rattle.std.specs.Prelude.{Option, Some, None, List}
use Rattle.std.specs.List.{prefix_len}
use Rattle.std.specs.Char.{is_ascii_digit, to_ascii_lowercase}
use Rattle.std.specs.Str.{bytes_eq}
use Rattle.pl_lex.specs.Characters.{Text, is_blank, begins_word, goes_on, is_of_tag, is_of_line}
use Rattle.pl_lex.specs.Keywords.{keyword_text}
use Rattle.pl_lex.specs.Spellings.{number, opens, closes, escape, is_refused}
use Rattle.pl_lex.specs.declared.keyword.Keyword.{Keyword}
use Rattle.pl_lex.specs.declared.keyword.Keyword.TheVariants as k
use Rattle.pl_lex.specs.declared.token.TokenKind.{TokenKind}
use Rattle.pl_lex.specs.declared.token.LexemeKind.{LexemeKind}
use Rattle.pl_lex.specs.declared.token.LexemeKind.TheVariants.{Read, Skipped, Bad}
use Rattle.pl_lex.specs.declared.escapes.Pending.{Pending}
use Rattle.pl_lex.specs.declared.escapes.Pending.TheVariants.{Nothing, Quote, Backslash}
use Rattle.pl_lex.specs.declared.scan.Shape.{Shape}
use Rattle.pl_lex.specs.declared.scan.Shape.TheVariants as shape
use Rattle.pl_lex.specs.declared.sign.Sign.{Sign}
use Rattle.pl_lex.specs.declared.sign.Sign.TheVariants as sign
use Rattle.pl_base.specs.States.{SYNTAX_ERROR, NAME_TOO_LONG, FEATURE_NOT_SUPPORTED}
use Rattle.pl_base.specs.States.{NUMERIC_VALUE_OUT_OF_RANGE}
use Rattle.pl_lex.specs.declared.token.TokenKind.TheVariants as kind

-- a shape, and a length in bytes
abbrev pub Found : Type 0
Found = Shape × ℕ

-- ---- quotes

-- The place after the closing quote, from a place on. `pending`: the byte before is a quote that
-- closes unless another follows.
abbrev pub close_quote : ℕ → Bool → ℕ → Text → Option ℕ
close_quote quote false at [] = None
close_quote quote true at [] = Some at
close_quote quote false at (b ∷ bs) = close_quote quote (b == quote) (at + 1) bs
close_quote quote true at (b ∷ bs) =
    if b == quote then close_quote quote false (at + 1) bs else Some at

-- without the second quote of each pair
abbrev pub undoubled : ℕ → Bool → Text → Text
undoubled quote second [] = []
undoubled quote true (b ∷ bs) = undoubled quote false bs
undoubled quote false (b ∷ bs) = b ∷ undoubled quote (b == quote) bs

-- the text between two ends of n bytes each
abbrev pub inner : ℕ → Text → Text
inner n front = take (length front - n - n) (drop n front)

-- a lexeme that ends at a place, or else is bad to the end of the text
abbrev pub ended : Shape → ℕ → Option ℕ → Found
ended s len None = (shape.Bad SYNTAX_ERROR, len)
ended s len (Some end) = (s, end)

-- a text between quotes
abbrev pub quoted_text : Text → Found
quoted_text t = ended shape.Text (length t) (close_quote 39 false 1 (drop 1 t))

-- a name between double quotes
abbrev pub quoted : Text → Found
quoted t = ended shape.Quoted (length t) (close_quote 34 false 1 (drop 1 t))

-- ---- texts with backslashes

-- `E` or `e`, and a quote
abbrev pub opens_escape_text : ℕ → ℕ → Bool
opens_escape_text b c = (b == 69 || b == 101) && c == 39

-- what a byte leaves open
abbrev pub opened_by : ℕ → Pending
opened_by b = if b == 39 then Quote else (if b == 92 then Backslash else Nothing)

-- the place after the closing quote, from a place on
abbrev pub close_escape_text : Pending → ℕ → Text → Option ℕ
close_escape_text Nothing at [] = None
close_escape_text Quote at [] = Some at
close_escape_text Backslash at [] = None
close_escape_text Nothing at (b ∷ bs) = close_escape_text (opened_by b) (at + 1) bs
close_escape_text Quote at (b ∷ bs) =
    if b == 39 then close_escape_text Nothing (at + 1) bs else Some at
close_escape_text Backslash at (b ∷ bs) = close_escape_text Nothing (at + 1) bs

-- a backslash stands before a character before which it is not read
abbrev pub has_refused : Pending → Text → Bool
has_refused state [] = false
has_refused Nothing (b ∷ bs) = has_refused (opened_by b) bs
has_refused Quote (b ∷ bs) = has_refused Nothing bs
has_refused Backslash (b ∷ bs) = is_refused b || has_refused Nothing bs

-- the text with one quote for each pair, and with what each backslash stands for
abbrev pub unescaped : Pending → Text → Text
unescaped state [] = []
unescaped Nothing (b ∷ bs) =
    if b == 92 then unescaped (opened_by b) bs else b ∷ unescaped (opened_by b) bs
unescaped Quote (b ∷ bs) = unescaped Nothing bs
unescaped Backslash (b ∷ bs) = escape b ∷ unescaped Nothing bs

-- an E-text
abbrev pub escape_text : Text → Found
escape_text t = ended shape.EscapeText (length t) (close_escape_text Nothing 2 (drop 2 t))

-- ---- comments

-- The place after the end of the last of n open comments. `skip`: the next byte is the second of a
-- pair.
abbrev pub close_comment : ℕ → Bool → ℕ → Text → Option ℕ
close_comment n skip at [] = None
close_comment n true at (b ∷ bs) = close_comment n false (at + 1) bs
close_comment n false at (b ∷ bs) =
    if opens b (slice_index bs 0) then close_comment (n + 1) true (at + 1) bs
    else (if closes b (slice_index bs 0)
    then (if nat_le n 1 then Some (at + 2) else close_comment (n - 1) true (at + 1) bs)
    else close_comment n false (at + 1) bs)

-- a comment between `/*` and `*/`
abbrev pub comment : Text → Found
comment t = ended shape.Skipped (length t) (close_comment 1 false 2 (drop 2 t))

-- ---- dollar texts and parameters

-- how long the tag at the front is
abbrev pub tag_len : Text → ℕ
tag_len t = if begins_word (slice_index t 0) then 1 + prefix_len is_of_tag (drop 1 t) else 0

-- the text begins with the mark
abbrev pub begins : Text → Text → Bool
begins [] text = true
begins (m ∷ ms) [] = false
begins (m ∷ ms) (b ∷ bs) = m == b && begins ms bs

-- where the mark first begins, from a place on
abbrev pub find_mark : Text → ℕ → Text → Option ℕ
find_mark m at [] = None
find_mark m at (b ∷ bs) = if begins m (b ∷ bs) then Some at else find_mark m (at + 1) bs

-- a dollar text whose second mark begins at a place, by the length of the mark
abbrev pub marked : ℕ → ℕ → Option ℕ → Found
marked n len None = (shape.Bad SYNTAX_ERROR, len)
marked n len (Some at) = (shape.DollarText n, at + n)

-- a parameter of this number
abbrev pub parameter_shape : ℕ → Shape
parameter_shape n =
    if nat_le 1 n && nat_le n 65535 then shape.Parameter n else shape.Bad SYNTAX_ERROR

-- a parameter, or a lone `$`
abbrev pub parameter : Text → Found
parameter t =
    let n = prefix_len is_ascii_digit (drop 1 t) in
    if n == 0 then (shape.Bad SYNTAX_ERROR, 1)
    else (parameter_shape (number (take n (drop 1 t))), n + 1)

-- a dollar text or a parameter, by the length of the tag
abbrev pub dollar_with : ℕ → Text → Found
dollar_with n t =
    if slice_index t (n + 1) == 36
    then marked (n + 2) (length t) (find_mark (take (n + 2) t) (n + 2) (drop (n + 2) t))
    else parameter t

-- what begins with `$`
abbrev pub dollar : Text → Found
dollar t = dollar_with (tag_len (drop 1 t)) t

-- ---- words and numbers

-- a word
abbrev pub word : Text → Found
word t = (shape.Word, prefix_len goes_on t)

-- a number, if it is not too great
abbrev pub number_shape : ℕ → Shape
number_shape n =
    if nat_le n 9223372036854775808 then shape.Number n else shape.Bad NUMERIC_VALUE_OUT_OF_RANGE

-- n digits, and what follows them
abbrev pub number_with : ℕ → Text → Text → Found
number_with n digits after =
    if goes_on (slice_index after 0) then (shape.Bad SYNTAX_ERROR, n + prefix_len goes_on after)
    else (if slice_index after 0 == 46 && not (slice_index after 1 == 46)
    then (shape.Bad FEATURE_NOT_SUPPORTED, n + 1 + prefix_len is_ascii_digit (drop 1 after))
    else (number_shape (number digits), n))

-- what begins with a digit
abbrev pub number_found : Text → Found
number_found t = let n = prefix_len is_ascii_digit t in number_with n (take n t) (drop n t)

-- ---- signs

-- the sign that two characters are, but for `!=`
abbrev pub pair : ℕ → ℕ → Option Sign
pair b c =
    if b == 46 && c == 46 then Some sign.DotDot
    else (if b == 58 && c == 61 then Some sign.Assign
    else (if b == 58 && c == 58 then Some sign.Cast
    else (if b == 61 && c == 62 then Some sign.Arrow
    else (if b == 60 && c == 62 then Some sign.NotEqual
    else (if b == 60 && c == 61 then Some sign.LessOrEqual
    else (if b == 62 && c == 61 then Some sign.GreaterOrEqual
    else (if b == 60 && c == 60 then Some sign.OpenLabel
    else (if b == 62 && c == 62 then Some sign.CloseLabel
    else (if b == 124 && c == 124 then Some sign.Concat
    else None)))))))))

-- the sign that a character is
abbrev pub single : ℕ → Option Sign
single b =
    if b == 40 then Some sign.Open
    else (if b == 41 then Some sign.Close
    else (if b == 44 then Some sign.Comma
    else (if b == 59 then Some sign.Semicolon
    else (if b == 46 then Some sign.Dot
    else (if b == 58 then Some sign.Colon
    else (if b == 61 then Some sign.Equal
    else (if b == 60 then Some sign.Less
    else (if b == 62 then Some sign.Greater
    else (if b == 43 then Some sign.Plus
    else (if b == 45 then Some sign.Minus
    else (if b == 42 then Some sign.Star
    else (if b == 47 then Some sign.Slash
    else (if b == 37 then Some sign.Percent
    else None)))))))))))))

-- a sign of one byte, or a stray character
abbrev pub one_byte : Option Sign → Found
one_byte None = (shape.Bad SYNTAX_ERROR, 1)
one_byte (Some s) = (shape.Sign s, 1)

-- a sign of two bytes, or else another lexeme
abbrev pub two_bytes : Option Sign → Found → Found
two_bytes None other = other
two_bytes (Some s) other = (shape.Sign s, 2)

-- the longer sign at the front
abbrev pub sign_found : ℕ → ℕ → Found
sign_found b c = two_bytes (pair b c) (one_byte (single b))

-- what begins with any other character
abbrev pub punctuation : ℕ → ℕ → Text → Found
punctuation b c t =
    if b == 45 && c == 45 then (shape.Skipped, 2 + prefix_len is_of_line (drop 2 t))
    else (if opens b c then comment t
    else (if b == 46 && is_ascii_digit c
    then (shape.Bad FEATURE_NOT_SUPPORTED, 1 + prefix_len is_ascii_digit (drop 1 t))
    else (if b == 33 && c == 61 then (shape.Sign sign.NotEqual, 2)
    else sign_found b c)))

-- ---- reserved words

-- every reserved word
abbrev pub all_keywords : List Keyword
all_keywords =
    k.All ∷ k.And ∷ k.As ∷ k.Asc ∷ k.Begin ∷ k.Between ∷ k.By ∷ k.Case ∷ k.Cast ∷ k.Check ∷
    k.Coalesce ∷ k.Constraint ∷ k.Create ∷ k.Cross ∷ k.Declare ∷ k.Default ∷ k.Delete ∷ k.Desc ∷
    k.Distinct ∷ k.Do ∷ k.Else ∷ k.End ∷ k.Execute ∷ k.Exists ∷ k.False ∷ k.For ∷ k.Foreign ∷
    k.From ∷ k.Greatest ∷ k.Group ∷ k.Having ∷ k.If ∷ k.In ∷ k.Inner ∷ k.Insert ∷ k.Into ∷ k.Is ∷
    k.Join ∷ k.Least ∷ k.Left ∷ k.Like ∷ k.Limit ∷ k.Loop ∷ k.Not ∷ k.Null ∷ k.Nullif ∷ k.Offset ∷
    k.On ∷ k.Or ∷ k.Order ∷ k.Primary ∷ k.References ∷ k.Returning ∷ k.Row ∷ k.Select ∷ k.Strict ∷
    k.Table ∷ k.Then ∷ k.To ∷ k.True ∷ k.Union ∷ k.Unique ∷ k.Update ∷ k.Using ∷ k.Values ∷ k.When ∷
    k.Where ∷ k.While ∷ k.With ∷ []

-- the reserved word that is spelled so, among some
abbrev pub keyword_among : List Keyword → Text → Option Keyword
keyword_among [] text = None
keyword_among (word ∷ words) text =
    if bytes_eq (keyword_text word) text then Some word else keyword_among words text

-- the reserved word that is spelled so
unfoldable pub keyword_of : Text → Option Keyword
keyword_of text = keyword_among all_keywords text

-- a word in lower case that is this keyword, or none
abbrev pub named : Text → Option Keyword → TokenKind
named text None = kind.Word text
named text (Some word) = kind.Keyword word

-- a word in lower case
abbrev pub kind_of_word : Text → TokenKind
kind_of_word text = named text (keyword_of text)

-- ---- the lexeme

-- the lexeme at the front, by its first character
unfoldable pub scan : Text → Found
scan t =
    let b = slice_index t 0 in
    if is_blank b then (shape.Skipped, 1)
    else (if opens_escape_text b (slice_index t 1) then escape_text t
    else (if begins_word b then word t
    else (if is_ascii_digit b then number_found t
    else (if b == 39 then quoted_text t
    else (if b == 34 then quoted t
    else (if b == 36 then dollar t
    else punctuation b (slice_index t 1) t))))))

-- a word by its spelling
abbrev pub word_meaning : Text → LexemeKind
word_meaning f =
    if nat_le (length f) 63 then Read (kind_of_word (map to_ascii_lowercase f))
    else Bad NAME_TOO_LONG

-- by the name itself
abbrev pub name_meaning : Text → LexemeKind
name_meaning name =
    if nat_le (length name) 63
    then (if length name == 0 then Bad SYNTAX_ERROR else Read (kind.Quoted name))
    else Bad NAME_TOO_LONG

-- a quoted name by what stands between its quotes
abbrev pub quoted_meaning : Text → LexemeKind
quoted_meaning contents = name_meaning (undoubled 34 false contents)

-- an E-text by what stands between its quotes
abbrev pub escape_meaning : Text → LexemeKind
escape_meaning contents =
    if has_refused Nothing contents then Bad FEATURE_NOT_SUPPORTED
    else Read (kind.EscapeText (unescaped Nothing contents))

-- what a lexeme of this shape is
abbrev pub meaning : Shape → Text → LexemeKind
meaning shape.Skipped f = Skipped
meaning shape.Word f = word_meaning f
meaning shape.Quoted f = quoted_meaning (inner 1 f)
meaning (shape.Number n) f = Read (kind.Number n)
meaning shape.Text f = Read (kind.Text (undoubled 39 false (inner 1 f)))
meaning shape.EscapeText f = escape_meaning (inner 1 (drop 1 f))
meaning (shape.DollarText n) f = Read (kind.DollarText (inner n f))
meaning (shape.Parameter n) f = Read (kind.Parameter n)
meaning (shape.Sign s) f = Read (kind.Sign s)
meaning (shape.Bad s) f = Bad s

-- a found lexeme ends within the text, and is not empty
abbrev pub IsFound : Found → Text → Type 0
IsFound f t = (1 ≤ f.1) × (f.1 ≤ length t)

-- the scan's lexeme, read
pub record IsRead (what : LexemeKind) (len : ℕ) (t : Text) : Type 0 where
  pub what_is : what ≡ meaning (scan t).0 (take len t)
  pub len_is : len ≡ (scan t).1
  pub some : 1 ≤ len
  pub within : len ≤ length t
