-- What a grammar asks of a token.
use Rattle.std.specs.Prelude.{map, drop, ℕ, ◌==◌, Bool, true, false, not, ◌&&◌, ◌||◌, codes, if◌then◌else◌, List, [], ◌∷◌, Option, Some, None}
use denote.Enum.Bare.{sameb}
use Rattle.pl_lex.specs.contracts.keyword.Keyword.{the_type as keyword_type}
use Rattle.pl_lex.specs.contracts.sign.Sign.{the_type as sign_type}
use Rattle.pl_lex.specs.declared.keyword.Keyword.{Keyword}
use Rattle.pl_lex.specs.declared.sign.Sign.{Sign}
use Rattle.pl_lex.specs.Keywords.{keyword_text}
use Rattle.pl_lex.specs.declared.token.Token.{Token}
use Rattle.pl_lex.specs.declared.token.TokenKind.{TokenKind}
use Rattle.pl_lex.specs.declared.token.TokenKind.TheVariants as kind
use Rattle.pl_grammar.specs.declared.marks.Mark.{Mark as Asked}
use Rattle.pl_grammar.specs.declared.marks.Mark.TheVariants as asked

-- a parser sees the kinds of tokens
abbrev pub Tokens : Type 0
Tokens = List TokenKind

abbrev pub kinds : List Token → Tokens
kinds ts = map (λ (t : Token). t.kind) ts

unfoldable pub same_keyword : Keyword → Keyword → Bool
same_keyword = sameb keyword_type

unfoldable pub same_sign : Sign → Sign → Bool
same_sign = sameb sign_type

abbrev pub same_text : List ℕ → List ℕ → Bool
same_text [] [] = true
same_text [] (y ∷ ys) = false
same_text (x ∷ xs) [] = false
same_text (x ∷ xs) (y ∷ ys) = x == y && same_text xs ys

pub data Mark : Type 0 where
  keyword : Keyword → Mark
  sign : Sign → Mark
  -- a word that isn't reserved, in lower case
  word : List ℕ → Mark
  -- any name, number, text or parameter
  name : Mark
  number : Mark
  text : Mark
  parameter : Mark
  -- a name, or a reserved word in its place
  label : Mark

-- what a mark of the code asks for
abbrev pub meant : Asked → Mark
meant (asked.Keyword k) = keyword k
meant (asked.Sign s) = sign s
meant (asked.Word w) = word w.now
meant asked.Name = name
meant asked.Number = number
meant asked.Text = text
meant asked.Parameter = parameter
meant asked.Label = label

-- the token is what the mark asks for
abbrev pub marked : Mark → TokenKind → Bool
marked (keyword k) (kind.Keyword l) = same_keyword l k
marked (sign s) (kind.Sign t) = same_sign t s
marked (word w) (kind.Word n) = same_text n w
marked name (kind.Word n) = true
marked name (kind.Quoted n) = true
marked number (kind.Number n) = true
marked text (kind.Text t) = true
marked text (kind.EscapeText t) = true
marked text (kind.DollarText t) = true
marked parameter (kind.Parameter n) = true
marked label (kind.Word n) = true
marked label (kind.Quoted n) = true
marked label (kind.Keyword k) = true
marked _ _ = false

-- ---- tokens that carry a value

pub data Sort : Type 0 where
  a_name : Sort
  a_number : Sort
  a_text : Sort
  a_parameter : Sort
  a_label : Sort
  -- a name, and whether it stands in quotes
  a_written_name : Sort
  -- a name that may be a table's
  a_table_name : Sort
  -- a name that may be an alias or a label without AS
  a_bare_alias : Sort

abbrev pub Carried : Sort → Type 0
Carried a_name = List ℕ
Carried a_number = ℕ
Carried a_text = List ℕ
Carried a_parameter = ℕ
Carried a_label = List ℕ
Carried a_written_name = Bool × List ℕ
Carried a_table_name = List ℕ
Carried a_bare_alias = List ℕ

abbrev pub mark_of : Sort → Mark
mark_of a_name = name
mark_of a_number = number
mark_of a_text = text
mark_of a_parameter = parameter
mark_of a_label = label
mark_of a_written_name = name
mark_of a_table_name = name
mark_of a_bare_alias = name

-- ONLY without quotes names no table
abbrev pub names_table : List ℕ → Bool
names_table n = not (same_text n (codes "only"))

-- these words without quotes are no alias and no label unless AS stands before them
abbrev pub is_bare_alias : List ℕ → Bool
is_bare_alias n =
    not (same_text n (codes "right") || same_text n (codes "full") || same_text n (codes "natural")
    || same_text n (codes "isnull") || same_text n (codes "notnull"))

-- what the token carries, if it is of the sort
abbrev pub carried : (s : Sort) → TokenKind → Option (Carried s)
carried a_name (kind.Word n) = Some n
carried a_name (kind.Quoted n) = Some n
carried a_number (kind.Number n) = Some n
carried a_text (kind.Text t) = Some t
carried a_text (kind.EscapeText t) = Some t
carried a_text (kind.DollarText t) = Some t
carried a_parameter (kind.Parameter n) = Some n
carried a_label (kind.Word n) = Some n
carried a_label (kind.Quoted n) = Some n
carried a_label (kind.Keyword k) = Some (keyword_text k)
carried a_written_name (kind.Word n) = Some (false, n)
carried a_written_name (kind.Quoted n) = Some (true, n)
carried a_table_name (kind.Word n) = if names_table n then Some n else None
carried a_table_name (kind.Quoted n) = Some n
carried a_bare_alias (kind.Word n) = if is_bare_alias n then Some n else None
carried a_bare_alias (kind.Quoted n) = Some n
carried _ _ = None

-- ---- what comes next

-- the token that comes next is the mark
unfoldable pub sees : Mark → Tokens → Bool
sees m [] = false
sees m (t ∷ ts) = marked m t

-- the tokens behind the mark, if it comes next
unfoldable pub after : Mark → Tokens → Tokens
after m ts = if sees m ts then drop 1 ts else ts

-- these marks come next
unfoldable pub sees_two : Mark → Mark → Tokens → Bool
sees_two m n (s ∷ t ∷ ts) = marked m s && marked n t
sees_two m n _ = false

unfoldable pub sees_three : Mark → Mark → Mark → Tokens → Bool
sees_three m n o (s ∷ t ∷ u ∷ ts) = marked m s && marked n t && marked o u
sees_three m n o _ = false

-- a word comes next, reserved or not
unfoldable pub sees_any_word : Tokens → Bool
sees_any_word (kind.Word n ∷ ts) = true
sees_any_word (kind.Keyword n ∷ ts) = true
sees_any_word _ = false

-- one of the marks comes next
abbrev pub among : List Mark → TokenKind → Bool
among [] t = false
among (m ∷ ms) t = if marked m t then true else among ms t

unfoldable pub begins : List Mark → Tokens → Bool
begins ms [] = false
begins ms (t ∷ ts) = among ms t

-- which mark joins, and what it stands for
abbrev pub joined_by : {O : Type 0} → List (Mark × O) → TokenKind → Option O
joined_by [] t = None
joined_by (e ∷ es) t = if marked e.0 t then Some e.1 else joined_by es t
