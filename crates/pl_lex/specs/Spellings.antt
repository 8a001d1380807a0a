-- How the values of tokens are spelled (PostgreSQL's manual, "Lexical Structure").
use Prim.Native.Char.{code}
use Rattle.std.specs.Prelude.{◌≡◌, ℕ, suc, zero, Bool, true, false, not, ◌&&◌, ◌||◌, ◌==◌, nat_le}
use Rattle.std.specs.Prelude.{◌+◌, ◌-◌, ◌*◌, List, [], ◌∷◌, ◌++◌, if◌then◌else◌, Option, Some, None}
use Rattle.std.specs.Prelude.{codes}
use Rattle.pl_lex.specs.Characters.{Text, quote, backslash, dollar}
use Rattle.pl_lex.specs.declared.sign.Sign.{Sign}
use Rattle.pl_lex.specs.declared.sign.Sign.TheVariants as sign

-- ---- numbers

-- the number that decimal digits spell behind one that was read
abbrev pub number_from : ℕ → Text → ℕ
number_from n [] = n
number_from n (b ∷ bs) = number_from (n * 10 + (b - code "0")) bs

-- the number that decimal digits spell
abbrev pub number : Text → ℕ
number digits = number_from 0 digits

-- ---- texts and names between quotes

-- a quote, the contents and the quote again
abbrev pub between : ℕ → Text → Text
between q contents = q ∷ (contents ++ q ∷ [])

-- each quote twice
abbrev pub doubled : ℕ → Text → Text
doubled q [] = []
doubled q (b ∷ bs) = if b == q then q ∷ q ∷ doubled q bs else b ∷ doubled q bs

-- ---- texts with backslashes

-- a part of the contents of such a text: a plain character, two quotes, or a backslash and a
-- character
pub data Part : Type 0 where
  plain : ℕ → Part
  quotes : Part
  escaped : ℕ → Part

-- a plain character is neither a quote nor a backslash
abbrev pub is_part : Part → Bool
is_part (Part.plain b) = not (b == quote || b == backslash)
is_part Part.quotes = true
is_part (Part.escaped b) = true

-- contents that are parts one after the other
abbrev pub are_parts : List Part → Bool
are_parts [] = true
are_parts (p ∷ ps) = is_part p && are_parts ps

-- how a part is spelled
abbrev pub spelled_part : Part → Text
spelled_part (Part.plain b) = b ∷ []
spelled_part Part.quotes = quote ∷ quote ∷ []
spelled_part (Part.escaped b) = backslash ∷ b ∷ []

-- how contents are spelled
abbrev pub spelled_parts : List Part → Text
spelled_parts [] = []
spelled_parts (p ∷ ps) = spelled_part p ++ spelled_parts ps

-- what a backslash and a character stand for
abbrev pub escape : ℕ → ℕ
escape b =
    if b == code "b" then 8
    else (if b == code "f" then 12
    else (if b == code "n" then code "\n"
    else (if b == code "r" then code "\r"
    else (if b == code "t" then code "\t"
    else b))))

-- the character that a part stands for
abbrev pub value_of_part : Part → ℕ
value_of_part (Part.plain b) = b
value_of_part Part.quotes = quote
value_of_part (Part.escaped b) = escape b

-- the digits 0 to 7, `x`, `u` and `U`: octal, hexadecimal and Unicode values
abbrev pub is_refused : ℕ → Bool
is_refused b =
    (nat_le (code "0") b && nat_le b (code "7")) || b == code "x" || b == code "u" || b == code "U"

-- some backslash stands before one of them
abbrev pub any_refused : List Part → Bool
any_refused [] = false
any_refused (Part.plain b ∷ ps) = any_refused ps
any_refused (Part.quotes ∷ ps) = any_refused ps
any_refused (Part.escaped b ∷ ps) = is_refused b || any_refused ps

-- ---- comments

-- `/*`
abbrev pub opens : ℕ → ℕ → Bool
opens b c = b == code "/" && c == code "*"

-- `*/`
abbrev pub closes : ℕ → ℕ → Bool
closes b c = b == code "*" && c == code "/"

-- How many of n open comments are open after the text. None where the last closes before its end.
abbrev pub depth : ℕ → Text → Option ℕ
depth n [] = Some n
depth zero (b ∷ bs) = None
depth (suc n) (b ∷ []) = Some (suc n)
depth (suc n) (b ∷ c ∷ bs) =
    if opens b c then depth (suc (suc n)) bs
    else (if closes b c then depth n bs
    else depth (suc n) (c ∷ bs))

-- ---- dollar texts

-- the mark `$tag$`
abbrev pub mark : Text → Text
mark tag = dollar ∷ (tag ++ dollar ∷ [])

-- the mark stands nowhere in the text
abbrev pub Lacks : Text → Text → Type 0
Lacks m text = (before after : Text) → text ≡ before ++ (m ++ after) → ⊥

-- the first mark in the text is the one at its end
abbrev pub EndsAtFirst : Text → Text → Type 0
EndsAtFirst m text = (before after : Text) → text ≡ before ++ (m ++ after) → after ≡ []

-- ---- signs

-- how a sign is spelled
abbrev pub spelled : Sign → Text
spelled sign.Open = codes "("
spelled sign.Close = codes ")"
spelled sign.Comma = codes ","
spelled sign.Semicolon = codes ";"
spelled sign.Dot = codes "."
spelled sign.DotDot = codes ".."
spelled sign.Colon = codes ":"
spelled sign.Assign = codes ":="
spelled sign.Cast = codes "::"
spelled sign.Arrow = codes "=>"
spelled sign.Equal = codes "="
spelled sign.NotEqual = codes "<>"
spelled sign.Less = codes "<"
spelled sign.Greater = codes ">"
spelled sign.LessOrEqual = codes "<="
spelled sign.GreaterOrEqual = codes ">="
spelled sign.OpenLabel = codes "<<"
spelled sign.CloseLabel = codes ">>"
spelled sign.Plus = codes "+"
spelled sign.Minus = codes "-"
spelled sign.Star = codes "*"
spelled sign.Slash = codes "/"
spelled sign.Percent = codes "%"
spelled sign.Concat = codes "||"
