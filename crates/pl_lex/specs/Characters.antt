-- The characters that the lexical rules name, and their classes (PostgreSQL's manual, "Lexical
-- Structure"). A character past ASCII is a word's character, and so is each of its bytes in UTF-8.
use Prim.Native.Char.{code}
use Rattle.std.specs.Prelude.{ℕ, Bool, not, ◌&&◌, ◌||◌, ◌==◌, nat_le, List, [], ◌∷◌, true, false}
use Rattle.std.specs.Char.{is_ascii_digit, is_ascii_alphabetic}

-- a text as its bytes in UTF-8
abbrev pub Text : Type 0
Text = List ℕ

-- the quote of texts
abbrev pub quote : ℕ
quote = code "'"

-- the quote of names
abbrev pub name_quote : ℕ
name_quote = code "\""

-- `$`, of dollar texts and parameters
abbrev pub dollar : ℕ
dollar = code "$"

-- `.`
abbrev pub point : ℕ
point = code "."

-- `\`
abbrev pub backslash : ℕ
backslash = code "\\"

-- a blank: space, tab, newline, carriage return, form feed
abbrev pub is_blank : ℕ → Bool
is_blank b = b == code " " || b == code "\t" || b == code "\n" || b == code "\r" || b == 12

-- what begins a word: an ASCII letter, `_`, or past ASCII
abbrev pub begins_word : ℕ → Bool
begins_word b = is_ascii_alphabetic b || b == code "_" || nat_le 128 b

-- what a word goes on with: these, digits and `$`
abbrev pub goes_on : ℕ → Bool
goes_on b = begins_word b || is_ascii_digit b || b == dollar

-- what a tag goes on with: a tag has no `$`
abbrev pub is_of_tag : ℕ → Bool
is_of_tag b = begins_word b || is_ascii_digit b

-- what a line goes on with: it ends at a newline or a carriage return
abbrev pub is_of_line : ℕ → Bool
is_of_line b = not (b == code "\n" || b == code "\r")

-- each character of the text is of the class
abbrev pub every : (ℕ → Bool) → Text → Bool
every p [] = true
every p (b ∷ bs) = p b && every p bs

-- a word's spelling
abbrev pub is_word : Text → Bool
is_word [] = false
is_word (b ∷ bs) = begins_word b && every goes_on bs

-- what spoils digits directly before it: the rest of a word, from a character that is no digit on
abbrev pub is_spoiler : Text → Bool
is_spoiler [] = false
is_spoiler (b ∷ bs) = (goes_on b && not (is_ascii_digit b)) && every goes_on bs

-- a tag is empty or a word's spelling without `$`
abbrev pub is_tag : Text → Bool
is_tag [] = true
is_tag (b ∷ bs) = begins_word b && every is_of_tag bs

-- one digit or more
abbrev pub are_digits : Text → Bool
are_digits [] = false
are_digits (b ∷ bs) = every is_ascii_digit (b ∷ bs)
