-- The text of tokens, from the first byte of the first to the last byte of the last, and these
-- tokens as that text by itself has them.
use Rattle.std.specs.Prelude.{ℕ, ◌-◌, List, [], ◌∷◌, map, take, drop}
use Rattle.pl_lex.specs.Characters.{Text}
use Rattle.pl_lex.specs.declared.token.Token.{Token}

-- the place behind the last of these tokens, or else this one
abbrev pub end_of : ℕ → List Token → ℕ
end_of at [] = at
end_of at (t ∷ ts) = end_of t.end ts

-- the text from the first byte of the first token to the last byte of the last
abbrev pub slice_of : Text → List Token → Text
slice_of text [] = []
slice_of text (t ∷ ts) = take (end_of t.end ts - t.start) (drop t.start text)

-- the token in the text without its first bytes
abbrev pub moved : ℕ → Token → Token
moved bytes t = record { kind = t.kind; start = t.start - bytes; end = t.end - bytes }

-- the tokens in their own text
abbrev pub by_themselves : List Token → List Token
by_themselves [] = []
by_themselves (t ∷ ts) = map (moved t.start) (t ∷ ts)
