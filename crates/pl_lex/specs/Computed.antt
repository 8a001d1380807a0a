-- The lexemes of a text, computed from the left. What has to be believed is the relation `Stand`,
-- on which `Lexemes` rests: the law `one_reading` says that these lexemes stand in the text, and no
-- others.
use Rattle.std.specs.Prelude.{ℕ, zero, suc, ◌+◌, ◌-◌, List, [], ◌∷◌, take}
use Rattle.pl_lex.specs.Characters.{Text}
use Rattle.pl_lex.specs.Lexemes.{Lexeme}
use Rattle.pl_lex.specs.Scan.{scan, meaning}

-- the lexeme at the front of a text that begins at a place
abbrev pub first : ℕ → Text → Lexeme
first at t = record {
  what = meaning (scan t).0 (take (scan t).1 t);
  start = at;
  end = at + (scan t).1;
}

-- the lexemes behind one of which so many bytes are left
unfoldable pub lexemes_from : ℕ → ℕ → Text → List Lexeme
lexemes_from left at [] = []
lexemes_from (suc left) at (b ∷ bs) = lexemes_from left (at + 1) bs
lexemes_from zero at (b ∷ bs) = first at (b ∷ bs) ∷ lexemes_from ((scan (b ∷ bs)).1 - 1) (at + 1) bs

-- the lexemes of a text that begins at a place
unfoldable pub lexemes : ℕ → Text → List Lexeme
lexemes at t = lexemes_from 0 at t
