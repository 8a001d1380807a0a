-- Two tokens ahead.
use Rattle.std.specs.Prelude.{Bool, true, false, if◌then◌else◌, ◌&&◌, List, [], ◌∷◌}
use Rattle.pl_grammar.specs.Marks.{Tokens, Mark, among, sees_two}

-- one of the first marks comes next, and one of the second behind it
unfoldable pub sees_pair : List Mark → List Mark → Tokens → Bool
sees_pair ms ns (t ∷ u ∷ ts) = among ms t && among ns u
sees_pair ms ns _ = false

-- ---- the same, pair by pair. These serve the parser alone.

abbrev pub sees_with : Mark → List Mark → Tokens → Bool
sees_with m [] ts = false
sees_with m (n ∷ ns) ts = if sees_two m n ts then true else sees_with m ns ts

abbrev pub sees_any : List Mark → List Mark → Tokens → Bool
sees_any [] ns ts = false
sees_any (m ∷ ms) ns ts = if sees_with m ns ts then true else sees_any ms ns ts
