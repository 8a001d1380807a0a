-- Rules that neither look ahead nor stand on another grammar.
use Rattle.std.proofs.Common.{◌≡◌, Bool, true, false, ◌&&◌, refl}
use Rattle.pl_grammar.specs.Parser.{Parser}
use Rattle.pl_grammar.specs.Relations.{Rel}
use Rattle.pl_grammar.specs.Rule.{Rule, part, inside, given, one, nothing, maybe, ◌before◌, ◌until◌, ◌then◌, make, check, fork, ◌or◌, ahead, prefer, links, link, many, FirstFollow}
use Rattle.pl_grammar.specs.Fit.{Told}

pub split : (a b : Bool) → (a && b) ≡ true → (a ≡ true) × (b ≡ true)
split true b h = (refl, h)
split false b h = absurd (cc)

module _ {Part : Type 0} {Tree : Part → Type 0} where
  abbrev pub plain : {A : Type 0} → Rule Tree A → Bool
  plain (part p) = true
  plain (inside p) = true
  plain (given g) = false
  plain (one s) = true
  plain (nothing a) = true
  plain (maybe m) = true
  plain (◌before◌ m r) = plain r
  plain (◌until◌ r m) = plain r
  plain (◌then◌ r s) = plain r && plain s
  plain (make f r) = plain r
  plain (check f r) = plain r
  plain (fork m r s) = plain r && plain s
  plain (◌or◌ r s) = plain r && plain s
  plain (ahead test marks r s) = false
  plain (prefer test marks r s) = false
  plain (links table r f) = plain r
  plain (link table r f) = plain r
  plain (many r) = plain r

  module _ (e : FirstFollow Part) (R : (p : Part) → Rel (Tree p)) (inner here : (p : Part) → Parser (Tree p)) where
    pub plain_told : {A : Type 0} (r : Rule Tree A) → plain r ≡ true → Told e R inner here r
    plain_told (part p) h = tt
    plain_told (inside p) h = tt
    plain_told (given g) h = absurd (cc)
    plain_told (one s) h = tt
    plain_told (nothing a) h = tt
    plain_told (maybe m) h = tt
    plain_told (◌before◌ m r) h = plain_told r h
    plain_told (◌until◌ r m) h = plain_told r h
    plain_told (◌then◌ r s) h = let two = split (plain r) (plain s) h in (plain_told r two.0, plain_told s two.1)
    plain_told (make f r) h = plain_told r h
    plain_told (check f r) h = plain_told r h
    plain_told (fork m r s) h = let two = split (plain r) (plain s) h in (plain_told r two.0, plain_told s two.1)
    plain_told (◌or◌ r s) h = let two = split (plain r) (plain s) h in (plain_told r two.0, plain_told s two.1)
    plain_told (ahead test marks r s) h = absurd (cc)
    plain_told (prefer test marks r s) h = absurd (cc)
    plain_told (links table r f) h = plain_told r h
    plain_told (link table r f) h = plain_told r h
    plain_told (many r) h = plain_told r h
