-- What a function makes of the result of the step before it.
use Rattle.std.specs.Prelude.{◌≡◌, Option, Some, Result, Ok, Err}
use Rattle.pl_grammar.specs.declared.fail.Fail.{Fail}
use Rattle.pl_grammar.specs.Marks.{Mark}
use Rattle.pl_grammar.specs.Parser.{Outcome, Makes, and_then, expect}

-- a failure stays, and of a value `f` makes another or refuses it
abbrev pub Follows : {A B : Type 0} → Result A Fail → (A → Option B) → Result B Fail → Type 0
Follows (Ok a) f r = Makes (f a) r
Follows (Err e) f (Ok b) = ⊥
Follows (Err e) f (Err d) = d ≡ e

-- the mark stands behind what was read
abbrev pub before : {A : Type 0} → Mark → Outcome A → Outcome A
before m o = and_then o (λ a ts. and_then (expect m ts) (λ _ ts. Some (a, ts)))
