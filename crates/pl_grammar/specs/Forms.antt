-- Forms of rules that grammars share.
use Rattle.std.specs.Prelude.{List, [], ◌∷◌, Option, Some, None}
use Rattle.pl_grammar.specs.Marks.{Mark}
use Rattle.pl_grammar.specs.Rule.{Rule, nothing, make, fork, links, ◌then◌, ◌until◌, ◌before◌}
use Rattle.pl_grammar.specs.Words.{COMMA, OPEN, CLOSE}

-- an item as it stands, whatever joins it
abbrev pub alone : {O A : Type 0} → O → A → A
alone o a = a

-- a table of one mark
abbrev pub by : Mark → List (Mark × Unit {0})
by m = (m, tt) ∷ []

module _ {Part : Type 0} {Tree : Part → Type 0} where
  -- [m r]
  abbrev pub optional : {A : Type 0} → Mark → Rule Tree A → Rule Tree (Option A)
  optional m r = fork m (make Some r) (nothing None)

  -- r {, r}
  abbrev pub list_of : {A : Type 0} → Rule Tree A → Rule Tree (List A)
  list_of r = make (λ p. p.0 ∷ p.1) (r then links (by COMMA) r alone)

  -- (r)
  abbrev pub in_brackets : {A : Type 0} → Rule Tree A → Rule Tree A
  in_brackets r = OPEN before r until CLOSE

  -- r {m r}, where marks of a table join and each has its meaning
  abbrev pub chain : {O A B : Type 0} → List (Mark × O) → Rule Tree A → (O → A → B) → (A → List B → A) → Rule Tree A
  chain table r make_link whole = make (λ p. whole p.0 p.1) (r then links table r make_link)
