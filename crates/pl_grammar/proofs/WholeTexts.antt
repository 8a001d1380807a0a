-- Whole lists of tokens, by a grammar that is as it is said to be.
use Rattle.std.proofs.Common.{◌≡◌, [], sym, ap, ◌∙◌, subst, append-nil}
use Rattle.pl_grammar.specs.Marks.{Tokens}
use Rattle.pl_grammar.specs.Rule.{Given}
use Rattle.pl_grammar.specs.Fit.{Lawful}
use Rattle.pl_grammar.proofs.Tools.{Gives, same_pair}

module _ {A : Type 0} (g : Given A) (law : Lawful g) (ts : Tokens) where
  -- what is read is spelled so
  pub whole_found : (a : A) → Gives (g.reader ts) a [] → g.spells a ts
  whole_found a h = let f = law.sound ts [] a h in subst (λ (ts : Tokens). g.spells a ts) (sym (f.1 ∙ append-nil f.0)) f.2

  -- what is spelled is read
  pub whole_read : (a : A) → g.spells a ts → Gives (g.reader ts) a []
  whole_read a k = ap g.reader (sym (append-nil ts)) ∙ law.complete a ts [] k tt

  -- one tree and no other
  pub whole_only : (a b : A) → Gives (g.reader ts) a [] → g.spells b ts → b ≡ a
  whole_only a b h k = (same_pair b a [] [] (sym (whole_read b k) ∙ h)).0

  -- what isn't read is spelled by no tree
  pub whole_none : ((a : A) → Gives (g.reader ts) a [] → ⊥) → (a : A) → g.spells a ts → ⊥
  whole_none none a k = none a (whole_read a k)
