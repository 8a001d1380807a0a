use Rattle.std.proofs.Common.{◌∷◌, ◌∙◌, Option, List, sym, ap, subst, ℕ, length, arith}
use Rattle.std.specs.List.{AllByRecursion}
use Rattle.pl_history.specs.History.{History, back, seen_as}
use Rattle.pl_history.specs.HistoryLaws.{seen_back}
use Rattle.pl_unique.specs.declared.key.Part.{Part}
use Rattle.pl_unique.specs.Numbered.{keys_at, Known}
use Rattle.pl_unique.proofs.Numbers.{all_back}
use Rattle.pl_unique.proofs.key_map.KeyMap.undo.Goals as goal

pub invariant_of-self : goal.invariant_of-self
invariant_of-self c =
    let keys = c.self.inside.keys in (
      omega (arith, c.self.invariant.0, c.undo.ensures.count),
      subst (λ (g : History (List (Option ℕ))). AllByRecursion (Known (length keys)) (g.current ∷ g.past)) (sym c.undo.ensures.back) (all_back (Known (length keys)) c.self.inside.numbers.numbers c.self.invariant.1),
    )

pub returns : goal.returns
returns c =
    let keys = c.self.inside.keys in
    record { back = ap (λ (g : History (List (Option ℕ))). seen_as (keys_at keys) g) c.undo.ensures.back ∙ (seen_back (keys_at keys) c.self.inside.numbers.numbers ∙ ap (λ (v : History (List (Option (List Part)))). back v) c.self.view_is) }
