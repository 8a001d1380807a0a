use Rattle.std.proofs.Common.{◌∙◌, sym, List, ℕ, ap, subst, map}
use Rattle.std.specs.List.{AllByRecursion}
use Rattle.pl_history.specs.History.{seen_as, settled, History}
use Rattle.pl_unique.specs.declared.row_keys.Key.{Key}
use Rattle.pl_unique.specs.RowKeys.{columns_of, settled_key}
use Rattle.pl_unique.specs.RowKeyLaws.{columns_settled}
use Rattle.pl_tables.specs.Rows.{Content}
use Rattle.pl_tables.specs.Undo.{content, InStep, Kept}
use Rattle.pl_tables.proofs.Steps.{all_settled}
use Rattle.pl_tables.proofs.table.Table.forget.Goals as goal

pub invariant_of-self : goal.invariant_of-self
invariant_of-self c =
    let h = c.self.inside.heap in
    let ks = c.self.inside.keys.items in
    let all = c.self.invariant in
    subst (λ (l : List Key). AllByRecursion (InStep c.forget.new.self) l) (sym c.forget_keys.ensures) (subst (λ (g : History Kept). AllByRecursion (InStep g) (map settled_key ks)) (sym c.forget.ensures.settled) (all_settled h ks all))

pub returns : goal.returns
returns c =
    let h = c.self.inside.heap in
    let ks = c.self.inside.keys.items in
    let all = c.self.invariant in
    record {
      settled = ap (λ (l : List Key). seen_as (content (columns_of l)) c.forget.new.self) c.forget_keys.ensures
          ∙ (ap (λ (cs : List (List ℕ)). seen_as (content cs) c.forget.new.self) (columns_settled ks)
          ∙ (ap (seen_as (content (columns_of ks))) c.forget.ensures.settled ∙ ap (λ (t : History Content). settled t) c.self.view_is));
    }
