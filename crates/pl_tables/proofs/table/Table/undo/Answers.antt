use Rattle.std.proofs.Common.{◌∙◌, sym, List, ℕ, ap, subst, map}
use Rattle.std.specs.List.{AllByRecursion}
use Rattle.pl_history.specs.History.{back, seen_as, History}
use Rattle.pl_history.specs.HistoryLaws.{seen_back}
use Rattle.pl_unique.specs.declared.row_keys.Key.{Key}
use Rattle.pl_unique.specs.RowKeys.{columns_of, undone_key}
use Rattle.pl_unique.specs.RowKeyLaws.{columns_undone}
use Rattle.pl_tables.specs.Rows.{Content}
use Rattle.pl_tables.specs.Undo.{content, InStep, Kept}
use Rattle.pl_tables.proofs.Steps.{all_back}
use Rattle.pl_tables.proofs.table.Table.undo.Goals as goal

pub invariant_of-self : goal.invariant_of-self
invariant_of-self c =
    let h = c.self.inside.heap in
    let ks = c.self.inside.keys.items in
    let all = c.self.invariant in
    subst (λ (l : List Key). AllByRecursion (InStep c.undo.new.self) l) (sym c.undo_keys.ensures) (subst (λ (g : History Kept). AllByRecursion (InStep g) (map undone_key ks)) (sym c.undo.ensures.back) (all_back h ks all))

pub returns : goal.returns
returns c =
    let h = c.self.inside.heap in
    let ks = c.self.inside.keys.items in
    let all = c.self.invariant in
    record {
      back = ap (λ (l : List Key). seen_as (content (columns_of l)) c.undo.new.self) c.undo_keys.ensures
          ∙ (ap (λ (cs : List (List ℕ)). seen_as (content cs) c.undo.new.self) (columns_undone ks)
          ∙ (ap (seen_as (content (columns_of ks))) c.undo.ensures.back ∙ (seen_back (content (columns_of ks)) h ∙ ap (λ (t : History Content). back t) c.self.view_is)));
    }
