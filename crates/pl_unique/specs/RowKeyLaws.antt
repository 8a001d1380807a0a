-- Proofs about keys that change with the rows, for whoever keeps both.
use Rattle.std.proofs.Common.{◌≡◌, ℕ, List, [], ◌∷◌, map, Option, refl, ap, ◌∙◌}
use Rattle.pl_base.specs.declared.value.Value.{Value}
use Rattle.pl_history.specs.History.{History}
use Rattle.pl_history.specs.HistoryLaws.{back_changed}
use Rattle.pl_unique.specs.declared.key.Part.{Part}
use Rattle.pl_unique.specs.declared.row_keys.Key.{Key}
use Rattle.pl_unique.specs.RowKeys.{changed_key, columns_of, key_given, placed, settled_key, undone_key}

-- undoing leads to what was
pub undone_changed : (place : Option ℕ) (row : Option (List Value)) (k : Key) → undone_key (changed_key place row k) ≡ k
undone_changed place row k =
    ap (λ (h : History (List (Option (List Part)))). let x : Key = record { columns = k.columns; at = h } in x) (back_changed (placed place (key_given k.columns.items row) k.at.current) k.at)

pub all_undone : (place : Option ℕ) (row : Option (List Value)) (ks : List Key) → map undone_key (map (changed_key place row) ks) ≡ ks
all_undone place row [] = refl
all_undone place row (k ∷ ks) =
    ap (λ (x : Key). x ∷ map undone_key (map (changed_key place row) ks)) (undone_changed place row k)
    ∙ ap (λ (l : List Key). k ∷ l) (all_undone place row ks)

-- the columns stay
pub columns_changed : (place : Option ℕ) (row : Option (List Value)) (ks : List Key) → columns_of (map (changed_key place row) ks) ≡ columns_of ks
columns_changed place row [] = refl
columns_changed place row (k ∷ ks) = ap (λ (l : List (List ℕ)). k.columns.items ∷ l) (columns_changed place row ks)

pub columns_undone : (ks : List Key) → columns_of (map undone_key ks) ≡ columns_of ks
columns_undone [] = refl
columns_undone (k ∷ ks) = ap (λ (l : List (List ℕ)). k.columns.items ∷ l) (columns_undone ks)

pub columns_settled : (ks : List Key) → columns_of (map settled_key ks) ≡ columns_of ks
columns_settled [] = refl
columns_settled (k ∷ ks) = ap (λ (l : List (List ℕ)). k.columns.items ∷ l) (columns_settled ks)
