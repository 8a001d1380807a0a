-- What a change of a row does to the keys of its table.
use Rattle.std.specs.Prelude.{◌≡◌, ◌≢◌, ◌<◌, ◌++◌, ℕ, zero, suc, List, [], ◌∷◌, length, map}
use Rattle.std.specs.Prelude.{Option, None, Some, option_and_then, slice_get, slice_set}
use Rattle.std.specs.Option.{ForSome}
use Rattle.pl_base.specs.declared.value.Value.{Value}
use Rattle.pl_history.specs.History.{back, changed, settled}
use Rattle.pl_unique.specs.declared.key.Part.{Part}
use Rattle.pl_unique.specs.declared.row_keys.Key.{Key}
use Rattle.pl_unique.specs.Key.{key_of}

-- the columns of each key
abbrev pub columns_of : List Key → List (List ℕ)
columns_of keys = map (λ (k : Key). k.columns.items) keys

-- the key of a row, where there is a row
abbrev pub key_given : List ℕ → Option (List Value) → Option (List Part)
key_given columns row = option_and_then (key_of columns) row

-- behind the others, or at this place
abbrev pub placed : Option ℕ → Option (List Part) → List (Option (List Part))
    → List (Option (List Part))
placed None key keys = keys ++ key ∷ []
placed (Some at) key keys = slice_set keys at key

-- the row stands there, or none does
abbrev pub changed_key : Option ℕ → Option (List Value) → Key → Key
changed_key place row k = record {
  columns = k.columns;
  at = changed (placed place (key_given k.columns.items row) k.at.current) k.at;
}

abbrev pub undone_key : Key → Key
undone_key k = record { columns = k.columns; at = back k.at }

abbrev pub settled_key : Key → Key
settled_key k = record { columns = k.columns; at = settled k.at }

-- without rows
abbrev pub IsNew : Key → Type 0
IsNew k = (k.at.current ≡ []) × (k.at.past ≡ [])

-- each key has the place, if one is given
abbrev pub HasPlace : Option ℕ → Key → Type 0
HasPlace place k = ForSome place (λ (at : ℕ). at < length k.at.current)

-- the parts are at no place but this one
abbrev pub IsFreeBut : Option ℕ → List Part → List (Option (List Part)) → Type 0
IsFreeBut place parts keys = (at : ℕ) → slice_get keys at ≡ Some (Some parts) → place ≡ Some at

-- so is the key of the row
abbrev pub KeyIsFree : Option ℕ → Option (List Value) → Key → Type 0
KeyIsFree place row k =
    ForSome (key_given k.columns.items row) (λ (p : List Part). IsFreeBut place p k.at.current)

-- the key of the row is at this place, which isn't the row's
pub record IsTakenIn
    (place : Option ℕ) (row : Option (List Value)) (key : Key) (at : ℕ) : Type 0 where
  pub parts : List Part
  pub has : key_given key.columns.items row ≡ Some parts
  pub stands : slice_get key.at.current at ≡ Some (Some parts)
  pub other : place ≢ Some at

-- so is one of the keys
pub record IsTaken
    (place : Option ℕ) (row : Option (List Value)) (keys : List Key) (at : ℕ) : Type 0 where
  pub number : ℕ
  pub key : Key
  pub is : slice_get keys number ≡ Some key
  pub taken : IsTakenIn place row key at

-- the one at this place is changed so, and the others stay
abbrev pub with_key : List Key → ℕ → (Key → Key) → List Key
with_key [] at change = []
with_key (k ∷ ks) zero change = change k ∷ ks
with_key (k ∷ ks) (suc at) change = k ∷ with_key ks at change

-- the first ones are changed so, and the others stay
abbrev pub partly : (Key → Key) → ℕ → List Key → List Key
partly change zero keys = keys
partly change (suc n) [] = []
partly change (suc n) (k ∷ ks) = change k ∷ partly change n ks
