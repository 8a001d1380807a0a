-- Groups and the select list: PostgreSQL manual, "The GROUP BY and HAVING Clauses", "Select Lists".
use Rattle.std.specs.Prelude.{ℕ, suc, if◌then◌else◌, List, [], ◌∷◌, ◌++◌, Option, Some, None}
use Rattle.std.specs.Prelude.{drop, length, map, replicate, slice_get, unwrap_or}
use Rattle.pl_base.specs.declared.value.Value.{Value}
use Rattle.pl_base.specs.declared.value.Value.TheVariants.{Null}
use Rattle.pl_calc.specs.Answer.{Answer}
use Rattle.pl_groups.specs.Aggregates.{aggregated}
use Rattle.pl_groups.specs.Groups.{groups}
use Rattle.pl_product.specs.Product.{passes}
use Rattle.pl_query.specs.Sources.{Drawn, leaves, frames}
use Rattle.pl_resolved.specs.declared.query.Aggregate.{Aggregate}
use Rattle.pl_value.specs.Frames.{Row, Frame}
use Rattle.pl_value.specs.Meaning.{Part, values}
use Rattle.pl_value.specs.Reading.{Reading, got, settled, then_read}

-- an aggregate with what its first and its second argument mean
pub record Aggregation (W : Type 0) : Type 0 where
  pub aggregate : Aggregate
  pub first : Part W
  pub second : Part W

-- how rows are grouped
pub record Grouping (W : Type 0) : Type 0 where
  pub keys : List (Part W)
  pub aggregations : List (Aggregation W)
  pub having : Option (Part W)

-- a row of the product with what is read of it before it is in a group: its keys, and the first and
-- the second argument of each aggregate
pub record Member : Type 0 where
  pub frame : Frame
  pub keys : Row
  pub arguments : List (Value × Value)

-- the arguments of the aggregate of this number
abbrev pub argument : ℕ → Member → Value × Value
argument at m = unwrap_or (slice_get m.arguments at) (Null, Null)

-- what the aggregates, from this number on, give over members
abbrev pub answers : ℕ → List Aggregate → List Member → List Answer
answers at [] ms = []
answers at (a ∷ more) ms =
    aggregated a (map (λ m. (argument at m).0) ms) (map (λ m. (argument at m).1) ms)
    ∷ answers (suc at) more ms

-- the members of each group; without a key all are one group, which is there without members too
abbrev pub grouped : {A : Type 0} → List A → List Member → List (List Member)
grouped [] ms = ms ∷ []
grouped (key ∷ keys) ms = groups (λ (m : Member). m.keys) ms

-- the rows that stand for a group behind the row of its aggregates: those of its first member;
-- without a member each is empty
abbrev pub first_rows : Frame → ℕ → List Member → Frame
first_rows outer leaves [] = replicate leaves []
first_rows outer leaves (m ∷ ms) = drop (suc (length outer)) m.frame

module _ {W : Type 0} where
  -- things in turn: what each adds to what those before it gave
  abbrev pub in_turn : {A B : Type 0} → (A → B → W → Reading W B) → List A → B → W → Reading W B
  in_turn adds [] done w = got done w
  in_turn adds (x ∷ xs) done w =
      then_read (adds x done w) (λ done w. in_turn adds xs done w)

  -- the values of the parts are one row more
  abbrev pub with_row : List (Part W) → Frame → List Row → W → Reading W (List Row)
  with_row parts frame done w =
      then_read (values parts [] frame w) (λ row w. got (done ++ row ∷ []) w)

  -- the arguments of each aggregate, of one row
  abbrev pub arguments : List (Aggregation W) → Frame → W → Reading W (List (Value × Value))
  arguments [] frame w = got [] w
  arguments (a ∷ more) frame w =
      then_read (a.first frame w) (λ v w.
      then_read (a.second frame w) (λ other w.
      then_read (arguments more frame w) (λ pairs w. got ((v, other) ∷ pairs) w)))

  -- one row more is read
  abbrev pub with_member : Grouping W → Frame → List Member → W → Reading W (List Member)
  with_member g frame done w =
      then_read (values g.keys [] frame w) (λ keys w.
      then_read (arguments g.aggregations frame w) (λ pairs w.
      got (done ++ record { frame = frame; keys = keys; arguments = pairs } ∷ []) w))

  -- one value more
  abbrev pub with_value : Answer → Row → W → Reading W Row
  with_value answer done w = then_read (settled answer w) (λ v w. got (done ++ v ∷ []) w)

  -- one row more, if HAVING passes
  abbrev pub with_row_if : Option (Part W) → List (Part W) → Frame → List Row → W
      → Reading W (List Row)
  with_row_if having items frame done w =
      then_read (passes having frame w) (λ b w.
      if b then with_row items frame done w else got done w)

  -- a group: its aggregates, HAVING and the select list, over the rows that stand for it
  abbrev pub with_group : Grouping W → List (Part W) → Frame → ℕ → List Member → List Row → W
      → Reading W (List Row)
  with_group g items outer leaves ms done w =
      then_read (in_turn with_value (answers 0 (map (λ a. a.aggregate) g.aggregations) ms) [] w)
      (λ values w.
      with_row_if g.having items (outer ++ values ∷ first_rows outer leaves ms) done w)

  -- the values of the select list, for each row, or for each group in the order in which the keys
  -- first come
  abbrev pub selected : Option (Grouping W) → List (Part W) → Frame → Drawn → W
      → Reading W (List Row)
  selected None items outer d w = in_turn (with_row items) (frames d) [] w
  selected (Some g) items outer d w =
      then_read (in_turn (with_member g) (frames d) [] w) (λ ms w.
      in_turn (with_group g items outer (leaves d)) (grouped g.keys ms) [] w)
