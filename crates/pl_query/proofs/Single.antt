-- A query over the row of its only table that WHERE may pass.
use Rattle.std.proofs.Common.{◌≡◌, ◌+◌, refl, sym, ap, ◌∙◌, ℕ, Bool, true, false, cond, nat_lt, List, [], ◌∷◌, ◌++◌, Option, Some, None, Result, Ok, Err, IfOk, IfSome, length, map, slice_get, take, arith}
use Rattle.std.specs.Option.{option_map}
use Rattle.pl_base.specs.States.{PROGRAM_LIMIT_EXCEEDED}
use Rattle.pl_base.specs.declared.value.Value.{Value}
use Rattle.pl_calc.specs.Logic.{truth_value}
use Rattle.pl_order.specs.Cut.{cut}
use Rattle.pl_order.specs.Order.{order_by, sorted}
use Rattle.pl_product.specs.Product.{extended, kept_if, row_limit}
use Rattle.pl_product.specs.Sole.{IsSole, only}
use Rattle.pl_product.specs.declared.sole.Sole.TheVariants.{Nothing, Row as RowAt}
use Rattle.pl_query.proofs.Few.{drawn_is}
use Rattle.pl_query.proofs.Kept.{assoc}
use Rattle.pl_query.proofs.Turns.{chosen_of, held_is, room_for}
use Rattle.pl_query.specs.Presence.{AreRead, HasRow, IsBare, PassesAs}
use Rattle.pl_query.specs.Query.{each_once, ended, grouping, query, selected_from}
use Rattle.pl_query.specs.Rows.{in_turn, selected, with_row}
use Rattle.pl_query.specs.Sources.{Drawn, Tables, alone, drawn, frames, item, standing_limit}
use Rattle.pl_query.specs.declared.presence.Bare.{Bare}
use Rattle.pl_resolved.specs.declared.expression.RExpr.{RExpr}
use Rattle.pl_resolved.specs.declared.query.RGroups.{RGroups}
use Rattle.pl_resolved.specs.declared.query.RJoin.{RJoin, out-RJoin}
use Rattle.pl_resolved.specs.declared.query.RQuery.{RQuery}
use Rattle.pl_value.specs.Frames.{Frame, Row}
use Rattle.pl_value.specs.Meaning.{Calls, Part, Sub, is_so, is_some, passed, passes, value, values}
use Rattle.pl_value.specs.Reading.{Reading, got, fails, settled, then_read}

-- ---- the select list

-- values that stand are a row
are_values : {W : Type 0} (xs : List RExpr) (frame : Frame) → AreRead W xs frame → (done : Row)
    → (row : Row) × ((calls : Calls W) (sub : Sub W) (w : W) → values (map (value calls sub) xs) done frame w ≡ got row w)
are_values [] frame read done = (done, λ calls sub w. refl)
are_values {W} (x ∷ xs) frame read done =
    let v = read.0.0 in
    let rest = are_values {W = W} xs frame read.1 (done ++ v ∷ []) in (
      rest.0,
      λ calls sub w.
          ap (λ (r : Reading W Value). then_read {B = List Value} r (λ v w. values (map (value calls sub) xs) (done ++ v ∷ []) frame w)) (read.0.1 calls sub w)
          ∙ rest.1 calls sub w,
    )

module _ {W : Type 0} (calls : Calls W) (sub : Sub W) (xs : List RExpr) (frame : Frame) (read : AreRead W xs frame) where
  abbrev listed : List Frame → W → Reading W (List Row)
  listed fs w = in_turn (with_row (map (value calls sub) xs)) fs [] w

  abbrev row : Row
  row = (are_values xs frame read []).0

  -- one row is kept, and is read
  one_listed : (w : W) → then_read {B = List Row} (kept_if true frame [] w) listed ≡ got (row ∷ []) w
  one_listed w =
      ap (λ (b : Bool). then_read {A = List Frame} {B = List Row} (cond b (got (frame ∷ []) w) (fails PROGRAM_LIMIT_EXCEEDED w)) listed) (room_for 0 0 row_limit (omega arith))
      ∙ ap (λ (r : Reading W Row). then_read {A = List Row} {B = List Row} (then_read {A = Row} {B = List Row} r (λ row w. got (row ∷ []) w)) (λ done w. got done w)) ((are_values xs frame read []).1 calls sub w)

-- ---- WHERE

-- a truth that is read passes only if it is true
pub truth_passes : {W : Type 0} (calls : Calls W) (sub : Sub W) (x : RExpr) (frame : Frame) (w : W) (t : Option Bool) → value calls sub x frame w ≡ got (truth_value t) w
    → passes (value calls sub x) frame w ≡ got (is_so t) w
truth_passes calls sub x frame w None is = ap (λ (r : Reading _ Value). then_read {B = Bool} r (λ v w. settled (passed v) w)) is
truth_passes calls sub x frame w (Some true) is = ap (λ (r : Reading _ Value). then_read {B = Bool} r (λ v w. settled (passed v) w)) is
truth_passes calls sub x frame w (Some false) is = ap (λ (r : Reading _ Value). then_read {B = Bool} r (λ v w. settled (passed v) w)) is

-- ---- DISTINCT and ORDER BY leave a row where there is one

module _ (q : RQuery) where
  abbrev finished : List Row → List Row
  finished rows = map (take (length q.heads)) (cut None None (sorted (order_by q.order) (each_once q.is_distinct rows)))

  no_row : (d : Bool) → is_some (map (take (length q.heads)) (cut None None (sorted (order_by q.order) (each_once d [])))) ≡ false
  no_row true = refl
  no_row false = refl

  one_row : (d : Bool) (row : Row) → is_some (map (take (length q.heads)) (cut None None (sorted (order_by q.order) (each_once d (row ∷ []))))) ≡ true
  one_row true row = refl
  one_row false row = refl

-- ---- a whole query

module _ {W : Type 0} (calls : Calls W) (sub : Sub W) (tables : Tables) (q : RQuery) (b : Bare) (outer : Frame) (bare : IsBare tables q b) (w : W) where
  abbrev stands : Frame
  stands = outer ++ [] ∷ []

  abbrev items : List RExpr → List (Part W)
  items xs = map (value calls sub) xs

  abbrev x : RExpr
  x = b.condition.now

  abbrev join : RJoin
  join = bare.only.0

  abbrev d : Drawn
  d = alone (tables bare.name)

  abbrev lists : List RExpr → List Frame → W → Reading W (List Row)
  lists xs fs w = in_turn (with_row (items xs)) fs [] w

  abbrev product : Bool → Option (Part W) → Option (Part W) → Reading W (List Frame)
  product is_left on p = extended (record { bundles = frames d; leaves = 1; is_left = is_left; on = on } ∷ []) p stands [] w

  abbrev where_of : Reading W (List Frame)
  where_of = extended (only b.bundles.now ∷ []) (Some (value calls sub x)) stands [] w

  -- WHERE and the select list
  from_is : nat_lt standing_limit (length stands + 1) ≡ false → selected_from calls sub tables q (d ∷ []) outer stands w ≡ then_read where_of (lists b.items.now)
  from_is few =
      held_is calls sub tables q join d outer stands bare.only.1 w false few
      ∙ (assoc (product (out-RJoin join).is_left (option_map (value calls sub) (out-RJoin join).condition) (option_map (value calls sub) q.condition)) (λ (fs : List Frame) w. got (1, fs) w) (chosen_of calls sub tables q join d outer stands bare.only.1)
      ∙ (ap (λ (o : Option RGroups). then_read (product (out-RJoin join).is_left (option_map (value calls sub) (out-RJoin join).condition) (option_map (value calls sub) q.condition)) (λ fs w. selected (option_map (grouping calls sub) o) (items q.items) outer (1, fs) w)) bare.groups
      ∙ (ap (λ (l : Bool). then_read (product l (option_map (value calls sub) (out-RJoin join).condition) (option_map (value calls sub) q.condition)) (lists q.items)) bare.only.2.left
      ∙ (ap (λ (o : Option RExpr). then_read (product false (option_map (value calls sub) o) (option_map (value calls sub) q.condition)) (lists q.items)) bare.only.2.on
      ∙ (ap (λ (o : Option RExpr). then_read (product false None (option_map (value calls sub) o)) (lists q.items)) bare.where_is
      ∙ (ap (λ (fs : List Frame). then_read (extended (only fs ∷ []) (Some (value calls sub x)) stands [] w) (lists q.items)) (sym bare.rows)
      ∙ ap (λ (xs : List RExpr). then_read where_of (lists xs)) bare.items))))))

  abbrev ends : Option RExpr → Option RExpr → List Row → W → Reading W (List Row)
  ends offset limit rows w = ended q (option_map (value calls sub) offset) (option_map (value calls sub) limit) outer rows w

  abbrev behind : List Drawn → W → Reading W (List Row)
  behind ds w = then_read (selected_from calls sub tables q ds outer stands w) (λ rows w. ends q.offset q.limit rows w)

  query_is : nat_lt standing_limit (length stands + 1) ≡ false → query calls sub tables q outer w ≡ then_read (then_read where_of (lists b.items.now)) (λ rows w. got (finished q rows) w)
  query_is few =
      ap (λ (joins : List RJoin). then_read {A = List Drawn} {B = List Row} (drawn (map (item calls sub tables outer) joins) [] stands w) behind) bare.only.1
      ∙ (ap (λ (r : Reading W (List Drawn)). then_read {B = List Row} r behind) (drawn_is calls sub x stands tables q outer join bare.name bare.only.2 w)
      ∙ (ap (λ (o : Option RExpr). then_read {A = List Row} {B = List Row} (selected_from calls sub tables q (d ∷ []) outer stands w) (λ rows w. ends o q.limit rows w)) bare.offset
      ∙ (ap (λ (o : Option RExpr). then_read {A = List Row} {B = List Row} (selected_from calls sub tables q (d ∷ []) outer stands w) (λ rows w. ends None o rows w)) bare.limit
      ∙ ap (λ (r : Reading W (List Row)). then_read {B = List Row} r (λ rows w. got (finished q rows) w)) (from_is few))))

  -- the rows are counted once the row that may pass is known
  abbrev asked : Reading W (List Row) → Reading W Bool
  asked r = then_read {A = List Row} {B = Bool} (then_read {A = List Row} {B = List Row} r (λ rows w. got (finished q rows) w)) (λ rows w. got (is_some rows) w)

  abbrev asks : Reading W Bool → Type 0
  asks answer = then_read {A = List Row} {B = Bool} (query calls sub tables q outer w) (λ rows w. got (is_some rows) w) ≡ answer

  asked_is : nat_lt standing_limit (length stands + 1) ≡ false → asks (asked (then_read where_of (lists b.items.now)))
  asked_is few = ap (λ (r : Reading W (List Row)). then_read {A = List Row} {B = Bool} r (λ rows w. got (is_some rows) w)) (query_is few)

  none_passes : nat_lt standing_limit (length stands + 1) ≡ false → IsSole W x stands b.bundles.now Nothing → asks (got false w)
  none_passes few sole =
      asked_is few
      ∙ (ap (λ (r : Reading W (List Frame)). asked (then_read r (lists b.items.now))) (sole calls sub w)
      ∙ ap (λ (b : Bool). got b w) (no_row q q.is_distinct))

  row_passed : (is : Bool) (frame : Frame) → AreRead W b.items.now frame → asked (then_read (kept_if is frame [] w) (lists b.items.now)) ≡ got is w
  row_passed true frame read =
      ap asked (one_listed calls sub b.items.now frame read w)
      ∙ ap (λ (b : Bool). got b w) (one_row q q.is_distinct (row calls sub b.items.now frame read))
  row_passed false frame read = ap (λ (b : Bool). got b w) (no_row q q.is_distinct)

  one_passes : (at : ℕ) (bundle : Frame) (is : Bool) → nat_lt standing_limit (length stands + 1) ≡ false → IsSole W x stands b.bundles.now (RowAt at) → slice_get b.bundles.now at ≡ Some bundle
      → PassesAs W b (stands ++ bundle) is → asks (got is w)
  one_passes at bundle is few sole got-at pass =
      asked_is few
      ∙ (ap (λ (r : Reading W (List Frame)). asked (then_read r (lists b.items.now))) (sole.1 bundle got-at calls sub w)
      ∙ (ap (λ (r : Reading W Bool). asked (then_read {A = List Frame} {B = List Row} (then_read {A = Bool} {B = List Frame} r (λ is w. kept_if is (stands ++ bundle) [] w)) (lists b.items.now))) (pass.condition calls sub w)
      ∙ row_passed is (stands ++ bundle) pass.items))

-- none of the rows passes
pub has_none : (W : Type 0) (tables : Tables) (q : RQuery) (b : Bare) (outer : Frame) → IsBare tables q b → nat_lt standing_limit (length (outer ++ [] ∷ []) + 1) ≡ false
    → IsSole W b.condition.now (outer ++ [] ∷ []) b.bundles.now Nothing → HasRow W tables q outer false
has_none W tables q b outer bare few sole calls sub w = none_passes calls sub tables q b outer bare w few sole

-- the row that may pass passes or not
pub has_one : (W : Type 0) (tables : Tables) (q : RQuery) (b : Bare) (outer : Frame) → IsBare tables q b → (at : ℕ) (bundle : Frame) (is : Bool) → nat_lt standing_limit (length (outer ++ [] ∷ []) + 1) ≡ false
    → IsSole W b.condition.now (outer ++ [] ∷ []) b.bundles.now (RowAt at) → slice_get b.bundles.now at ≡ Some bundle → PassesAs W b ((outer ++ [] ∷ []) ++ bundle) is → HasRow W tables q outer is
has_one W tables q b outer bare at bundle is few sole got-at pass calls sub w = one_passes calls sub tables q b outer bare w at bundle is few sole got-at pass

-- what is known of an answer
pub known_then : {E : Type 0} (r : Result (Option Bool) E) (P Q : Bool → Type 0) → ((b : Bool) → P b → Q b) → IfOk r (λ o. IfSome o P) → IfOk r (λ o. IfSome o Q)
known_then (Ok (Some b)) P Q so is = so b is
known_then (Ok None) P Q so is = tt
known_then (Err e) P Q so is = tt
