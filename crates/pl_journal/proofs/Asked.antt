-- A row that hasn't the values that a condition asks for is turned down.
use Rattle.std.proofs.Common.{rules, ◌≡◌, ◌⊎◌, inl, inr, refl, sym, ap, ◌∙◌, subst, ℕ, zero, suc, ℤ, arith, Bool, true, false, cond, not, ◌&&◌, ◌||◌, List, [], ◌∷◌, ◌++◌, length, map, slice_get, Option, Some, None, Ok}
use Rattle.std.specs.Prelude.{option_and_then, if◌then◌else◌}
use Rattle.std.proofs.lemmas.Map.Lookups.{exact_bytes, exact_signed}
use Rattle.std.specs.Ordering.{nat_cmp, int_cmp, bool_cmp}
use Rattle.std.specs.Cmp.Lexicographic.{slice_cmp}
use Rattle.std.specs.declared.cmp.Ordering.{Ordering}
use Rattle.std.specs.declared.cmp.Ordering.TheVariants.{Less, Equal, Greater}
use Rattle.pl_base.specs.declared.operator.Operator.{Operator}
use Rattle.pl_base.specs.declared.operator.Operator.TheVariants.{Compare}
use Rattle.pl_base.specs.declared.operator.Comparison.TheVariants as cmp
use Rattle.pl_base.specs.declared.types.Ty.{Ty}
use Rattle.pl_base.specs.declared.types.Ty.TheVariants as ty
use Rattle.pl_base.specs.declared.value.Value.{Value}
use Rattle.pl_base.specs.declared.value.Value.TheVariants as made
use Rattle.pl_rules.specs.pl_calc.Answer.{Answer}
use Rattle.pl_rules.specs.pl_calc.Comparison.{holds}
use Rattle.pl_rules.specs.pl_calc.Logic.{is_null, truth_of, truth_value}
use Rattle.pl_rules.specs.pl_calc.Operators.{binary_value}
use Rattle.pl_catalog.specs.declared.object.Column.{Column}
use Rattle.pl_journal.specs.ByKey.{Asks, AreAsked, AreCompared, Begins, IsFixed, IsTest, compares, operands}
use Rattle.pl_journal.proofs.Truths.{false_true, none_some, some_is}
use Rattle.pl_resolved.specs.declared.expression.RExpr.{RExpr, the_lemmas}
use Rattle.pl_resolved.specs.declared.expression.RExpr.TheVariants as e
use Rattle.pl_rules.specs.Rules.{fits, is_of, lacks, none_lacks}
use Rattle.pl_unique.specs.Key.{before, key_of, part_of}
use Rattle.pl_unique.specs.declared.key.Part.{Part}
use Rattle.pl_value.specs.Frames.{Frame, Row, cell, cell_in, or_null}
use Rattle.pl_value.specs.Meaning.{Calls, Sub, is_fixed, joined, joint, junction, passed, passes, truth, two, value}
use Rattle.pl_value.specs.Reading.{Reading, got, settled, then_read}

abbrev equal : Value → Value → Answer
equal x y = binary_value (Compare cmp.Equal) x y

abbrev truth_answer : Bool → Answer
truth_answer b = Ok (made.Bool b)

-- ---- two values that are compared

-- what `=` gives of them, whichever stands on the left
record Told (x v : Value) : Type 0 where
  pub t : Option Bool
  pub left : equal x v ≡ Ok (truth_value t)
  pub right : equal v x ≡ Ok (truth_value t)
  pub same : t ≡ Some true → part_of x ≡ part_of v
  pub null : t ≡ None → x ≡ made.Null

-- whether two things are the same by their order, from both sides
record Sides {A : Type 0} (by : A → A → Ordering) (a b : A) : Type 0 where
  pub is : Bool
  pub left : holds cmp.Equal (by a b) ≡ is
  pub right : holds cmp.Equal (by b a) ≡ is
  pub same : is ≡ true → a ≡ b

apart : (o : Ordering) → (o ≡ Equal → ⊥) → holds cmp.Equal o ≡ false
apart Less differs = refl
apart Equal differs = absurd (differs refl)
apart Greater differs = refl

module _ {A : Type 0} (by : A → A → Ordering) (exact : (a b : A) → by a b ≡ Equal → a ≡ b) where
  not_the_same : (a b : A) (o : Ordering) → by a b ≡ o → (o ≡ Equal → ⊥) → by b a ≡ Equal → ⊥
  not_the_same a b o is differs other =
      let e : a ≡ b = sym (exact b a other) in
      differs (sym is ∙ (ap (λ (x : A). by x b) e ∙ (ap (λ (x : A). by b x) (sym e) ∙ other)))

  by_order : (a b : A) (o : Ordering) → by a b ≡ o → Sides by a b
  by_order a b Equal is =
      let e : a ≡ b = exact a b is in
      let back : by b a ≡ Equal = ap (λ (x : A). by x a) (sym e) ∙ (ap (λ (x : A). by a x) e ∙ is) in
      record { is = true; left = ap (holds cmp.Equal) is; right = ap (holds cmp.Equal) back; same = λ h. e }
  by_order a b Less is = record {
    is = false;
    left = ap (holds cmp.Equal) is;
    right = apart (by b a) (not_the_same a b Less is (λ h. cc));
    same = λ h. absurd (false_true h);
  }
  by_order a b Greater is = record {
    is = false;
    left = ap (holds cmp.Equal) is;
    right = apart (by b a) (not_the_same a b Greater is (λ h. cc));
    same = λ h. absurd (false_true h);
  }

  sides : (a b : A) → Sides by a b
  sides a b = by_order a b (by a b) refl

exact_truth : (a b : Bool) → bool_cmp a b ≡ Equal → a ≡ b
exact_truth true true is = refl
exact_truth true false is = cc
exact_truth false true is = cc
exact_truth false false is = refl

-- by the order of what they hold
by_sides : {A : Type 0} (by : A → A → Ordering) (a b : A) (x v : Value) → Sides by a b → equal x v ≡ truth_answer (holds cmp.Equal (by a b)) → equal v x ≡ truth_answer (holds cmp.Equal (by b a))
    → (a ≡ b → part_of x ≡ part_of v) → Told x v
by_sides by a b x v s left right same = record {
  t = Some s.is;
  left = left ∙ ap truth_answer s.left;
  right = right ∙ ap truth_answer s.right;
  same = λ h. same (s.same (some_is s.is true h));
  null = λ h. absurd (none_some s.is (sym h));
}

null_right : (b : Bool) (a : Answer) → cond (b || true) (Ok made.Null) a ≡ Ok made.Null
null_right true a = refl
null_right false a = refl

told_null : (v : Value) → Told made.Null v
told_null v = record {
  t = None;
  left = refl;
  right = null_right (is_null v) _;
  same = λ h. absurd (none_some true h);
  null = λ h. refl;
}

told : (type : Ty) (x v : Value) → is_of type x ≡ true → compares type v ≡ true → Told x v
told type made.Null v own other = told_null v
told ty.Int (made.Int a) (made.Int b) own other = by_sides int_cmp a b (made.Int a) (made.Int b) (sides int_cmp exact_signed a b) refl refl (λ h. ap (λ (z : ℤ). part_of (made.Int z)) h)
told ty.Int (made.Int a) (made.Big b) own other = by_sides int_cmp a b (made.Int a) (made.Big b) (sides int_cmp exact_signed a b) refl refl (λ h. ap (λ (z : ℤ). part_of (made.Int z)) h)
told ty.Big (made.Big a) (made.Int b) own other = by_sides int_cmp a b (made.Big a) (made.Int b) (sides int_cmp exact_signed a b) refl refl (λ h. ap (λ (z : ℤ). part_of (made.Int z)) h)
told ty.Big (made.Big a) (made.Big b) own other = by_sides int_cmp a b (made.Big a) (made.Big b) (sides int_cmp exact_signed a b) refl refl (λ h. ap (λ (z : ℤ). part_of (made.Int z)) h)
told ty.Text (made.Text a) (made.Text b) own other = by_sides (slice_cmp nat_cmp) a b (made.Text a) (made.Text b) (sides (slice_cmp nat_cmp) exact_bytes a b) refl refl (λ h. ap (λ (t : List ℕ). part_of (made.Text t)) h)
told ty.Bool (made.Bool a) (made.Bool b) own other = by_sides bool_cmp a b (made.Bool a) (made.Bool b) (sides bool_cmp exact_truth a b) refl refl (λ h. ap (λ (t : Bool). part_of (made.Bool t)) h)
told type x v own other = absurd cc

-- ---- the cells of a row that keeps its rules

record Kept (column : Column) (row : Row) (c : ℕ) : Type 0 where
  pub x : Value
  pub is : slice_get row c ≡ Some x
  pub fit : is_of column.ty x ≡ true
  pub full : column.is_not_null ≡ true → x ≡ made.Null → ⊥

pub first_so : (a b : Bool) → (a && b) ≡ true → a ≡ true
first_so true b is = refl
first_so false b is = is

pub second_so : (a b : Bool) → (a && b) ≡ true → b ≡ true
second_so true b is = is
second_so false b is = absurd (false_true is)

lacks_null : (b : Bool) (v : Value) → not (b && is_null v) ≡ true → b ≡ true → v ≡ made.Null → ⊥
lacks_null true made.Null none is same = false_true none
lacks_null true v none is same = cc
lacks_null false v none is same = false_true is

kept : (columns : List Column) (row : Row) (c : ℕ) (column : Column) → fits columns row ≡ true → none_lacks columns row ≡ true → slice_get columns c ≡ Some column → Kept column row c
kept [] row c column fit none is = absurd (none_some column is)
kept (d ∷ columns) [] c column fit none is = absurd (false_true fit)
kept (d ∷ columns) (v ∷ row) zero column fit none is =
    let same : d ≡ column = some_is d column is in
    let own : is_of d.ty v ≡ true = first_so (is_of d.ty v) (fits columns row) fit in
    record {
      x = v;
      is = refl;
      fit = ap (λ (k : Column). is_of k.ty v) (sym same) ∙ own;
      full = λ not_null. lacks_null d.is_not_null v (first_so (not (lacks d v)) (none_lacks columns row) none) (ap (λ (k : Column). k.is_not_null) same ∙ not_null);
    }
kept (d ∷ columns) (v ∷ row) (suc c) column fit none is =
    let rest = kept columns row c column (second_so (is_of d.ty v) (fits columns row) fit) (second_so (not (lacks d v)) (none_lacks columns row) none) is in
    record { x = rest.x; is = rest.is; fit = rest.fit; full = rest.full }

-- ---- what stands in the frame

last_row : (around : Frame) (row : Row) → slice_get (around ++ row ∷ []) (length around) ≡ Some row
last_row [] row = refl
last_row (r ∷ around) row = last_row around row

row_before : (around : Frame) (row found : Row) (r : ℕ) → slice_get around r ≡ Some found → slice_get (around ++ row ∷ []) r ≡ Some found
row_before [] row found r is = absurd (none_some found is)
row_before (x ∷ around) row found zero is = is
row_before (x ∷ around) row found (suc r) is = row_before around row found r is

cell_before : (around : Frame) (row : Row) (r c : ℕ) (v : Value) → cell around r c ≡ Some v → cell (around ++ row ∷ []) r c ≡ Some v
cell_before around row r c v is =
    (elim (slice_get around r) as (λ (o : Option Row). slice_get around r ≡ o → cell_in o c ≡ Some v → cell (around ++ row ∷ []) r c ≡ Some v) [
      | None ↦ λ e h. absurd (none_some v h)
      | Some found ↦ λ e h. ap (λ (o : Option Row). cell_in o c) (row_before around row found r e) ∙ h
    ]) refl is

-- a part of the row is the part that is asked for
abbrev pub HasPart : Row → ℕ → Value → Type 0
HasPart row c v = option_and_then part_of (slice_get row c) ≡ part_of v

-- what a test gives over a row
record Tested {W : Type 0} (calls : Calls W) (sub : Sub W) (around : Frame) (row : Row) (is_whole : Bool) (c : ℕ) (v : Value) (x : RExpr) : Type 0 where
  pub t : Option Bool
  pub gives : (w : W) → value calls sub x (around ++ row ∷ []) w ≡ got (truth_value t) w
  pub same : t ≡ Some true → HasPart row c v
  pub null : t ≡ None → is_whole ≡ true

module _ {W : Type 0} (calls : Calls W) (sub : Sub W) where
  constant_gives : (v : Value) (frame : Frame) (w : W) → value calls sub (e.Constant v) frame w ≡ got v w
  constant_gives v frame w = first_of (search (rules, the_lemmas), grind (arith, the_lemmas))

  place_gives : (row column : ℕ) (frame : Frame) (w : W) → value calls sub (e.Place row column) frame w ≡ got (or_null (cell frame row column)) w
  place_gives row column frame w = first_of (search (rules, the_lemmas), grind (arith, the_lemmas))

  binary_gives : (op : Operator) (a b : RExpr) (frame : Frame) (w : W) → value calls sub (e.Binary op (operands a b)) frame w ≡ two op (value calls sub a, value calls sub b) frame w
  binary_gives op a b frame w = first_of (search (rules, the_lemmas), grind (arith, the_lemmas))

  and_gives : (parts : List RExpr) (frame : Frame) (w : W) → value calls sub (e.And parts) frame w ≡ junction false (map (value calls sub) parts) frame w
  and_gives parts frame w = first_of (search (rules, the_lemmas), grind (arith, the_lemmas))

  module _ (around : Frame) (row : Row) where
    abbrev frame : Frame
    frame = around ++ row ∷ []

    fixed_gives : (y : RExpr) (v : Value) (w : W) → IsFixed around y v → value calls sub y frame w ≡ got v w
    fixed_gives y v w (inl is) = ap (λ (y : RExpr). value calls sub y frame w) is ∙ constant_gives v frame w
    fixed_gives y v w (inr (r, c, is, there)) =
        ap (λ (y : RExpr). value calls sub y frame w) is
        ∙ (place_gives r c frame w
        ∙ ap (λ (o : Option Value). got (or_null o) w) (cell_before around row r c v there))

    own_gives : (y : RExpr) (c : ℕ) (x : Value) (w : W) → y ≡ e.Place (length around) c → slice_get row c ≡ Some x → value calls sub y frame w ≡ got x w
    own_gives y c x w is there =
        ap (λ (y : RExpr). value calls sub y frame w) is
        ∙ (place_gives (length around) c frame w
        ∙ (ap (λ (o : Option Row). got (or_null (cell_in o c)) w) (last_row around row)
        ∙ ap (λ (o : Option Value). got (or_null o) w) there))

    both_give : (a b : RExpr) (x y : Value) (w : W) → value calls sub a frame w ≡ got x w → value calls sub b frame w ≡ got y w → value calls sub (e.Binary (Compare cmp.Equal) (operands a b)) frame w ≡ settled (equal x y) w
    both_give a b x y w first second =
        binary_gives (Compare cmp.Equal) a b frame w
        ∙ (ap (λ (r : Reading W Value). then_read {B = Value} r (λ x w. then_read {B = Value} (value calls sub b frame w) (λ y w. settled (equal x y) w))) first
        ∙ ap (λ (r : Reading W Value). then_read {B = Value} r (λ y w. settled (equal x y) w)) second)

    either_gives : (c : ℕ) (v x : Value) (a b : RExpr) (t : Option Bool) (w : W) → AreCompared around c v a b → slice_get row c ≡ Some x → equal x v ≡ Ok (truth_value t) → equal v x ≡ Ok (truth_value t)
        → value calls sub (e.Binary (Compare cmp.Equal) (operands a b)) frame w ≡ got (truth_value t) w
    either_gives c v x a b t w (inl is) there left right =
        both_give a b x v w (own_gives a c x w is.0 there) (fixed_gives b v w is.1) ∙ ap (λ (q : Answer). settled q w) left
    either_gives c v x a b t w (inr is) there left right =
        both_give a b v x w (fixed_gives a v w is.1) (own_gives b c x w is.0 there) ∙ ap (λ (q : Answer). settled q w) right

    module _ (columns : List Column) (fit : fits columns row ≡ true) (none : none_lacks columns row ≡ true) where
      whole_or_not : (is_whole : Bool) (column : Column) (x : Value) → (is_whole ≡ false → column.is_not_null ≡ true) → (column.is_not_null ≡ true → x ≡ made.Null → ⊥) → x ≡ made.Null → is_whole ≡ true
      whole_or_not true column x known full null = refl
      whole_or_not false column x known full null = absurd (full (known refl) null)

      tested : (is_whole : Bool) (c : ℕ) (v : Value) (x : RExpr) → IsTest is_whole around columns c v x → Tested calls sub around row is_whole c v x
      tested is_whole c v x test =
          let own = kept columns row c test.column fit none test.is in
          let both = told test.column.ty own.x v own.fit test.fits in
          let q = test.equality in
          record {
            t = both.t;
            gives = λ w. ap (λ (x : RExpr). value calls sub x frame w) q.is ∙ either_gives c v own.x q.first q.second both.t w q.compared own.is both.left both.right;
            same = λ h. ap (option_and_then part_of) own.is ∙ both.same h;
            null = λ h. whole_or_not is_whole test.column own.x test.known own.full (both.null h);
          }

      -- the parts of AND
      abbrev IsDown : List RExpr → Type 0
      IsDown parts = (w : W) → joined false (map (value calls sub) parts) (Some true) frame w ≡ got (Some false) w

      truth_gives : (x : RExpr) (t : Option Bool) (w : W) → value calls sub x frame w ≡ got (truth_value t) w → truth (value calls sub x) frame w ≡ got t w
      truth_gives x (Some b) w gives = ap (λ (r : Reading W Value). then_read {B = Option Bool} r (λ v w. settled (truth_of v) w)) gives
      truth_gives x None w gives = ap (λ (r : Reading W Value). then_read {B = Option Bool} r (λ v w. settled (truth_of v) w)) gives

      abbrev goes_on : List RExpr → Option Bool → W → Reading W (Option Bool)
      goes_on parts t w =
          if is_fixed false (joint false (Some true) t) then got (joint false (Some true) t) w
          else joined false (map (value calls sub) parts) (joint false (Some true) t) frame w

      part_gives : (x : RExpr) (parts : List RExpr) (t : Option Bool) (w : W) → value calls sub x frame w ≡ got (truth_value t) w → joined false (map (value calls sub) (x ∷ parts)) (Some true) frame w ≡ goes_on parts t w
      part_gives x parts t w gives = ap (λ (r : Reading W (Option Bool)). then_read {B = Option Bool} r (λ t w. goes_on parts t w)) (truth_gives x t w gives)

      first_is : (c : ℕ) (v : Value) (x : RExpr) (parts : List RExpr) (t : Option Bool) → ((w : W) → value calls sub x frame w ≡ got (truth_value t) w) → (t ≡ Some true → HasPart row c v) → (t ≡ None → (let b : Bool = false in b ≡ true))
          → HasPart row c v ⊎ IsDown (x ∷ parts)
      first_is c v x parts (Some true) gives same null = inl (same refl)
      first_is c v x parts (Some false) gives same null = inr (λ w. part_gives x parts (Some false) w (gives w))
      first_is c v x parts None gives same null = absurd (false_true (null refl))

      later_is : (c : ℕ) (v : Value) (x : RExpr) (parts : List RExpr) (t : Option Bool) → ((w : W) → value calls sub x frame w ≡ got (truth_value t) w) → (t ≡ None → (let b : Bool = false in b ≡ true))
          → HasPart row c v ⊎ IsDown parts → HasPart row c v ⊎ IsDown (x ∷ parts)
      later_is c v x parts t gives null (inl has) = inl has
      later_is c v x parts (Some true) gives null (inr down) = inr (λ w. part_gives x parts (Some true) w (gives w) ∙ down w)
      later_is c v x parts (Some false) gives null (inr down) = inr (λ w. part_gives x parts (Some false) w (gives w))
      later_is c v x parts None gives null (inr down) = absurd (false_true (null refl))

      begins : (c : ℕ) (v : Value) (parts : List RExpr) → Begins around columns c v parts → HasPart row c v ⊎ IsDown parts
      begins c v [] is = absurd is
      begins c v (x ∷ parts) (inl test) = let r = tested false c v x test in first_is c v x parts r.t r.gives r.same r.null
      begins c v (x ∷ parts) (inr (d, u, test, later)) = let r = tested false d u x test in later_is c v x parts r.t r.gives r.null (begins c v parts later)

      -- the whole condition turns the row down
      abbrev pub TurnsDown : RExpr → Type 0
      TurnsDown x = (w : W) → passes (value calls sub x) frame w ≡ got false w

      whole_is : (c : ℕ) (v : Value) (x : RExpr) (t : Option Bool) → ((w : W) → value calls sub x frame w ≡ got (truth_value t) w) → (t ≡ Some true → HasPart row c v) → HasPart row c v ⊎ TurnsDown x
      whole_is c v x (Some true) gives same = inl (same refl)
      whole_is c v x (Some false) gives same = inr (λ w. ap (λ (r : Reading W Value). then_read {B = Bool} r (λ v w. settled (passed v) w)) (gives w))
      whole_is c v x None gives same = inr (λ w. ap (λ (r : Reading W Value). then_read {B = Bool} r (λ v w. settled (passed v) w)) (gives w))

      and_is : (c : ℕ) (v : Value) (x : RExpr) (parts : List RExpr) → x ≡ e.And parts → HasPart row c v ⊎ IsDown parts → HasPart row c v ⊎ TurnsDown x
      and_is c v x parts is (inl has) = inl has
      and_is c v x parts is (inr down) =
          inr (λ w. ap (λ (r : Reading W Value). then_read {B = Bool} r (λ v w. settled (passed v) w)) (ap (λ (x : RExpr). value calls sub x frame w) is
          ∙ (and_gives parts frame w
          ∙ ap (λ (r : Reading W (Option Bool)). then_read {B = Value} r (λ t w. got (truth_value t) w)) (down w))))

      asked : (c : ℕ) (v : Value) (x : RExpr) → Asks around columns x c v → HasPart row c v ⊎ TurnsDown x
      asked c v x (inl test) = let r = tested true c v x test in whole_is c v x r.t r.gives r.same
      asked c v x (inr (parts, is, front)) = and_is c v x parts is (begins c v parts front)

      -- ---- keys

      null_or : (c : ℕ) (v : Value) (x : RExpr) (part : Part) → part_of v ≡ Some part → (v ≡ made.Null) ⊎ Asks around columns x c v → HasPart row c v ⊎ TurnsDown x
      null_or c v x part some (inl is) = absurd (none_some part (sym (ap part_of is) ∙ some))
      null_or c v x part some (inr asks) = asked c v x asks

      both_there : (p : Option Part) (ps : Option (List Part)) (parts : List Part) → before p ps ≡ Some parts → (q : Part) × (qs : List Part) × (p ≡ Some q) × (ps ≡ Some qs)
      both_there (Some q) (Some qs) parts is = (q, qs, refl, refl)
      both_there (Some q) None parts is = absurd (none_some parts is)
      both_there None ps parts is = absurd (none_some parts is)

      value_there : (o : Option Value) (q : Part) → option_and_then part_of o ≡ Some q → (v : Value) × (o ≡ Some v) × (part_of v ≡ Some q)
      value_there None q is = absurd (none_some q is)
      value_there (Some v) q is = (v, refl, is)

      with_part : (c : ℕ) (cs : List ℕ) (v : Value) (x : RExpr) (q : Part) (qs : List Part) → part_of v ≡ Some q → HasPart row c v ⊎ TurnsDown x → (key_of cs row ≡ Some qs) ⊎ TurnsDown x → (key_of (c ∷ cs) row ≡ Some (q ∷ qs)) ⊎ TurnsDown x
      with_part c cs v x q qs some (inr down) rest = inr down
      with_part c cs v x q qs some (inl has) (inr down) = inr down
      with_part c cs v x q qs some (inl has) (inl rest) =
          inl (ap (λ (p : Option Part). before p (key_of cs row)) (has ∙ some) ∙ ap (λ (ps : Option (List Part)). before (Some q) ps) rest)

      -- the row has the key that is asked for, or is turned down
      pub keyed : (cs : List ℕ) (x : RExpr) (values : Row) (parts : List Part) → AreAsked around columns x values → key_of cs values ≡ Some parts → (key_of cs row ≡ Some parts) ⊎ TurnsDown x
      keyed [] x values parts asks is = inl is
      keyed (c ∷ cs) x values parts asks is =
          let both = both_there (option_and_then part_of (slice_get values c)) (key_of cs values) parts is in
          let there = value_there (slice_get values c) both.0 both.2 in
          let same : (let o : Option (List Part) = Some (both.0 ∷ both.1) in o ≡ Some parts) = sym (ap (λ (p : Option Part). before p (key_of cs values)) both.2 ∙ ap (λ (ps : Option (List Part)). before (Some both.0) ps) both.3) ∙ is in
          subst (λ (o : Option (List Part)). (key_of (c ∷ cs) row ≡ o) ⊎ TurnsDown x) same
          (with_part c cs there.0 x both.0 both.1 there.2 (null_or c there.0 x both.0 there.2 (asks c there.0 there.1)) (keyed cs x values both.1 asks both.3))
