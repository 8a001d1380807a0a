-- Parts that are written are read back, whatever stands behind them.
use Rattle.std.proofs.Common.{◌≡◌, ◌&&◌, ◌<◌, ◌≤◌, ◌^◌, ◌++◌, ◌∷◌, [], ℕ, zero, suc, ℤ, List, length, Bool, true, false, cond, Option, Some, None, nat_le, nat_lt, Fits, FitsSigned, refl, sym, ap, ◌∙◌, arith, append_assoc, length-append}
use Rattle.std.specs.Prelude.{option_and_then}
use Rattle.std.specs.Int.{to_be_bytes, from_be_bytes, w32, w64, cast_unsigned, cast_signed}
use Rattle.std.specs.List.{flat_map}
use Rattle.std.proofs.lemmas.Nat.{from_be_bytes-to_be_bytes_4, from_be_bytes-to_be_bytes_8}
use Rattle.std.proofs.lemmas.Bool.Decides.{nat_tests}
use Rattle.std.proofs.lemmas.Int.{to_z-of_z}
use Rattle.std.proofs.lemmas.List.{take_at, drop_at, append-nil}
use Rattle.std.proofs.Math.Facts.{Fits-of_z}
use Rattle.pl_base.specs.declared.operation.Op.{Op}
use Rattle.pl_base.specs.declared.operation.Op.TheVariants.{Define, Put, Remove, Next}
use Rattle.pl_base.specs.declared.value.Value.{Value}
use Rattle.pl_base.specs.declared.value.Value.TheVariants as value
use Rattle.pl_codec.specs.Spelling.{is_text, is_define_text, is_table_name, is_row_id, text_bytes, name_bytes, value_bytes, op_bytes, ops_bytes}
use Rattle.pl_codec.specs.Reading.{Front, byte_front, bytes_front, front_32, front_64, row_id_front, text_front, name_front, value_front, values_front, op_front, ops_within, operations_of}
use Rattle.pl_codec.specs.ReadBack.{ValueReadsBack, ValuesReadBack, OpReadsBack}

both_left : (a b : Bool) → (a && b) ≡ true → a ≡ true
both_left true b is = refl
both_left false b is = is

both_right : (a b : Bool) → (a && b) ≡ true → b ≡ true
both_right true b is = is
both_right false b is = cc

at_most : (a b : ℕ) → a ≤ b → nat_le a b ≡ true
at_most a b is = grind (arith, nat_tests)

below_of : (a b : ℕ) → nat_lt a b ≡ true → a < b
below_of a b is = grind (arith, nat_tests)

if_so : {T : Type 0} (b : Bool) (x : Option T) → b ≡ true → cond b x None ≡ x
if_so b x is = ap (λ (t : Bool). cond t x None) is

bytes_back : (xs rest : List ℕ) (count : ℕ) → length xs ≡ count → bytes_front count (xs ++ rest) ≡ Some (xs, rest)
unfolding bytes_front
bytes_back xs rest count is =
    if_so (nat_le count (length (xs ++ rest))) _ (at_most count (length (xs ++ rest)) (omega (arith, is, length-append xs rest)))
    ∙ (λ i. Some (take_at xs rest count is i, drop_at xs rest count is i))

pub number_back_32 : (number : ℕ) → number < 2 ^ 32 → (rest : List ℕ) → front_32 (to_be_bytes w32 number ++ rest) ≡ Some (number, rest)
unfolding front_32
number_back_32 number small rest =
    ap (λ (o : Front (List ℕ)). option_and_then (λ p. let q : Front ℕ = Some (from_be_bytes w32 p.0, p.1) in q) o) (bytes_back (to_be_bytes w32 number) rest 4 refl)
    ∙ ap (λ (n : ℕ). let q : Front ℕ = Some (n, rest) in q) (from_be_bytes-to_be_bytes_4 number small)

pub number_back_64 : (number : ℕ) → number < 2 ^ 64 → (rest : List ℕ) → front_64 (to_be_bytes w64 number ++ rest) ≡ Some (number, rest)
unfolding front_64
number_back_64 number small rest =
    ap (λ (o : Front (List ℕ)). option_and_then (λ p. let q : Front ℕ = Some (from_be_bytes w64 p.0, p.1) in q) o) (bytes_back (to_be_bytes w64 number) rest 8 refl)
    ∙ ap (λ (n : ℕ). let q : Front ℕ = Some (n, rest) in q) (from_be_bytes-to_be_bytes_8 number small)

row_id_small : (id : ℕ) → is_row_id id ≡ true → id < 2 ^ 64
row_id_small id is = let small : id < 2 ^ 63 = below_of id (2 ^ 63) (both_right (nat_lt 0 id) (nat_lt id (2 ^ 63)) is) in omega arith

row_id_back : (id : ℕ) → is_row_id id ≡ true → (rest : List ℕ) → row_id_front (to_be_bytes w64 id ++ rest) ≡ Some (id, rest)
unfolding row_id_front
row_id_back id is rest =
    ap (λ (o : Front ℕ). option_and_then (λ p. let q : Front ℕ = cond (is_row_id p.0) (Some p) None in q) o) (number_back_64 id (row_id_small id is) rest)
    ∙ if_so (is_row_id id) (Some (id, rest)) is

checked_text : Front (List ℕ) → Front (List ℕ)
checked_text o = option_and_then (λ p. cond (is_text p.0) (Some p) None) o

text_back : (text : List ℕ) → is_define_text text ≡ true → (rest : List ℕ) → text_front (text_bytes text ++ rest) ≡ Some (text, rest)
unfolding text_front checked_text
text_back text is rest =
    let small : length text < 2 ^ 32 = below_of (length text) (2 ^ 32) (both_right (is_text text) (nat_lt (length text) (2 ^ 32)) is) in
    ap text_front (append_assoc (to_be_bytes w32 (length text)) text rest)
    ∙ ap (λ (o : Front ℕ). option_and_then (λ size. checked_text (bytes_front size.0 size.1)) o) (number_back_32 (length text) small (text ++ rest))
    ∙ ap checked_text (bytes_back text rest (length text) refl)
    ∙ if_so (is_text text) (Some (text, rest)) (both_left (is_text text) (nat_lt (length text) (2 ^ 32)) is)

name_back : (name : List ℕ) → is_table_name name ≡ true → (rest : List ℕ) → name_front (name_bytes name ++ rest) ≡ Some (name, rest)
unfolding name_front
name_back name is rest =
    ap (λ (o : Front (List ℕ)). option_and_then (λ p. let q : Front (List ℕ) = cond (is_table_name p.0) (Some p) None in q) o) (bytes_back name rest (length name) refl)
    ∙ if_so (is_table_name name) (Some (name, rest)) is

-- ---- values

pub null_back : ValueReadsBack value.Null
unfolding value_front
null_back rest = refl

pub truth_back : (truth : Bool) → ValueReadsBack (value.Bool truth)
unfolding value_front
truth_back true rest = refl
truth_back false rest = refl

pub int_back : (number : ℤ) → FitsSigned w32 number → ValueReadsBack (value.Int number)
unfolding value_front
int_back number fits rest =
    let bits = cast_unsigned w32 number in
    let small : Fits w32 bits = Fits-of_z fits in
    ap (λ (o : Front ℕ). option_and_then (λ p. let q : Front Value = Some (value.Int (cast_signed w32 p.0), p.1) in q) o) (number_back_32 bits (omega (arith, small)) rest)
    ∙ ap (λ (n : ℤ). let q : Front Value = Some (value.Int n, rest) in q) (to_z-of_z w32 number fits)

pub big_back : (number : ℤ) → FitsSigned w64 number → ValueReadsBack (value.Big number)
unfolding value_front
big_back number fits rest =
    let bits = cast_unsigned w64 number in
    let small : Fits w64 bits = Fits-of_z fits in
    ap (λ (o : Front ℕ). option_and_then (λ p. let q : Front Value = Some (value.Big (cast_signed w64 p.0), p.1) in q) o) (number_back_64 bits (omega (arith, small)) rest)
    ∙ ap (λ (n : ℤ). let q : Front Value = Some (value.Big n, rest) in q) (to_z-of_z w64 number fits)

pub text_value_back : (text : List ℕ) → is_define_text text ≡ true → ValueReadsBack (value.Text text)
unfolding value_front
text_value_back text is rest =
    ap (λ (o : Front (List ℕ)). option_and_then (λ p. let q : Front Value = Some (value.Text p.0, p.1) in q) o) (text_back text is rest)

-- each of them is read back
abbrev pub EachValue : List Value → Type 0
EachValue [] = Unit {0}
EachValue (v ∷ vs) = ValueReadsBack v × EachValue vs

pub one_value_more : (vs : List Value) (v : Value) → EachValue vs → ValueReadsBack v → EachValue (vs ++ v ∷ [])
one_value_more [] v each is = (is, tt)
one_value_more (x ∷ vs) v each is = (each.0, one_value_more vs v each.1 is)

pub values_back : (vs : List Value) → EachValue vs → ValuesReadBack vs
unfolding values_front
values_back [] each rest = refl
values_back (v ∷ vs) each rest =
    let behind = flat_map value_bytes vs ++ rest in
    let F : Front Value → Front (List Value) = λ o. option_and_then (λ first. option_and_then (λ others. let q : Front (List Value) = Some (first.0 ∷ others.0, others.1) in q) (values_front (length vs) first.1)) o in
    ap (λ (l : List ℕ). F (value_front l)) (append_assoc (value_bytes v) (flat_map value_bytes vs) rest)
    ∙ ap F (each.0 behind)
    ∙ ap (λ (o : Front (List Value)). option_and_then (λ others. let q : Front (List Value) = Some (v ∷ others.0, others.1) in q) o) (values_back vs each.1 rest)

-- ---- operations

pub define_back : (text : List ℕ) → is_define_text text ≡ true → OpReadsBack (Define text)
unfolding op_front
define_back text is rest =
    ap (λ (o : Front (List ℕ)). option_and_then (λ p. let q : Front Op = Some (Define p.0, p.1) in q) o) (text_back text is rest)

module _ (table : List ℕ) (named : is_table_name table ≡ true) (number : ℕ) (small : number < 2 ^ 64) (rest : List ℕ) where
  bytes : List ℕ
  bytes = name_bytes table ++ to_be_bytes w64 number

  named_number : (make : List ℕ → ℕ → Op) → option_and_then (λ t. option_and_then (λ n. let q : Front Op = Some (make t.0 n.0, n.1) in q) (front_64 t.1)) (name_front ((name_bytes table ++ to_be_bytes w64 number) ++ rest)) ≡ Some (make table number, rest)
  named_number make =
      let G : List ℕ → Front ℕ → Front Op = λ t o. option_and_then (λ n. let q : Front Op = Some (make t n.0, n.1) in q) o in
      let F : Front (List ℕ) → Front Op = λ o. option_and_then (λ t. G t.0 (front_64 t.1)) o in
      ap (λ (l : List ℕ). F (name_front l)) (append_assoc (name_bytes table) (to_be_bytes w64 number) rest)
      ∙ ap F (name_back table named (to_be_bytes w64 number ++ rest))
      ∙ ap (G table) (number_back_64 number small rest)

pub remove_back : (table : List ℕ) → is_table_name table ≡ true → (id : ℕ) → id < 2 ^ 64 → OpReadsBack (Remove table id)
unfolding op_front
remove_back table named id small rest = named_number table named id small rest (λ t n. Remove t n)

pub next_back : (table : List ℕ) → is_table_name table ≡ true → (next : ℕ) → next < 2 ^ 64 → OpReadsBack (Next table next)
unfolding op_front
next_back table named next small rest = named_number table named next small rest (λ t n. Next t n)

pub put_back : (table : List ℕ) → is_table_name table ≡ true → (id : ℕ) → is_row_id id ≡ true → (row : List Value) → ValuesReadBack row → OpReadsBack (Put table id row)
unfolding op_front
put_back table named id numbered row back rest =
    let cells = flat_map value_bytes row in
    let tail = length row ∷ cells in
    let number = to_be_bytes w64 id in
    let V : List ℕ → ℕ → Front (List Value) → Front Op = λ t n o. option_and_then (λ r. let q : Front Op = Some (Put t n r.0, r.1) in q) o in
    let C : List ℕ → ℕ → Front ℕ → Front Op = λ t n o. option_and_then (λ c. V t n (values_front c.0 c.1)) o in
    let I : List ℕ → Front ℕ → Front Op = λ t o. option_and_then (λ n. C t n.0 (byte_front n.1)) o in
    let F : Front (List ℕ) → Front Op = λ o. option_and_then (λ t. I t.0 (row_id_front t.1)) o in
    ap (λ (l : List ℕ). F (name_front l)) (append_assoc (name_bytes table) (number ++ tail) rest)
    ∙ ap F (name_back table named ((number ++ tail) ++ rest))
    ∙ ap (λ (l : List ℕ). I table (row_id_front l)) (append_assoc number tail rest)
    ∙ ap (I table) (row_id_back id numbered (tail ++ rest))
    ∙ ap (V table id) (back rest)

abbrev pub EachOp : List Op → Type 0
EachOp [] = Unit {0}
EachOp (op ∷ ops) = OpReadsBack op × EachOp ops

pub one_op_more : (ops : List Op) (op : Op) → EachOp ops → OpReadsBack op → EachOp (ops ++ op ∷ [])
one_op_more [] op each is = (is, tt)
one_op_more (x ∷ ops) op each is = (each.0, one_op_more ops op each.1 is)

-- an operation's bytes begin with its kind
pub kind_of : (op : Op) → (kind : ℕ) × (tail : List ℕ) × (op_bytes op ≡ kind ∷ tail)
kind_of (Define text) = (1, text_bytes text, refl)
kind_of (Put table id row) = (2, name_bytes table ++ (to_be_bytes w64 id ++ length row ∷ flat_map value_bytes row), refl)
kind_of (Remove table id) = (3, name_bytes table ++ to_be_bytes w64 id, refl)
kind_of (Next table next) = (4, name_bytes table ++ to_be_bytes w64 next, refl)

pub within_step : (more kind : ℕ) (tail : List ℕ) (op : Op) (rest : List ℕ) (others : Option (List Op)) → op_front (kind ∷ tail) ≡ Some (op, rest) → ops_within more rest ≡ others
    → ops_within (suc more) (kind ∷ tail) ≡ option_and_then (λ o. let q : Option (List Op) = Some (op ∷ o) in q) others
unfolding ops_within
within_step more kind tail op rest others is behind =
    ap (λ (o : Front Op). option_and_then (λ first. option_and_then (λ o. let q : Option (List Op) = Some (first.0 ∷ o) in q) (ops_within more first.1)) o) is
    ∙ ap (λ (o : Option (List Op)). option_and_then (λ o. let q : Option (List Op) = Some (op ∷ o) in q) o) behind

ops_back : (ops : List Op) → EachOp ops → (more : ℕ) → length (ops_bytes ops) ≤ more → ops_within more (ops_bytes ops) ≡ Some ops
unfolding ops_within
ops_back [] each zero few = refl
ops_back [] each (suc more) few = refl
ops_back (op ∷ ops) each zero few =
    let kind = kind_of op in
    absurd (omega (arith, few, length-append (op_bytes op) (ops_bytes ops), ap length kind.2))
ops_back (op ∷ ops) each (suc more) few =
    let kind = kind_of op in
    let is : op_bytes op ++ ops_bytes ops ≡ kind.0 ∷ (kind.1 ++ ops_bytes ops) = ap (λ (l : List ℕ). l ++ ops_bytes ops) kind.2 in
    let fewer : length (ops_bytes ops) ≤ more = omega (arith, few, length-append (op_bytes op) (ops_bytes ops), ap length kind.2) in
    ap (ops_within (suc more)) is
    ∙ within_step more kind.0 (kind.1 ++ ops_bytes ops) op (ops_bytes ops) (Some ops) (ap op_front (sym is) ∙ each.0 (ops_bytes ops)) (ops_back ops each.1 more fewer)

pub all_back : (ops : List Op) → EachOp ops → operations_of (ops_bytes ops) ≡ Some ops
unfolding operations_of
all_back ops each = ops_back ops each (length (ops_bytes ops)) (omega arith)

pub one_back : (op : Op) → OpReadsBack op → operations_of (op_bytes op) ≡ Some (op ∷ [])
one_back op is = ap operations_of (sym (append-nil (op_bytes op))) ∙ all_back (op ∷ []) (is, tt)
