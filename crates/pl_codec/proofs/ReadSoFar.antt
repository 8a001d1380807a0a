-- What was read so far.
use Rattle.std.proofs.Common.{◌≡◌, ◌&&◌, ◌<◌, ◌≤◌, ◌+◌, ◌++◌, ◌∷◌, [], ℕ, zero, suc, List, length, Bool, true, false, Option, Some, None, refl, sym, ap, ◌∙◌, arith, append_assoc, length-append}
use Rattle.std.specs.Prelude.{option_and_then, option_map}
use Rattle.std.specs.List.{flat_map, list_all}
use Rattle.std.proofs.lemmas.Grind.{flat_map-append}
use Rattle.std.proofs.lemmas.List.{append-nil}
use Rattle.pl_base.specs.declared.operation.Op.{Op}
use Rattle.pl_base.specs.declared.value.Value.{Value}
use Rattle.pl_codec.specs.Spelling.{op_bytes, is_stored_op}
use Rattle.pl_codec.specs.Reading.{Front, value_front, values_front, op_front, ops_within, operations_of}
use Rattle.pl_codec.proofs.ReadsBack.{kind_of, within_step}

module _ {T : Type 0} (spelling : T → List ℕ) (is_stored : T → Bool) where
  -- these stand in front of what is left, each spelled
  pub record Taken (old : List ℕ) (xs : List T) (left : List ℕ) : Type 0 where
    pub split : old ≡ flat_map spelling xs ++ left
    pub stored : list_all is_stored xs ≡ true

  pub nothing_taken : (old : List ℕ) → Taken old [] old
  nothing_taken old = record { split = refl; stored = refl }

  all_push : (xs : List T) (x : T) → list_all is_stored xs ≡ true → is_stored x ≡ true → list_all is_stored (xs ++ x ∷ []) ≡ true
  all_push [] x each is = ap (λ (b : Bool). b && true) is
  all_push (y ∷ xs) x each is =
      (elim (is_stored y) as (λ (b : Bool). (b && list_all is_stored xs) ≡ true → (b && list_all is_stored (xs ++ x ∷ [])) ≡ true)
      [ true ↦ λ h. all_push xs x h is | false ↦ λ h. h ]) each

  pub one_taken : (old : List ℕ) (xs : List T) (left : List ℕ) (x : T) (rest : List ℕ) → Taken old xs left → left ≡ spelling x ++ rest → is_stored x ≡ true → Taken old (xs ++ x ∷ []) rest
  one_taken old xs left x rest was is stored = record {
    split = was.split ∙ ap (λ (l : List ℕ). flat_map spelling xs ++ l) is ∙ sym (append_assoc (flat_map spelling xs) (spelling x) rest)
        ∙ ap (λ (l : List ℕ). l ++ rest) (ap (λ (l : List ℕ). flat_map spelling xs ++ l) (sym (append-nil (spelling x))) ∙ sym (flat_map-append spelling xs (x ∷ [])));
    stored = all_push xs x was.stored stored;
  }

-- ---- values

abbrev pub before : List Value → Front (List Value) → Front (List Value)
before vs o = option_map (λ p. (vs ++ p.0, p.1)) o

abbrev and_others : Value → Front (List Value) → Front (List Value)
and_others v o = option_and_then (λ others. let q : Front (List Value) = Some (v ∷ others.0, others.1) in q) o

abbrev first_of_more : ℕ → Front Value → Front (List Value)
first_of_more more o = option_and_then (λ first. and_others first.0 (values_front more first.1)) o

before_none : (o : Front (List Value)) → o ≡ before [] o
before_none None = refl
before_none (Some p) = refl

before_one : (vs : List Value) (v : Value) (o : Front (List Value)) → before vs (and_others v o) ≡ before (vs ++ v ∷ []) o
before_one vs v None = refl
before_one vs v (Some p) = ap (λ (l : List Value). let q : Front (List Value) = Some (l, p.1) in q) (sym (append_assoc vs (v ∷ []) p.0))

pub record Values (old : List ℕ) (count : ℕ) (vs : List Value) (left : List ℕ) : Type 0 where
  pub more : ℕ
  pub counted : length vs + more ≡ count
  pub read : values_front count old ≡ before vs (values_front more left)

pub no_values : (old : List ℕ) (count : ℕ) → Values old count [] old
no_values old count = record { more = count; counted = omega arith; read = before_none (values_front count old) }

one_less : (n : ℕ) → 0 < n → (m : ℕ) × (n ≡ suc m)
one_less zero low = absurd (omega (arith, low))
one_less (suc m) low = (m, refl)

module _ (old : List ℕ) (count : ℕ) (vs : List Value) (left : List ℕ) (was : Values old count vs left) (going : length vs < count) where
  some_more : (m : ℕ) × (was.more ≡ suc m)
  some_more = one_less was.more (omega (arith, going, was.counted))

  next : (o : Front Value) → value_front left ≡ o → values_front count old ≡ before vs (first_of_more some_more.0 o)
  unfolding values_front
  next o is = was.read ∙ ap (λ (n : ℕ). before vs (values_front n left)) some_more.1 ∙ ap (λ (o : Front Value). before vs (first_of_more some_more.0 o)) is

  pub bad_value : value_front left ≡ None → values_front count old ≡ None
  bad_value is = next None is

  pub one_value : (v : Value) (rest : List ℕ) → value_front left ≡ Some (v, rest) → Values old count (vs ++ v ∷ []) rest
  one_value v rest is = record {
    more = some_more.0;
    counted = omega (arith, was.counted, some_more.1, length-append vs (v ∷ []));
    read = next (Some (v, rest)) is ∙ before_one vs v (values_front some_more.0 rest);
  }

pub all_values : (old : List ℕ) (count : ℕ) (vs : List Value) (left : List ℕ) → Values old count vs left → length vs ≡ count → values_front count old ≡ Some (vs, left)
unfolding values_front
all_values old count vs left was is =
    let none : was.more ≡ 0 = omega (arith, was.counted, is) in
    was.read ∙ ap (λ (n : ℕ). before vs (values_front n left)) none ∙ ap (λ (l : List Value). let q : Front (List Value) = Some (l, left) in q) (append-nil vs)

-- ---- operations

abbrev pub onto : List Op → Option (List Op) → Option (List Op)
onto ops o = option_map (λ others. ops ++ others) o

abbrev and_more : Op → Option (List Op) → Option (List Op)
and_more op o = option_and_then (λ others. let q : Option (List Op) = Some (op ∷ others) in q) o

onto_none : (o : Option (List Op)) → o ≡ onto [] o
onto_none None = refl
onto_none (Some others) = refl

onto_one : (ops : List Op) (op : Op) (o : Option (List Op)) → onto ops (and_more op o) ≡ onto (ops ++ op ∷ []) o
onto_one ops op None = refl
onto_one ops op (Some others) = ap (λ (l : List Op). let q : Option (List Op) = Some l in q) (sym (append_assoc ops (op ∷ []) others))

pub record Operations (payload : List ℕ) (ops : List Op) (left : List ℕ) : Type 0 where
  pub more : ℕ
  pub enough : length left ≤ more
  pub read : operations_of payload ≡ onto ops (ops_within more left)

pub no_operations : (payload : List ℕ) → Operations payload [] payload
unfolding operations_of
no_operations payload = record { more = length payload; enough = omega arith; read = onto_none (ops_within (length payload) payload) }

within_bad : (more byte : ℕ) (bytes : List ℕ) → op_front (byte ∷ bytes) ≡ None → ops_within (suc more) (byte ∷ bytes) ≡ None
unfolding ops_within
within_bad more byte bytes is =
    ap (λ (o : Front Op). option_and_then (λ first. and_more first.0 (ops_within more first.1)) o) is

pub bad_operation : (payload : List ℕ) (ops : List Op) (left : List ℕ) → Operations payload ops left → 0 < length left → op_front left ≡ None → operations_of payload ≡ None
bad_operation payload ops [] was some is = absurd (omega (arith, some))
bad_operation payload ops (byte ∷ bytes) was some is =
    let less = one_less was.more (omega (arith, some, was.enough)) in
    was.read ∙ ap (λ (n : ℕ). onto ops (ops_within n (byte ∷ bytes))) less.1 ∙ ap (onto ops) (within_bad less.0 byte bytes is)

pub one_operation : (payload : List ℕ) (ops : List Op) (left : List ℕ) (op : Op) (rest : List ℕ) → Operations payload ops left → left ≡ op_bytes op ++ rest → op_front left ≡ Some (op, rest)
    → Operations payload (ops ++ op ∷ []) rest
one_operation payload ops left op rest was split is =
    let kind = kind_of op in
    let sized = length-append (op_bytes op) rest in
    let here : left ≡ kind.0 ∷ (kind.1 ++ rest) = split ∙ ap (λ (l : List ℕ). l ++ rest) kind.2 in
    let less = one_less was.more (omega (arith, was.enough, ap length here)) in
    record {
      more = less.0;
      enough = omega (arith, was.enough, less.1, ap length split, sized, ap length kind.2);
      read = was.read ∙ ap (λ (n : ℕ). onto ops (ops_within n left)) less.1 ∙ ap (λ (l : List ℕ). onto ops (ops_within (suc less.0) l)) here
          ∙ ap (onto ops) (within_step less.0 kind.0 (kind.1 ++ rest) op rest (ops_within less.0 rest) (ap op_front (sym here) ∙ is) refl)
          ∙ onto_one ops op (ops_within less.0 rest);
    }

-- an operation takes some bytes
pub shorter : (left : List ℕ) (op : Op) (rest : List ℕ) → left ≡ op_bytes op ++ rest → length rest < length left
shorter left op rest split =
    let kind = kind_of op in
    omega (arith, ap length split, length-append (op_bytes op) rest, ap length kind.2)

at_end : (more : ℕ) → (let q : Option (List Op) = Some [] in ops_within more [] ≡ q)
unfolding ops_within
at_end zero = refl
at_end (suc more) = refl

pub all_operations : (payload : List ℕ) (ops : List Op) (left : List ℕ) → Operations payload ops left → length left ≤ 0 → operations_of payload ≡ Some ops
all_operations payload ops (byte ∷ bytes) was none = absurd (omega (arith, none))
all_operations payload ops [] was none =
    was.read ∙ ap (onto ops) (at_end was.more) ∙ ap (λ (l : List Op). let q : Option (List Op) = Some l in q) (append-nil ops)

pub all_spelled : (payload : List ℕ) (ops : List Op) (left : List ℕ) → Taken op_bytes is_stored_op payload ops left → length left ≤ 0 → payload ≡ flat_map op_bytes ops
all_spelled payload ops (byte ∷ bytes) was none = absurd (omega (arith, none))
all_spelled payload ops [] was none = was.split ∙ append-nil (flat_map op_bytes ops)
