-- Values one behind another, as the code reads them.
use Rattle.std.proofs.Common.{◌≡◌, ◌<◌, ◌+◌, ◌∙◌, ℕ, suc, List, [], ◌∷◌, ◌++◌, ap, add-one, arith, drop, drop-cons, get_or, length, map, refl, sym}
use Rattle.pl_base.specs.declared.value.Value.{Value}
use Rattle.pl_resolved.specs.declared.expression.RExpr.{RExpr}
use Rattle.pl_value.specs.Frames.{Frame}
use Rattle.pl_value.specs.Meaning.{Calls, Sub, value, values}
use Rattle.pl_value.specs.Reading.{Reading, got, then_read}

front : {A : Type 0} (xs : List A) (i : ℕ) (x : A) → i < length xs → x ≡ get_or xs i x → drop i xs ≡ x ∷ drop (i + 1) xs
front xs i x lt is = rw (add-one, drop-cons xs i x lt, ← is) refl

module _ {W : Type 0} (calls : Calls W) (sub : Sub W) (frame : Frame) (w : W) where
  abbrev left : List RExpr → List Value → Reading W (List Value)
  left list done = values (map (value calls sub) list) done frame w

  -- one more was read
  pub values_on : {whole : Reading W (List Value)} (list : List RExpr) (i : ℕ) (x : RExpr) (done next : List Value) (v : Value) → i < length list → x ≡ get_or list i x
      → whole ≡ left (drop i list) done → value calls sub x frame w ≡ got v w → next ≡ done ++ v ∷ [] → whole ≡ left (drop (i + 1) list) next
  values_on list i x done next v lt is reads one same =
      reads
      ∙ (ap (λ (ys : List RExpr). left ys done) (front list i x lt is)
      ∙ (ap (λ (q : Reading W Value). then_read q (λ v w. values (map (value calls sub) (drop (i + 1) list)) (done ++ v ∷ []) frame w)) one
      ∙ ap (λ (vs : List Value). left (drop (i + 1) list) vs) (sym same)))

longer : (read : List Value) (v : Value) → length (read ++ v ∷ []) ≡ suc (length read)
longer [] v = refl
longer (x ∷ xs) v = ap (λ (n : ℕ). suc n) (longer xs v)

-- as many were read as there are, with those that are left
pub counted_on : (read next : List Value) (v : Value) (left fewer total : ℕ) → next ≡ read ++ v ∷ [] → left ≡ suc fewer → length read + left ≡ total → length next + fewer ≡ total
counted_on read next v left fewer total same less before =
    let more : length next ≡ suc (length read) = ap (λ (vs : List Value). length vs) same ∙ longer read v in
    omega (arith, more, less, before)

pub counted_all : (read : List Value) (left : List RExpr) (total : ℕ) → left ≡ [] → length read + length left ≡ total → length read ≡ total
counted_all read left total none before =
    let no : length left ≡ 0 = ap (λ (xs : List RExpr). length xs) none in
    omega (arith, no, before)

pub one_fewer : (list : List RExpr) (i : ℕ) (x : RExpr) → i < length list → x ≡ get_or list i x → length (drop i list) ≡ suc (length (drop (i + 1) list))
one_fewer list i x lt is = ap (λ (ys : List RExpr). length ys) (front list i x lt is)
