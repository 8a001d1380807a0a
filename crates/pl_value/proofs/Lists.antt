-- The variants that hold lists, and the other kinds of the tree, one equation each.
use Rattle.std.proofs.Common.{◌≡◌, ◌<◌, ◌+◌, refl, sym, ap, ◌∙◌, ℕ, true, false, List, ◌∷◌, map, drop, get_or, length, add-one, drop-cons, rules, arith}
use Rattle.pl_base.specs.declared.operator.Operator.{Operator}
use Rattle.pl_base.specs.declared.value.Value.{Value}
use Rattle.pl_base.specs.declared.types.Ty.{Ty}
use Rattle.pl_resolved.specs.declared.expression.Combination.{Combination}
use Rattle.pl_resolved.specs.declared.expression.RExpr.{RExpr, the_lemmas}
use Rattle.pl_resolved.specs.declared.expression.RExpr.TheVariants as e
use Rattle.pl_resolved.specs.declared.expression.RPair.{RPair}
use Rattle.pl_resolved.specs.declared.expression.RStep.{RStep}
use Rattle.pl_value.specs.Combined.{combined, row_value}
use Rattle.pl_value.specs.Frames.{Frame}
use Rattle.pl_value.specs.Meaning.{Calls, Sub, Step, value, pair, two, all_of, junction, step_read, steps_read}
use Rattle.pl_value.specs.Reading.{Reading, got, settled, then_read}

pub front : {A : Type 0} (xs : List A) (i : ℕ) (x : A) → i < length xs → x ≡ get_or xs i x → drop i xs ≡ x ∷ drop (i + 1) xs
front xs i x lt is = rw (add-one, drop-cons xs i x lt, ← is) refl

value_combined : {W : Type 0} (calls : Calls W) (sub : Sub W) (c : Combination) (ps : List RExpr) (frame : Frame) (w : W)
    → value calls sub (e.Combined c ps) frame w ≡ all_of (λ vs w. settled (combined c vs) w) (map (value calls sub) ps) frame w
value_combined calls sub c ps frame w = first_of (search (rules, the_lemmas), grind (arith, the_lemmas))

pub combined_is : {W : Type 0} (calls : Calls W) (sub : Sub W) (x : RExpr) (c : Combination) (ps ps' : List RExpr) (frame : Frame) (w : W) → x ≡ e.Combined c ps → ps' ≡ ps
    → value calls sub x frame w ≡ all_of (λ vs w. settled (combined c vs) w) (map (value calls sub) ps') frame w
combined_is calls sub x c ps ps' frame w is same =
    ap (λ (x : RExpr). value calls sub x frame w) is ∙ (value_combined calls sub c ps frame w ∙ ap (λ (qs : List RExpr). all_of (λ vs w. settled (combined c vs) w) (map (value calls sub) qs) frame w) (sym same))

value_call : {W : Type 0} (calls : Calls W) (sub : Sub W) (r : List ℕ) (ps : List RExpr) (frame : Frame) (w : W)
    → value calls sub (e.Call r ps) frame w ≡ all_of (calls r) (map (value calls sub) ps) frame w
value_call calls sub r ps frame w = first_of (search (rules, the_lemmas), grind (arith, the_lemmas))

pub call_is : {W : Type 0} (calls : Calls W) (sub : Sub W) (x : RExpr) (r : List ℕ) (ps ps' : List RExpr) (frame : Frame) (w : W) → x ≡ e.Call r ps → ps' ≡ ps
    → value calls sub x frame w ≡ all_of (calls r) (map (value calls sub) ps') frame w
call_is calls sub x r ps ps' frame w is same =
    ap (λ (x : RExpr). value calls sub x frame w) is ∙ (value_call calls sub r ps frame w ∙ ap (λ (qs : List RExpr). all_of (calls r) (map (value calls sub) qs) frame w) (sym same))

value_row : {W : Type 0} (calls : Calls W) (sub : Sub W) (types : List Ty) (ps : List RExpr) (frame : Frame) (w : W)
    → value calls sub (e.Row ps types) frame w ≡ all_of (λ vs w. got (row_value types vs) w) (map (value calls sub) ps) frame w
value_row calls sub types ps frame w = first_of (search (rules, the_lemmas), grind (arith, the_lemmas))

pub row_is : {W : Type 0} (calls : Calls W) (sub : Sub W) (x : RExpr) (types types' : List Ty) (ps ps' : List RExpr) (frame : Frame) (w : W) → x ≡ e.Row ps types → ps' ≡ ps → types' ≡ types
    → value calls sub x frame w ≡ all_of (λ vs w. got (row_value types' vs) w) (map (value calls sub) ps') frame w
row_is calls sub x types types' ps ps' frame w is same same-types =
    ap (λ (x : RExpr). value calls sub x frame w) is ∙ (value_row calls sub types ps frame w
    ∙ (ap (λ (qs : List RExpr). all_of (λ vs w. got (row_value types vs) w) (map (value calls sub) qs) frame w) (sym same)
    ∙ ap (λ (ts : List Ty). all_of (λ vs w. got (row_value ts vs) w) (map (value calls sub) ps') frame w) (sym same-types)))

value_and : {W : Type 0} (calls : Calls W) (sub : Sub W) (ps : List RExpr) (frame : Frame) (w : W)
    → value calls sub (e.And ps) frame w ≡ junction false (map (value calls sub) ps) frame w
value_and calls sub ps frame w = first_of (search (rules, the_lemmas), grind (arith, the_lemmas))

pub and_is : {W : Type 0} (calls : Calls W) (sub : Sub W) (x : RExpr) (ps ps' : List RExpr) (frame : Frame) (w : W) → x ≡ e.And ps → ps' ≡ ps
    → value calls sub x frame w ≡ junction false (map (value calls sub) ps') frame w
and_is calls sub x ps ps' frame w is same =
    ap (λ (x : RExpr). value calls sub x frame w) is ∙ (value_and calls sub ps frame w ∙ ap (λ (qs : List RExpr). junction false (map (value calls sub) qs) frame w) (sym same))

value_or : {W : Type 0} (calls : Calls W) (sub : Sub W) (ps : List RExpr) (frame : Frame) (w : W)
    → value calls sub (e.Or ps) frame w ≡ junction true (map (value calls sub) ps) frame w
value_or calls sub ps frame w = first_of (search (rules, the_lemmas), grind (arith, the_lemmas))

pub or_is : {W : Type 0} (calls : Calls W) (sub : Sub W) (x : RExpr) (ps ps' : List RExpr) (frame : Frame) (w : W) → x ≡ e.Or ps → ps' ≡ ps
    → value calls sub x frame w ≡ junction true (map (value calls sub) ps') frame w
or_is calls sub x ps ps' frame w is same =
    ap (λ (x : RExpr). value calls sub x frame w) is ∙ (value_or calls sub ps frame w ∙ ap (λ (qs : List RExpr). junction true (map (value calls sub) qs) frame w) (sym same))

value_binary : {W : Type 0} (calls : Calls W) (sub : Sub W) (op : Operator) (ps : RPair) (frame : Frame) (w : W)
    → value calls sub (e.Binary op ps) frame w ≡ two op (pair calls sub ps) frame w
value_binary calls sub op ps frame w = first_of (search (rules, the_lemmas), grind (arith, the_lemmas))

pub binary_is : {W : Type 0} (calls : Calls W) (sub : Sub W) (x : RExpr) (op : Operator) (ps ps' : RPair) (frame : Frame) (w : W) → x ≡ e.Binary op ps → ps' ≡ ps
    → value calls sub x frame w ≡ two op (pair calls sub ps') frame w
binary_is calls sub x op ps ps' frame w is same =
    ap (λ (x : RExpr). value calls sub x frame w) is ∙ (value_binary calls sub op ps frame w ∙ ap (λ (qs : RPair). two op (pair calls sub qs) frame w) (sym same))

-- the operators of one level, one after another
pub steps_here : {W : Type 0} {whole : Reading W Value} (f : RStep → Step W) (xs : List RStep) (i : ℕ) (x : RStep) → i < length xs → x ≡ get_or xs i x → (so_far : Value) (frame : Frame) (w : W)
    → whole ≡ steps_read (map f (drop i xs)) so_far frame w
    → whole ≡ then_read {A = Value} (step_read (f x) so_far frame w) (λ v w. steps_read (map f (drop (i + 1) xs)) v frame w)
steps_here f xs i x lt is so_far frame w reads = reads ∙ ap (λ (ys : List RStep). steps_read (map f ys) so_far frame w) (front xs i x lt is)
