-- IN over operands that stand.
use Rattle.std.proofs.Common.{◌≡◌, ◌<◌, ◌≤◌, ◌+◌, refl, sym, ap, ◌∙◌, ℕ, Bool, true, false, Option, Some, None, Ok, List, [], ◌∷◌, ◌++◌, ◌||◌, if◌then◌else◌, map, drop, get_or, length}
use Rattle.std.proofs.lemmas.List.{drop_all}
use Rattle.pl_base.specs.declared.types.Ty.{Ty}
use Rattle.pl_base.specs.declared.value.Value.{Value}
use Rattle.pl_calc.specs.Answer.{Answer}
use Rattle.pl_calc.specs.Casts.{cast_to}
use Rattle.pl_calc.specs.Logic.{is_null, or_of, truth_value}
use Rattle.pl_resolved.specs.declared.expression.Combination.TheVariants as made
use Rattle.pl_resolved.specs.declared.expression.RExpr.{RExpr}
use Rattle.pl_value.specs.Among.{among_from, rest_among}
use Rattle.pl_value.specs.Combined.{among, combined, equals, is_true, then_answer}
use Rattle.pl_value.specs.Frames.{Frame}
use Rattle.pl_value.specs.Meaning.{Part, all_of, values}
use Rattle.pl_value.specs.Reading.{Reading, got, fails, settled, then_read}
use Rattle.pl_value.specs.Steps.{then_same}
use Rattle.pl_value.proofs.Lists.{front}

-- a reading that goes on twice
pub regrouped : {W A B D : Type 0} (q : Reading W A) (f : A → W → Reading W B) (g : B → W → Reading W D)
    → then_read (then_read q f) g ≡ then_read q (λ x w. then_read (f x w) g)
regrouped (got x w) f g = refl
regrouped (fails state w) f g = refl

-- a value that was read stands in front of the others
in_front : {W : Type 0} (ps : List (Part W)) (v : Value) (done : List Value) (frame : Frame) (w : W)
    → values ps (v ∷ done) frame w ≡ then_read {B = List Value} (values ps done frame w) (λ vs w. got (v ∷ vs) w)
in_front [] v done frame w = refl
in_front (p ∷ ps) v done frame w =
    then_same (p frame w) _ _ (λ u w. in_front ps v (done ++ u ∷ []) frame w)
    ∙ sym (regrouped (p frame w) (λ u w. values ps (done ++ u ∷ []) frame w) (λ vs w. got (v ∷ vs) w))

pub first_read : {W : Type 0} {A : Type 0} (p : Part W) (ps : List (Part W)) (v : Value) (make : List Value → W → Reading W A) (frame : Frame) (w : W) → p frame w ≡ got v w
    → then_read (values (p ∷ ps) [] frame w) make ≡ then_read (values ps [] frame w) (λ vs w. make (v ∷ vs) w)
first_read p ps v make frame w reads =
    ap (λ (q : Reading _ Value). then_read (then_read q (λ u w. values ps (u ∷ []) frame w)) make) reads
    ∙ (ap (λ (q : Reading _ (List Value)). then_read q make) (in_front ps v [] frame w)
    ∙ regrouped (values ps [] frame w) (λ vs w. got (v ∷ vs) w) make)

-- one more operand
one_more : (to : Ty) (x : Value) (has_null : Bool) (v : Value) (t : Value) (vs : List Value) → then_answer (cast_to v to) (equals x) ≡ Ok t
    → among to x has_null (v ∷ vs) ≡ (if is_true t then Ok t else among to x (has_null || is_null t) vs)
one_more to x has_null v t vs gives = ap (λ (a : Answer). then_answer a (λ t. if is_true t then Ok t else among to x (has_null || is_null t) vs)) gives

from_next : (to : Ty) (x : Value) (so_far t : Option Bool) (v : Value) (vs : List Value) → then_answer (cast_to v to) (equals x) ≡ Ok (truth_value t)
    → among_from to x so_far (v ∷ vs) ≡ among_from to x (or_of so_far t) vs
from_next to x (Some true) t v vs gives = refl
from_next to x (Some false) (Some true) v vs gives = one_more to x false v _ vs gives
from_next to x (Some false) (Some false) v vs gives = one_more to x false v _ vs gives
from_next to x (Some false) None v vs gives = one_more to x false v _ vs gives
from_next to x None (Some true) v vs gives = one_more to x true v _ vs gives
from_next to x None (Some false) v vs gives = one_more to x true v _ vs gives
from_next to x None None v vs gives = one_more to x true v _ vs gives

pub among_next : {W : Type 0} {whole : Reading W Value} (f : RExpr → Part W) (xs : List RExpr) (i : ℕ) (e : RExpr) → i < length xs → e ≡ get_or xs i e
    → (to : Ty) (x : Value) (so_far t next : Option Bool) (v : Value) (frame : Frame) (w : W)
    → f e frame w ≡ got v w → then_answer (cast_to v to) (equals x) ≡ Ok (truth_value t) → next ≡ or_of so_far t
    → whole ≡ rest_among to x so_far (map f (drop i xs)) frame w → whole ≡ rest_among to x next (map f (drop (i + 1) xs)) frame w
among_next f xs i e lt is to x so_far t next v frame w reads gives joins before =
    before
    ∙ (ap (λ (ys : List RExpr). rest_among to x so_far (map f ys) frame w) (front xs i e lt is)
    ∙ (first_read (f e) (map f (drop (i + 1) xs)) v (λ vs w. settled (among_from to x so_far vs) w) frame w reads
    ∙ (then_same (values (map f (drop (i + 1) xs)) [] frame w) _ _ (λ vs w. ap (λ (a : Answer). settled a w) (from_next to x so_far t v vs gives))
    ∙ ap (λ (t : Option Bool). rest_among to x t (map f (drop (i + 1) xs)) frame w) (sym joins))))

end_from : {W : Type 0} (to : Ty) (x : Value) (so_far : Option Bool) (w : W) → settled (among_from to x so_far []) w ≡ got (truth_value so_far) w
end_from to x (Some true) w = refl
end_from to x (Some false) w = refl
end_from to x None w = refl

pub among_end : {W : Type 0} {whole : Reading W Value} (f : RExpr → Part W) (xs : List RExpr) (i : ℕ) (to : Ty) (x : Value) (so_far : Option Bool) (frame : Frame) (w : W)
    → length xs ≤ i → whole ≡ rest_among to x so_far (map f (drop i xs)) frame w → whole ≡ got (truth_value so_far) w
among_end f xs i to x so_far frame w le before =
    before ∙ (ap (λ (ys : List RExpr). rest_among to x so_far (map f ys) frame w) (drop_all i xs le) ∙ end_from to x so_far w)

-- the first operand, whose cast changes nothing
pub among_all : {W : Type 0} (f : RExpr → Part W) (xs others : List RExpr) (e : RExpr) (to : Ty) (x x' : Value) (t : Option Bool) (frame : Frame) (w : W)
    → xs ≡ e ∷ others → f e frame w ≡ got x w → x' ≡ x → cast_to x' to ≡ Ok x' → rest_among to x' (Some false) (map f others) frame w ≡ got (truth_value t) w
    → all_of (λ vs w. settled (combined (made.In to) vs) w) (map f xs) frame w ≡ got (truth_value t) w
among_all f xs others e to x x' t frame w is reads same cast found =
    ap (λ (ys : List RExpr). all_of (λ vs w. settled (combined (made.In to) vs) w) (map f ys) frame w) is
    ∙ (first_read (f e) (map f others) x' (λ vs w. settled (combined (made.In to) vs) w) frame w (reads ∙ ap (λ (v : Value). got v w) (sym same))
    ∙ (then_same (values (map f others) [] frame w) _ _ (λ vs w. ap (λ (a : Answer). settled (then_answer a (λ x. among to x false vs)) w) cast)
    ∙ found))
