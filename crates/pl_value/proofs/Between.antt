-- BETWEEN over operands that stand.
use Rattle.std.proofs.Common.{◌≡◌, refl, sym, ap, ◌∙◌, Bool, true, false, Option, Some, None, Ok, List, [], ◌∷◌, map}
use Rattle.pl_base.specs.declared.operator.Operator.TheVariants.{Compare}
use Rattle.pl_base.specs.declared.operator.Comparison.TheVariants as cmp
use Rattle.pl_base.specs.declared.value.Value.{Value}
use Rattle.pl_calc.specs.Answer.{Answer}
use Rattle.pl_calc.specs.Logic.{and_of, conjunction, truth_value}
use Rattle.pl_calc.specs.Operators.{binary_value}
use Rattle.pl_resolved.specs.declared.expression.Combination.TheVariants as made
use Rattle.pl_resolved.specs.declared.expression.RExpr.{RExpr}
use Rattle.pl_value.specs.Combined.{between, combined, then_answer}
use Rattle.pl_value.specs.Frames.{Frame}
use Rattle.pl_value.specs.Meaning.{Part, all_of}
use Rattle.pl_value.specs.Reading.{Reading, got, settled}
use Rattle.pl_value.proofs.Found.{first_read}

both : (a b : Option Bool) → conjunction (truth_value a) (truth_value b) ≡ Ok (truth_value (and_of a b))
both (Some true) (Some y) = refl
both (Some true) None = refl
both (Some false) (Some y) = refl
both (Some false) None = refl
both None (Some y) = refl
both None None = refl

pub lies : (x low high : Value) (a b t : Option Bool) → binary_value (Compare cmp.GreaterOrEqual) x low ≡ Ok (truth_value a) → binary_value (Compare cmp.LessOrEqual) x high ≡ Ok (truth_value b)
    → t ≡ and_of a b → between x low high ≡ Ok (truth_value t)
lies x low high a b t above below is =
    ap (λ (p : Answer). then_answer p (λ a. then_answer (binary_value (Compare cmp.LessOrEqual) x high) (λ b. conjunction a b))) above
    ∙ (ap (λ (p : Answer). then_answer p (λ b. conjunction (truth_value a) b)) below
    ∙ (both a b ∙ ap (λ (t : Option Bool). Ok (truth_value t)) (sym is)))

three_read : {W : Type 0} (p q r : Part W) (x y z : Value) (make : List Value → W → Reading W Value) (frame : Frame) (w : W) → p frame w ≡ got x w → q frame w ≡ got y w → r frame w ≡ got z w
    → all_of make (p ∷ q ∷ r ∷ []) frame w ≡ make (x ∷ y ∷ z ∷ []) w
three_read p q r x y z make frame w is-x is-y is-z =
    first_read p (q ∷ r ∷ []) x make frame w is-x
    ∙ (first_read q (r ∷ []) y (λ vs w. make (x ∷ vs) w) frame w is-y
    ∙ first_read r [] z (λ vs w. make (x ∷ y ∷ vs) w) frame w is-z)

pub between_all : {W : Type 0} (f : RExpr → Part W) (xs : List RExpr) (a b c : RExpr) (x x' low low' high high' : Value) (t : Option Bool) (frame : Frame) (w : W)
    → xs ≡ a ∷ b ∷ c ∷ [] → f a frame w ≡ got x w → f b frame w ≡ got low w → f c frame w ≡ got high w
    → x' ≡ x → low' ≡ low → high' ≡ high → between x' low' high' ≡ Ok (truth_value t)
    → all_of (λ vs w. settled (combined made.Between vs) w) (map f xs) frame w ≡ got (truth_value t) w
between_all f xs a b c x x' low low' high high' t frame w is is-x is-low is-high same-x same-low same-high gives =
    ap (λ (xs : List RExpr). all_of (λ vs w. settled (combined made.Between vs) w) (map f xs) frame w) is
    ∙ (three_read (f a) (f b) (f c) x' low' high' (λ vs w. settled (combined made.Between vs) w) frame w
    (is-x ∙ ap (λ (v : Value). got v w) (sym same-x)) (is-low ∙ ap (λ (v : Value). got v w) (sym same-low)) (is-high ∙ ap (λ (v : Value). got v w) (sym same-high))
    ∙ ap (λ (p : Answer). settled p w) gives)
