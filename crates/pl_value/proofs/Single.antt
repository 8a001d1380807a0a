-- What is made of one operand.
use Rattle.std.proofs.Common.{◌≡◌, ap, ◌∙◌, List, [], ◌∷◌, map}
use Rattle.pl_base.specs.declared.value.Value.{Value}
use Rattle.pl_resolved.specs.declared.expression.Combination.{Combination}
use Rattle.pl_resolved.specs.declared.expression.RExpr.{RExpr}
use Rattle.pl_value.specs.Combined.{combined}
use Rattle.pl_value.specs.Frames.{Frame}
use Rattle.pl_value.specs.Meaning.{Part, all_of, one}
use Rattle.pl_value.specs.Reading.{got, settled}
use Rattle.pl_value.proofs.Found.{regrouped}

pub single_is : {W : Type 0} (f : RExpr → Part W) (k : Combination) (xs : List RExpr) (x : RExpr) (frame : Frame) (w : W) → xs ≡ x ∷ []
    → all_of (λ vs w. settled (combined k vs) w) (map f xs) frame w ≡ one (λ v. combined k (v ∷ [])) (f x) frame w
single_is f k xs x frame w is =
    ap (λ (xs : List RExpr). all_of (λ vs w. settled (combined k vs) w) (map f xs) frame w) is
    ∙ regrouped {A = Value} {B = List Value} {D = Value} (f x frame w) (λ v w. got (v ∷ []) w) (λ vs w. settled (combined k vs) w)
