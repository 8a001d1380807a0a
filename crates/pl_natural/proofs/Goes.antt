-- How reading goes on in a state of which less is kept.
use Rattle.std.proofs.Common.{◌≡◌, refl, ap, ◌∙◌, Bool, true, false, cond, List, [], ◌∷◌, map, Option, Some, None, Result, Ok, Err}
use Rattle.std.specs.Option.{option_map}
use Rattle.std.specs.List.{AllZip}
use Rattle.pl_base.specs.declared.state.State.{State}
use Rattle.pl_natural.specs.Kept.{kept}
use Rattle.pl_value.specs.Reading.{Reading, got, fails, settled, then_read}

module _ {W V : Type 0} (keep : W → V) where
  -- what follows on a thing that was read
  pub goes : {A B : Type 0} (r : Reading W A) (r' : Reading V A) (k : A → W → Reading W B) (k' : A → V → Reading V B)
      → r' ≡ kept keep r → ((x : A) (w : W) → k' x (keep w) ≡ kept keep (k x w)) → then_read r' k' ≡ kept keep (then_read r k)
  goes (got x w) r' k k' is same = ap (λ q. then_read q k') is ∙ same x w
  goes (fails state w) r' k k' is same = ap (λ q. then_read q k') is

  pub settles : {A : Type 0} (a : Result A State) (w : W) → settled a (keep w) ≡ kept keep (settled a w)
  settles (Ok x) w = refl
  settles (Err state) w = refl

  -- an answer that is made of a thing that was read
  pub makes : {A B : Type 0} (make : A → Result B State) (r : Reading W A) (r' : Reading V A) → r' ≡ kept keep r
      → then_read r' (λ x v. settled (make x) v) ≡ kept keep (then_read r (λ x w. settled (make x) w))
  makes make r r' is = goes r r' (λ x w. settled (make x) w) (λ x v. settled (make x) v) is (λ x w. settles (make x) w)

  pub either : {A : Type 0} (b : Bool) (x y : Reading W A) (x' y' : Reading V A) → x' ≡ kept keep x → y' ≡ kept keep y
      → cond b x' y' ≡ kept keep (cond b x y)
  either true x y x' y' first second = first
  either false x y x' y' first second = second

-- both are there, and R holds of them; or neither is
abbrev pub BothIf : {A B : Type 0} → (A → B → Type 0) → Option A → Option B → Type 0
BothIf R None None = Unit {0}
BothIf R None (Some y) = ⊥
BothIf R (Some x) None = ⊥
BothIf R (Some x) (Some y) = R x y

module _ {X A B : Type 0} (R : A → B → Type 0) (f : X → A) (g : X → B) where
  pub each : ((x : X) → R (f x) (g x)) → (xs : List X) → AllZip R (map f xs) (map g xs)
  each same [] = tt
  each same (x ∷ xs) = (same x, each same xs)

  pub both : ((x : X) → R (f x) (g x)) → (o : Option X) → BothIf R (option_map f o) (option_map g o)
  both same None = tt
  both same (Some x) = same x

-- a thing with what is known of it
abbrev pub Beside : (X : Type 0) → (X → Type 0) → Type 0
Beside X P = (x : X) × P x

module _ {X A B : Type 0} (R : A → B → Type 0) (f : X → A) (g : X → B) where
  abbrev pub Known : Type 0
  Known = Beside X (λ x. R (f x) (g x))

  pub each_known : (ys : List Known) → AllZip R (map f (map (λ (y : Known). y.0) ys)) (map g (map (λ (y : Known). y.0) ys))
  each_known [] = tt
  each_known (y ∷ ys) = (y.1, each_known ys)
