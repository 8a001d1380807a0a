-- The last sign of several.
use Rattle.std.proofs.Common.{◌≡◌, ℕ, ◌-◌, Bool, false, if◌then◌else◌, slice_get, take, length, List, [], ◌∷◌, ◌++◌, Option, Some, None, MatchOption, sym, ap, ◌∙◌, subst, length-append, arith}
use Rattle.std.proofs.Math.Seq.{take-append_seam}
use Rattle.pl_tree.specs.declared.tree.Sign.{Sign}
use Rattle.pl_tree.specs.declared.tree.Sign.TheVariants as sg
use Rattle.pl_expr_parse.specs.Trees.{minus_there, last_is_minus, but_last, without_minus}

last_taken : (new : List Sign) (s : Sign) → but_last (new ++ s ∷ []) ≡ new
last_taken new s =
    let size = length-append new (s ∷ []) in
    let k : length (new ++ s ∷ []) - 1 ≡ length new = omega arith in
    ap (λ (n : ℕ). take n (new ++ s ∷ [])) k ∙ take-append_seam new (s ∷ [])

pub popped : (old new : List Sign) (r : Option Sign) → slice_get old (length old - 1) ≡ Some sg.Minus → MatchOption r ((old ≡ []) × (new ≡ [])) (λ last. old ≡ new ++ last ∷ []) → new ≡ without_minus old
popped old new None h m = absurd (let k : slice_get {X = Sign} [] 0 ≡ Some sg.Minus = subst (λ (l : List Sign). slice_get l (length l - 1) ≡ Some sg.Minus) m.0 h in cc)
popped old new (Some s) h m = sym (ap (λ (o : Option Sign). if minus_there o then but_last old else old) h ∙ ap but_last m ∙ last_taken new s)

pub kept : (old : List Sign) (b : Bool) → last_is_minus old ≡ b → b ≡ false → old ≡ without_minus old
kept old b h k = sym (ap (λ (b : Bool). if b then but_last old else old) (h ∙ k))
