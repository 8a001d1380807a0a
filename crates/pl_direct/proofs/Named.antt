-- Names that mean one variable, outside of queries.
use Rattle.std.proofs.Common.{◌≡◌, ◌∙◌, ap, arith, eqb-true, refl, suc, sym, ℕ, List, [], ◌∷◌, map, length, nat_eq, Bool, true, false, Option, Some, Ok}
use Rattle.std.specs.Prelude.{is_some}
use Rattle.pl_base.specs.declared.types.Ty.{Ty}
use Rattle.pl_direct.specs.Search.{column_of, ty_of}
use Rattle.pl_direct.specs.declared.search.Spot.{Spot}
use Rattle.pl_names.specs.declared.scope.Visible.{Visible}
use Rattle.pl_names.specs.Names.{Around, Name, Reach, also, columns_within, here, name_means, the_one, variables_within}

pub one_variable : (x : Name) (a : Around) (column : ℕ) (ty : Ty) → a.levels ≡ [] → here true 0 column ty false ≡ variables_within x 0 a.frames
    → name_means x a ≡ Ok (record { row = 0; column = column; ty = ty; is_barred = false })
unfolding name_means
one_variable x a column ty none is =
    ap (λ (levels : List Reach). the_one (also (columns_within x levels) (variables_within x 0 a.frames))) none
    ∙ ap (λ found. the_one (also (columns_within x []) found)) (sym is)

pub spotted : (x : Name) (a : Around) (o : Option Spot) (s : Spot) (frames : List Visible) → o ≡ Some s → frames ≡ a.frames
    → here (is_some o) 0 (column_of o) (ty_of o) false ≡ variables_within x 0 frames → here true 0 s.column s.seen.now.ty false ≡ variables_within x 0 a.frames
spotted x a o s frames is same found =
    ap (λ (o : Option Spot). here (is_some o) 0 (column_of o) (ty_of o) false) (sym is) ∙ (found ∙ ap (λ (frames : List Visible). variables_within x 0 frames) same)

pub no_levels : {A B : Type 0} (f : A → B) (levels : List A) (b : Bool) → b ≡ nat_eq (length levels) 0 → b ≡ true → map f levels ≡ []
no_levels f [] b is is-so = refl
no_levels f (x ∷ xs) b is is-so = absurd (omega (arith, eqb-true (suc (length xs)) 0 (sym is ∙ is-so)))
