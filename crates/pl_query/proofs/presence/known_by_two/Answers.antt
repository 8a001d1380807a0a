use Rattle.std.proofs.Common.{◌≡◌, ◌++◌, [], ◌∷◌, List, arith, refl, subst, sym}
use Rattle.pl_product.specs.Sole.{IsSole}
use Rattle.pl_product.specs.declared.sole.Sole.{Sole}
use Rattle.pl_query.proofs.Few.{if_some_then, only_one}
use Rattle.pl_query.proofs.Single.{has_none, has_one}
use Rattle.pl_query.specs.Presence.{PassesAs}
use Rattle.pl_value.specs.Frames.{Frame, rows_of}
use Rattle.pl_value.specs.declared.operand.Lent.{Lent}
use Rattle.pl_query.proofs.presence.known_by_two.Goals as goal

pub returns-in-Nothing : goal.returns-in-Nothing
returns-in-Nothing g c = λ tables q bare.
    let b = c.args.bare.now in
    let outer : Frame = c.args.first.now ∷ c.args.second.now ∷ [] in
    has_none g.row.C.Denot tables q b outer bare refl
    (subst (λ (s : Sole). IsSole g.row.C.Denot b.condition.now (outer ++ [] ∷ []) b.bundles.now s) c.in-Nothing.is c.in_ok-sole_in.ensures)

pub returns-in-len1 : goal.returns-in-len1
returns-in-len1 g c =
    let b = c.args.bare.now in
    let outer : Frame = c.args.first.now ∷ c.args.second.now ∷ [] in
    let stands : Frame = outer ++ [] ∷ [] in
    let row = c.row-item.result in
    let alone : c.get.result.now ≡ row ∷ [] = only_one c.get.result.now row (omega (arith, c.in-len1.len_at_least)) (omega (arith, c.in-len1.len_below)) c.row-item.is in
    if_some_then c.passes_at_once.result (PassesAs g.row.C.Denot b (stands ++ row.cells.now ∷ [])) _
    (λ is pass tables q bare.
    has_one g.row.C.Denot tables q b outer bare c.in-Row.at (rows_of c.get.result.now) is refl
    (subst (λ (s : Sole). IsSole g.row.C.Denot b.condition.now stands b.bundles.now s) c.in-Row.is c.in_ok-sole_in.ensures)
    c.get.ensures
    (subst (λ (ls : List Lent). PassesAs g.row.C.Denot b (stands ++ rows_of ls) is) (sym alone) pass))
    c.passes_at_once.ensures
