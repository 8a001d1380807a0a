use Rattle.std.proofs.Common.{◌≡◌, ◌∙◌, ◌+◌, ◌++◌, [], ◌∷◌, List, ap, false, length, nat_lt, subst, sym}
use Rattle.pl_product.specs.Sole.{IsSole}
use Rattle.pl_product.specs.declared.sole.Sole.{Sole}
use Rattle.pl_product.specs.declared.sole.Sole.TheVariants.{Nothing, Row}
use Rattle.pl_query.proofs.Few.{if_some_then}
use Rattle.pl_query.proofs.Single.{has_none, has_one}
use Rattle.pl_query.specs.Presence.{PassesAs}
use Rattle.pl_query.specs.Sources.{standing_limit}
use Rattle.pl_value.specs.Frames.{Frame, rows_of}
use Rattle.pl_value.specs.declared.operand.Lent.{Lent}
use Rattle.pl_query.proofs.presence.known_behind.Goals as goal

pub returns-in-Nothing : goal.returns-in-Nothing
returns-in-Nothing g c = λ tables q bare.
    let b = c.args.bare.now in
    let outer = rows_of c.args.outer.now in
    let first : rows_of c.as_slice.result.now ≡ outer ++ [] ∷ [] = ap (λ (ls : List Lent). rows_of ls) c.as_slice.ensures.value ∙ c.in_ok-stands.ensures in
    let next : rows_of c.as_slice-2.result.now ≡ outer ++ [] ∷ [] = ap (λ (ls : List Lent). rows_of ls) c.as_slice-2.ensures.value ∙ c.in_ok-stands.ensures in
    has_none g.row.C.Denot tables q b outer bare
    (subst (λ (f : Frame). nat_lt standing_limit (length f + 1) ≡ false) first (sym c.are_too_many.ensures ∙ c.if-are_too_many.false))
    (subst (λ (f : Frame). IsSole g.row.C.Denot b.condition.now f b.bundles.now Nothing) next
    (subst (λ (s : Sole). IsSole g.row.C.Denot b.condition.now (rows_of c.as_slice-2.result.now) b.bundles.now s) c.in-Nothing.is c.in_ok-sole_in.ensures))

pub returns : goal.returns
returns g c =
    let b = c.args.bare.now in
    let outer = rows_of c.args.outer.now in
    let first : rows_of c.as_slice.result.now ≡ outer ++ [] ∷ [] = ap (λ (ls : List Lent). rows_of ls) c.as_slice.ensures.value ∙ c.in_ok-stands.ensures in
    let next : rows_of c.as_slice-2.result.now ≡ outer ++ [] ∷ [] = ap (λ (ls : List Lent). rows_of ls) c.as_slice-2.ensures.value ∙ c.in_ok-stands.ensures in
    let bundle = rows_of c.get.result.now in
    let whole : rows_of c.as_slice-in-Row.result.now ≡ (outer ++ [] ∷ []) ++ bundle =
    ap (λ (ls : List Lent). rows_of ls) c.as_slice-in-Row.ensures.value ∙ (c.in_ok-put_behind-in-Row.ensures ∙ ap (λ (f : Frame). f ++ bundle) c.in_ok-stands.ensures) in
    if_some_then c.passes_at_once.result (PassesAs g.row.C.Denot b (rows_of c.as_slice-in-Row.result.now)) _
    (λ is pass tables q bare.
    has_one g.row.C.Denot tables q b outer bare c.in-Row.at bundle is
    (subst (λ (f : Frame). nat_lt standing_limit (length f + 1) ≡ false) first (sym c.are_too_many.ensures ∙ c.if-are_too_many.false))
    (subst (λ (f : Frame). IsSole g.row.C.Denot b.condition.now f b.bundles.now (Row c.in-Row.at)) next
    (subst (λ (s : Sole). IsSole g.row.C.Denot b.condition.now (rows_of c.as_slice-2.result.now) b.bundles.now s) c.in-Row.is c.in_ok-sole_in.ensures))
    c.get.ensures (subst (λ (f : Frame). PassesAs g.row.C.Denot b f is) whole pass))
    c.passes_at_once.ensures
