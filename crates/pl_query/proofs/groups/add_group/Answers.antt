use Rattle.std.proofs.Common.{◌≡◌, ◌∙◌, ap, refl, subst, List, [], ◌∷◌, ◌++◌, Option, map}
use Rattle.std.specs.Option.{option_map}
use Rattle.pl_groups.specs.Tallies.{answer_at, shown}
use Rattle.pl_product.specs.Product.{condition}
use Rattle.pl_query.proofs.Kept.{condition_is}
use Rattle.pl_query.specs.Rows.{in_turn, with_row_if, with_value}
use Rattle.pl_value.specs.Answers.{Reads}
use Rattle.pl_value.specs.Frames.{Frame, Row, rows_of}
use Rattle.pl_value.specs.Meaning.{Part, value}
use Rattle.pl_value.specs.Steps.{goes, stops}
use Rattle.pl_query.proofs.groups.add_group.Goals as goal

pub returns-in_ok-frame-in-Ok : goal.returns-in_ok-frame-in-Ok
returns-in_ok-frame-in-Ok g c =
    let calls = g.C.Caller.calls in
    let sub = g.S.Subqueries.sub c.args.sub.now in
    let outer = rows_of c.args.group.now.outer.now in
    let first = rows_of c.args.group.now.first.now in
    let having = option_map (value calls sub) c.args.groups.now.having in
    let items = map (value calls sub) c.args.items.now in
    let frame-is : rows_of c.as_slice-in-Ok.result.now ≡ outer ++ c.in-Ok.values ∷ first =
    ap rows_of c.as_slice-in-Ok.ensures.value ∙ (c.in_ok-frame-in-Ok.ensures ∙ ap (λ (row : Row). outer ++ row ∷ first) c.as_slice.ensures) in
    let having-is : condition calls sub c.expression_of.result ≡ having =
    condition_is calls sub c.expression_of.result ∙ ap (option_map (value calls sub)) c.expression_of.ensures in
    goes {A = Row} {B = List Row} _ (in_turn with_value (map (λ c'. answer_at c.args.group.now.place (shown c')) c.args.group.now.columns.now) [] c.args.caller.now)
    (λ values w. with_row_if having items (outer ++ values ∷ first) c.args.rows w) c.in-Ok.values c.args.caller.now c.add_row_if.result c.add_row_if.new.caller refl (c.in-Ok.ensures c.args.caller.now)
    (subst (λ (frame : Frame). Reads {A = List Row} (with_row_if having items frame c.args.rows c.args.caller.now) c.add_row_if.result c.add_row_if.new.caller) frame-is
    (subst (λ (p : Option (Part _)). Reads {A = List Row} (with_row_if p items (rows_of c.as_slice-in-Ok.result.now) c.args.rows c.args.caller.now) c.add_row_if.result c.add_row_if.new.caller) having-is c.add_row_if.ensures))

pub returns-in-Err : goal.returns-in-Err
returns-in-Err g c =
    let calls = g.C.Caller.calls in
    let sub = g.S.Subqueries.sub c.args.sub.now in
    stops {A = Row} {B = List Row} _ (in_turn with_value (map (λ c'. answer_at c.args.group.now.place (shown c')) c.args.group.now.columns.now) [] c.args.caller.now)
    (λ values w. with_row_if (option_map (value calls sub) c.args.groups.now.having) (map (value calls sub) c.args.items.now) (rows_of c.args.group.now.outer.now ++ values ∷ rows_of c.args.group.now.first.now) c.args.rows w) _ _
    refl (c.in-Err.ensures c.args.caller.now)
