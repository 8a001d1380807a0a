-- Commands whose expressions have the same values, whichever of two runs the queries inside.
use Rattle.std.proofs.Common.{◌≡◌, refl, ap, ◌∙◌, ℕ, List, [], ◌∷◌, ◌++◌, map, Bool, true, false, Option, Some, None}
use Rattle.std.proofs.Math.Path.{fun_ext}
use Rattle.std.specs.Prelude.{option_map}
use Rattle.pl_journal.specs.pl_catalog.declared.object.Object.{Object}
use Rattle.pl_change.specs.Changes.{Progress, Setting, adds, adds_found, adds_values, assigned, at_row, deletes, does, ids, if_some, if_there, progress, read_if, set_if, shown_if, takes, told, updates, values_if, writes}
use Rattle.pl_change.specs.Running.{AreSame, AreSameRows, ChangeIsSame, IsSame, SourceIsSame, WhatIsSame, does_from, inserts_from}
use Rattle.pl_journal.specs.Writing.{written}
use Rattle.pl_product.specs.Product.{passes}
use Rattle.pl_inside.specs.pl_query.Rows.{in_turn}
use Rattle.pl_resolved.specs.declared.expression.RExpr.{RExpr}
use Rattle.pl_tables.specs.Named.{row_named}
use Rattle.pl_targets.specs.declared.change.RChange.{RChange}
use Rattle.pl_targets.specs.declared.change.RRow.{RRow}
use Rattle.pl_targets.specs.declared.change.RRows.{RRows}
use Rattle.pl_targets.specs.declared.change.RRows.TheVariants.{Values, Query}
use Rattle.pl_targets.specs.declared.change.RWhat.{RWhat}
use Rattle.pl_targets.specs.declared.change.RWhat.TheVariants.{Insert, Update, Delete}
use Rattle.pl_value.specs.Frames.{Frame, Row}
use Rattle.pl_value.specs.Meaning.{Calls, Part, Sub, value, values}
use Rattle.pl_value.specs.Reading.{Reading, got, settled, then_read}
use Rattle.pl_value.specs.Steps.{then_same}

-- things in turn, of which each does the same
in_turn_same : {W A : Type 0} (one other : A → Progress → W → Reading W Progress) → ((x : A) (p : Progress) (w : W) → one x p w ≡ other x p w)
    → (xs : List A) (p : Progress) (w : W) → in_turn one xs p w ≡ in_turn other xs p w
in_turn_same {W} {A} one other same xs p w =
    ap (λ (does : A → Progress → W → Reading W Progress). in_turn does xs p w) (fun_ext (λ x. fun_ext (λ p. fun_ext (λ w. same x p w))))

-- what the query of an INSERT gives may be read before
pub from_itself : {W : Type 0} (s : Setting W) (outer : Frame) (what : RWhat) (p : Progress) (w : W) → does_from s.inner s outer what p w ≡ does s outer what p w
from_itself s outer (Insert (Values list)) p w = refl
from_itself s outer (Insert (Query query list)) p w = refl
from_itself s outer (Update columns list condition) p w = refl
from_itself s outer (Delete condition) p w = refl

module _ {W : Type 0} (calls : Calls W) (these those : Sub W) (change : RChange) (objects : List Object) (around : Frame) where
  abbrev run_by : Sub W → Setting W
  run_by inner = record { calls = calls; inner = inner; change = change; objects = objects; around = around }

  module _ (shows : AreSame calls these those change.returning) where
    told_same : (row : Row) (p : Progress) (w : W) → told (run_by these) row p w ≡ told (run_by those) row p w
    told_same row p w =
        ap (λ (ms : List (Part W)). then_read {A = Row} {B = Progress} (values ms [] (around ++ row ∷ []) w) (λ shown w. got (progress p.tables (p.returned ++ shown ∷ [])) w)) shows

    writes_same : (id : Option ℕ) (row : Row) (p : Progress) (w : W) → writes (run_by these) id row p w ≡ writes (run_by those) id row p w
    writes_same id row p w =
        then_same (settled (written objects change.table id row p.tables) w) (λ tables w. told (run_by these) row (progress tables p.returned) w) (λ tables w. told (run_by those) row (progress tables p.returned) w)
        (λ tables w. told_same row (progress tables p.returned) w)

    adds_same : (list : List RExpr) → AreSame calls these those list → (frame : Frame) (p : Progress) (w : W) → adds (run_by these) list frame p w ≡ adds (run_by those) list frame p w
    adds_same list same frame p w =
        ap (λ (ms : List (Part W)). then_read {A = Row} {B = Progress} (values ms [] frame w) (λ row w. writes (run_by these) None row p w)) same
        ∙ then_same (values (map (value calls those) list) [] frame w) (λ row w. writes (run_by these) None row p w) (λ row w. writes (run_by those) None row p w)
        (λ row w. writes_same None row p w)

    values_if_same : (b : Bool) (list : List RExpr) → AreSame calls these those list → (frame : Frame) (w : W) → values_if (run_by these) b list frame w ≡ values_if (run_by those) b list frame w
    values_if_same true list same frame w = ap (λ (ms : List (Part W)). then_read {A = Row} {B = Option Row} (values ms [] frame w) (λ vs w. got (Some vs) w)) same
    values_if_same false list same frame w = refl

    read_if_same : (condition : Option RExpr) → IsSame calls these those condition → (list : List RExpr) → AreSame calls these those list → (frame : Frame) (w : W)
        → read_if (run_by these) condition list frame w ≡ read_if (run_by those) condition list frame w
    read_if_same condition same-if list same frame w =
        ap (λ (o : Option (Part W)). then_read {A = Bool} {B = Option Row} (passes o frame w) (λ b w. values_if (run_by these) b list frame w)) same-if
        ∙ then_same (passes (option_map (value calls those) condition) frame w) (λ b w. values_if (run_by these) b list frame w) (λ b w. values_if (run_by those) b list frame w)
        (λ b w. values_if_same b list same frame w)

    set_if_same : (columns : List ℕ) (list : List RExpr) → AreSame calls these those list → (condition : Option RExpr) → IsSame calls these those condition → (row : Row) (w : W)
        → set_if (run_by these) columns list condition row w ≡ set_if (run_by those) columns list condition row w
    set_if_same columns list same condition same-if row w =
        ap (λ (q : Reading W (Option Row)). then_read {B = Option Row} q (λ vs w. got (option_map (λ vs. assigned columns vs row) vs) w)) (read_if_same condition same-if list same (around ++ row ∷ []) w)

    -- over a row that is there or not
    there_same : (one other : Row → W → Reading W (Option Row)) → ((row : Row) (w : W) → one row w ≡ other row w) → (o : Option Row) (w : W)
        → if_there (run_by these) one o w ≡ if_there (run_by those) other o w
    there_same one other same None w = refl
    there_same one other same (Some row) w = same row w

    -- with a row that passed or not
    some_same : (one other : Row → Progress → W → Reading W Progress) → ((row : Row) (p : Progress) (w : W) → one row p w ≡ other row p w) → (o : Option Row) (p : Progress) (w : W)
        → if_some (run_by these) one o p w ≡ if_some (run_by those) other o p w
    some_same one other same None p w = refl
    some_same one other same (Some row) p w = same row p w

    updates_same : (columns : List ℕ) (list : List RExpr) → AreSame calls these those list → (condition : Option RExpr) → IsSame calls these those condition → (id : ℕ) (p : Progress) (w : W)
        → updates (run_by these) columns list condition id p w ≡ updates (run_by those) columns list condition id p w
    updates_same columns list same condition same-if id p w =
        ap (λ (q : Reading W (Option Row)). then_read {B = Progress} q (λ row w. if_some (run_by these) (writes (run_by these) (Some id)) row p w))
        (there_same (set_if (run_by these) columns list condition) (set_if (run_by those) columns list condition) (set_if_same columns list same condition same-if) (row_named change.table id p.tables) w)
        ∙ then_same (at_row (run_by those) (set_if (run_by those) columns list condition) id p.tables w) (λ row w. if_some (run_by these) (writes (run_by these) (Some id)) row p w) (λ row w. if_some (run_by those) (writes (run_by those) (Some id)) row p w)
        (λ row w. some_same (writes (run_by these) (Some id)) (writes (run_by those) (Some id)) (writes_same (Some id)) row p w)

    deletes_same : (condition : Option RExpr) → IsSame calls these those condition → (id : ℕ) (p : Progress) (w : W) → deletes (run_by these) condition id p w ≡ deletes (run_by those) condition id p w
    deletes_same condition same-if id p w =
        ap (λ (q : Reading W (Option Row)). then_read {B = Progress} q (λ shown w. if_some (run_by these) (takes (run_by these) id) shown p w))
        (there_same (shown_if (run_by these) condition) (shown_if (run_by those) condition) (λ row w. read_if_same condition same-if change.returning shows (around ++ row ∷ []) w) (row_named change.table id p.tables) w)

    rows_same : (rows : List RRow) → AreSameRows calls these those rows → (p : Progress) (w : W) → in_turn (adds_values (run_by these)) rows p w ≡ in_turn (adds_values (run_by those)) rows p w
    rows_same [] same p w = refl
    rows_same (row ∷ rows) same p w =
        ap (λ (q : Reading W Progress). then_read q (λ p w. in_turn (adds_values (run_by these)) rows p w)) (adds_same row.values same.0 around p w)
        ∙ then_same (adds_values (run_by those) row p w) (λ p w. in_turn (adds_values (run_by these)) rows p w) (λ p w. in_turn (adds_values (run_by those)) rows p w) (λ p w. rows_same rows same.1 p w)

    inserts_same : (source : Sub W) (outer : Frame) (rows : RRows) → SourceIsSame calls these those rows → (p : Progress) (w : W)
        → inserts_from source (run_by these) outer rows p w ≡ inserts_from source (run_by those) outer rows p w
    inserts_same source outer (Values list) same p w = rows_same list same p w
    inserts_same source outer (Query query list) same p w =
        then_same (source query outer w) (λ found w. in_turn (adds_found (run_by these) list) found p w) (λ found w. in_turn (adds_found (run_by those) list) found p w)
        (λ found w. in_turn_same (adds_found (run_by these) list) (adds_found (run_by those) list) (λ row p w. adds_same list same (around ++ row ∷ []) p w) found p w)

    what_same : (source : Sub W) (outer : Frame) (what : RWhat) → WhatIsSame calls these those what → (p : Progress) (w : W)
        → does_from source (run_by these) outer what p w ≡ does_from source (run_by those) outer what p w
    what_same source outer (Insert rows) same p w = inserts_same source outer rows same p w
    what_same source outer (Update columns list condition) same p w =
        in_turn_same (updates (run_by these) columns list condition) (updates (run_by those) columns list condition) (updates_same columns list same.0 condition same.1) (ids change.table p.tables) p w
    what_same source outer (Delete condition) same p w =
        in_turn_same (deletes (run_by these) condition) (deletes (run_by those) condition) (deletes_same condition same) (ids change.table p.tables) p w

  -- a command without queries inside does the same, whatever runs them
  pub unasked : ChangeIsSame calls these those change → (source : Sub W) (outer : Frame) (p : Progress) (w : W)
      → does_from source (run_by these) outer change.what p w ≡ does_from source (run_by those) outer change.what p w
  unasked same source outer p w = what_same same.0 source outer change.what same.1 p w
