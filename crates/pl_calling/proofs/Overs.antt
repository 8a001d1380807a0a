-- Proofs that other crates' proofs may cite; no definition. What is read over what is kept of a state was read over the whole of it.
use Rattle.std.proofs.Common.{◌≡◌, ℕ, List, [], ◌∷◌, Result, map, refl, subst}
use Rattle.std.specs.List.{AllZip}
use Rattle.pl_base.specs.declared.value.Value.{Value}
use Rattle.pl_calling.proofs.Keeping.{calls_agree}
use Rattle.pl_calling.specs.Reading.{no_rows}
use Rattle.pl_calling.specs.Standing.{Standing, calls_kept, fresh, keep}
use Rattle.pl_engine.specs.Texts.{do_bodies}
use Rattle.pl_engine.specs.pl_journal.Rows.{tables_of}
use Rattle.pl_engine.specs.pl_world.Selection.{last_of}
use Rattle.pl_natural.proofs.Parts.{values_agree}
use Rattle.pl_natural.proofs.Rows.{rows_agree}
use Rattle.pl_natural.proofs.Told.{told}
use Rattle.pl_natural.proofs.Values.{value_agrees}
use Rattle.pl_natural.specs.Kept.{CallsAgree, PartsAgree, ReadsKept, SubsAgree, kept}
use Rattle.pl_natural.specs.pl_query.Query.{rows, rows_before}
use Rattle.pl_natural.specs.pl_query.Sources.{Tables}
use Rattle.pl_resolved.specs.declared.expression.RExpr.{RExpr}
use Rattle.pl_resolved.specs.declared.query.RQuery.{RQuery}
use Rattle.pl_engine.specs.pl_scope.declared.resolve.ResolvedExpr.{ResolvedExpr}
use Rattle.pl_value.specs.Answers.{Reads}
use Rattle.pl_value.specs.Frames.{Frame, Row}
use Rattle.pl_value.specs.Meaning.{Sub, value, values}
use Rattle.pl_value.specs.Reading.{Reading}
use Rattle.pl_value.specs.declared.operand.Unsettled.{Unsettled}
use Rattle.pl_engine.specs.pl_world.Calls.{Within, calls}
use Rattle.pl_engine.specs.pl_world.Errors.{Spot}
use Rattle.pl_engine.specs.pl_world.Expressions.{begun, inner, rows_over, value_over}
use Rattle.pl_engine.specs.pl_world.Statements.{runner_for}
use Rattle.pl_engine.specs.pl_world.Transactions.{arguments_over}
use Rattle.pl_engine.specs.pl_world.Variables.{row_of}
use Rattle.pl_engine.specs.pl_world.World.{World}

module _ (at : Spot) (room : ℕ) where
  pub agree : CallsAgree (keep at room) (calls (runner_for do_bodies room) at) calls_kept
  agree name values x = calls_agree at room name values x

  pub inside_agree : (queries : List RQuery) (tables : Tables) → SubsAgree (keep at room) (rows (calls (runner_for do_bodies room) at) queries tables) (rows calls_kept queries tables)
  inside_agree queries tables = rows_agree (keep at room) (calls (runner_for do_bodies room) at) calls_kept agree queries tables

  module _ (w : World) (row : Row) (sub : Sub Standing) (s : Standing) (begins : s ≡ fresh at room w) where
    pub value_told : (e : ResolvedExpr) (answer : Result Value Unsettled) (left : Standing) → sub ≡ rows calls_kept e.queries (tables_of w.database.tables) → Reads (value calls_kept sub e.typed.tree (row ∷ []) s) answer left
        → ReadsKept (keep at room) (value_over (runner_for do_bodies room) at e row w) answer left
    value_told e answer left same reads =
        let there : Reads (value calls_kept (rows calls_kept e.queries (tables_of w.database.tables)) e.typed.tree (row ∷ []) (fresh at room w)) answer left =
        subst (λ (t : Standing). Reads (value calls_kept (rows calls_kept e.queries (tables_of w.database.tables)) e.typed.tree (row ∷ []) t) answer left) begins
        (subst (λ (f : Sub Standing). Reads (value calls_kept f e.typed.tree (row ∷ []) s) answer left) same reads) in
        told (keep at room) (value_over (runner_for do_bodies room) at e row w) answer left
        (subst (λ (r : Reading Standing Value). Reads r answer left)
        (value_agrees (keep at room) (calls (runner_for do_bodies room) at) calls_kept agree (inner (runner_for do_bodies room) at e.queries w) (rows calls_kept e.queries (tables_of w.database.tables))
        (inside_agree e.queries (tables_of w.database.tables)) e.typed.tree (row ∷ []) (begun w)) there)

    pub rows_told : (queries : List RQuery) (answer : Result (List Row) Unsettled) (left : Standing) → row ≡ row_of w.frame → sub ≡ rows calls_kept queries (tables_of w.database.tables) → Reads (sub (last_of queries) (row ∷ []) s) answer left
        → ReadsKept (keep at room) (rows_over (runner_for do_bodies room) at queries w) answer left
    rows_told queries answer left is same reads =
        let there : Reads (rows calls_kept queries (tables_of w.database.tables) (last_of queries) (row_of w.frame ∷ []) (fresh at room w)) answer left =
        subst (λ (r : Row). Reads (rows calls_kept queries (tables_of w.database.tables) (last_of queries) (r ∷ []) (fresh at room w)) answer left) is
        (subst (λ (t : Standing). Reads (rows calls_kept queries (tables_of w.database.tables) (last_of queries) (row ∷ []) t) answer left) begins
        (subst (λ (f : Sub Standing). Reads (f (last_of queries) (row ∷ []) s) answer left) same reads)) in
        told (keep at room) (rows_over (runner_for do_bodies room) at queries w) answer left
        (subst (λ (r : Reading Standing (List Row)). Reads r answer left) (inside_agree queries (tables_of w.database.tables) (last_of queries) (row_of w.frame ∷ []) (begun w)) there)

  -- ---- arguments, in which no query stands

  none_inside : (tables : Tables) (query : ℕ) (frame : Frame) (x : Within) → no_rows query frame (keep at room x) ≡ kept (keep at room) (rows (calls (runner_for do_bodies room) at) [] tables query frame x)
  unfolding rows_before
  none_inside tables query frame x = refl

  each_agrees : (w : World) (list : List RExpr) → AllZip (PartsAgree (keep at room)) (map (value (calls (runner_for do_bodies room) at) (inner (runner_for do_bodies room) at [] w)) list) (map (value calls_kept no_rows) list)
  each_agrees w [] = tt
  each_agrees w (e ∷ es) = (
    value_agrees (keep at room) (calls (runner_for do_bodies room) at) calls_kept agree (inner (runner_for do_bodies room) at [] w) no_rows (none_inside (tables_of w.database.tables)) e,
    each_agrees w es,
  )

  pub values_told : (w : World) (row : Row) (s : Standing) → s ≡ fresh at room w → (list : List RExpr) (answer : Result (List Value) Unsettled) (left : Standing) → row ≡ row_of w.frame
      → Reads (values (map (value calls_kept no_rows) list) [] (row ∷ []) s) answer left → ReadsKept (keep at room) (arguments_over (runner_for do_bodies room) at list w) answer left
  values_told w row s begins list answer left is reads =
      let there : Reads (values (map (value calls_kept no_rows) list) [] (row_of w.frame ∷ []) (fresh at room w)) answer left =
      subst (λ (r : Row). Reads (values (map (value calls_kept no_rows) list) [] (r ∷ []) (fresh at room w)) answer left) is
      (subst (λ (t : Standing). Reads (values (map (value calls_kept no_rows) list) [] (row ∷ []) t) answer left) begins reads) in
      told (keep at room) (arguments_over (runner_for do_bodies room) at list w) answer left
      (subst (λ (r : Reading Standing (List Value)). Reads r answer left)
      (values_agree (keep at room) (map (value (calls (runner_for do_bodies room) at) (inner (runner_for do_bodies room) at [] w)) list) (map (value calls_kept no_rows) list) (each_agrees w list) [] (row_of w.frame ∷ []) (begun w)) there)
