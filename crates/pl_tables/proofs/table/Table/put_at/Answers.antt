use Rattle.std.proofs.Common.{◌∙◌, List, ℕ, sym, ap, subst, map}
use Rattle.std.specs.List.{AllByRecursion}
use Rattle.pl_history.specs.History.{History}
use Rattle.pl_unique.specs.declared.row_keys.Key.{Key}
use Rattle.pl_unique.specs.RowKeys.{settled_key}
use Rattle.pl_tables.specs.Rows.{put_at, Content, Holds}
use Rattle.pl_tables.specs.Undo.{content, InStep, Kept}
use Rattle.pl_tables.proofs.Laying.{on_err, on_ok, rested_content}
use Rattle.pl_tables.proofs.Steps.{all_settled}
use Rattle.pl_tables.proofs.table.Table.put_at.Goals as goal

pub put_row-requires-clause-step : goal.put_row-requires-clause-step
put_row-requires-clause-step c =
    let h = c.self.inside.heap in
    let ks = c.self.inside.keys.items in
    subst (λ (l : List Key). AllByRecursion (InStep c.forget.new.self) l) (sym c.forget_keys.ensures)
    (subst (λ (g : History Kept). AllByRecursion (InStep g) (map settled_key ks)) (sym c.forget.ensures.settled) (all_settled h ks c.self.invariant))

pub returns-clause-taken : goal.returns-clause-taken
returns-clause-taken c holder e =
    let same = rested_content c.self.inside.heap c.self.inside.keys.items c.args.self.now c.forget.new.self c.forget_keys.new.keys.items c.self.view_is c.forget.ensures.settled c.forget_keys.ensures in
    let t = c.put_row.ensures.taken holder e in
    (t.0, subst (λ (k : Content). Holds c.args.row k holder) same t.1)

pub returns-clause-free : goal.returns-clause-free
returns-clause-free c =
    let same = rested_content c.self.inside.heap c.self.inside.keys.items c.args.self.now c.forget.new.self c.forget_keys.new.keys.items c.self.view_is c.forget.ensures.settled c.forget_keys.ensures in
    on_ok c.put_row.result c.put_row.ensures.free (λ free holder holds. free holder (subst (λ (k : Content). Holds c.args.row k holder) (sym same) holds))

pub returns-clause-ok : goal.returns-clause-ok
returns-clause-ok c =
    let same = rested_content c.self.inside.heap c.self.inside.keys.items c.args.self.now c.forget.new.self c.forget_keys.new.keys.items c.self.view_is c.forget.ensures.settled c.forget_keys.ensures in
    on_ok c.put_row.result c.put_row.ensures.ok (λ is.
    ap (λ (cs : List (List ℕ)). content cs c.put_row.new.heap.current) c.put_row.ensures.columns
    ∙ (is ∙ ap (put_at c.args.id c.args.row) same))

pub returns-clause-err : goal.returns-clause-err
returns-clause-err c =
    let same = rested_content c.self.inside.heap c.self.inside.keys.items c.args.self.now c.forget.new.self c.forget_keys.new.keys.items c.self.view_is c.forget.ensures.settled c.forget_keys.ensures in
    on_err c.put_row.result c.put_row.ensures.err (λ is.
    ap (λ (cs : List (List ℕ)). content cs c.put_row.new.heap.current) c.put_row.ensures.columns ∙ (is ∙ same))
