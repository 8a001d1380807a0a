use Rattle.std.proofs.Common.{◌∙◌, List, ℕ, sym, ap, subst, map}
use Rattle.std.specs.List.{AllByRecursion}
use Rattle.pl_history.specs.History.{History}
use Rattle.pl_unique.specs.declared.row_keys.Key.{Key}
use Rattle.pl_unique.specs.RowKeys.{columns_of, settled_key}
use Rattle.pl_unique.specs.RowKeyLaws.{columns_settled}
use Rattle.pl_tables.specs.Rows.{raised, Content}
use Rattle.pl_tables.specs.Undo.{content, kept, InStep, Kept}
use Rattle.pl_tables.proofs.Steps.{all_settled}
use Rattle.pl_tables.proofs.table.Table.raise_next.Goals as goal

pub invariant_of-self : goal.invariant_of-self
invariant_of-self c =
    let h = c.self.inside.heap in
    let ks = c.self.inside.keys.items in
    subst (λ (l : List Key). AllByRecursion (InStep c.raise.new.self) l) (sym c.forget_keys.ensures)
    (subst (λ (g : History Kept). AllByRecursion (InStep g) (map settled_key ks)) (sym c.raise.ensures) (all_settled h ks c.self.invariant))

pub returns-clause-current : goal.returns-clause-current
returns-clause-current c =
    let h = c.self.inside.heap in
    let ks = c.self.inside.keys.items in
    ap (λ (g : History Kept). content (columns_of c.forget_keys.new.keys.items) g.current) c.raise.ensures
    ∙ (ap (λ (l : List Key). content (columns_of l) (kept h.current.slots c.args.next)) c.forget_keys.ensures
    ∙ (ap (λ (cs : List (List ℕ)). content cs (kept h.current.slots c.args.next)) (columns_settled ks)
    ∙ ap (λ (t : History Content). raised c.args.next t.current) c.self.view_is))
