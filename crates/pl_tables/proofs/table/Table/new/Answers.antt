use Rattle.std.proofs.Common.{[], ◌∙◌, List, ℕ, ap, map}
use Rattle.pl_unique.specs.RowKeys.{columns_of}
use Rattle.pl_tables.specs.Undo.{content, kept, Kept}
use Rattle.pl_tables.proofs.Steps.{all_new}
use Rattle.pl_tables.proofs.table.Table.new.Goals as goal

pub invariant_of-result : goal.invariant_of-result
invariant_of-result c = all_new c.new.result (ap (λ (k : Kept). k.slots) c.new.ensures.current) c.new.ensures.past c.in_ok-keys.keys.items c.in_ok-keys.ensures.new

pub returns-clause-current : goal.returns-clause-current
returns-clause-current c =
    ap (content (columns_of c.in_ok-keys.keys.items)) c.new.ensures.current ∙ ap (λ (l : List (List ℕ)). content l (kept [] 1)) c.in_ok-keys.ensures.columns

pub returns-clause-past : goal.returns-clause-past
returns-clause-past c = ap (map (content (columns_of c.in_ok-keys.keys.items))) c.new.ensures.past
