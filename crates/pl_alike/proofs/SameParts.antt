use Rattle.std.proofs.Common.{◌≡◌, ◌∙◌, sym, ap}
use Rattle.pl_tree.specs.declared.tree.Query.{Query, out-Query, roll-Query, roll-out-Query}

-- queries whose parts are equal are equal
pub same_parts : (a b : Query) → (out-Query a).is_distinct ≡ (out-Query b).is_distinct → (out-Query a).items ≡ (out-Query b).items → (out-Query a).from ≡ (out-Query b).from → (out-Query a).condition ≡ (out-Query b).condition → (out-Query a).groups ≡ (out-Query b).groups → (out-Query a).having ≡ (out-Query b).having → (out-Query a).order ≡ (out-Query b).order → (out-Query a).limit ≡ (out-Query b).limit → (out-Query a).offset ≡ (out-Query b).offset → a ≡ b
same_parts a b is_distinct items from condition groups having order limit offset =
    let layers : out-Query a ≡ out-Query b = λ i. record {
      is_distinct = is_distinct i;
      items = items i;
      from = from i;
      condition = condition i;
      groups = groups i;
      having = having i;
      order = order i;
      limit = limit i;
      offset = offset i;
    } in
    sym (roll-out-Query a) ∙ ap roll-Query layers ∙ roll-out-Query b
