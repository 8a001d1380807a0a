use Rattle.std.proofs.Common.{◌≡◌, rules}
use Rattle.pl_alike.proofs.SameParts.{same_parts}
use Rattle.pl_tree.specs.declared.tree.Query.{out-Query}
use Rattle.pl_alike.proofs.+alike.Goals as goal

pub queries::is_same_query-returns : goal.queries::is_same_query-returns
queries::is_same_query-returns t c = λ last.
    let is_distinct : (out-Query c.args.a.now).is_distinct ≡ (out-Query c.args.b.now).is_distinct = search rules in
    let items : (out-Query c.args.a.now).items ≡ (out-Query c.args.b.now).items = search rules in
    let from : (out-Query c.args.a.now).from ≡ (out-Query c.args.b.now).from = search rules in
    let condition : (out-Query c.args.a.now).condition ≡ (out-Query c.args.b.now).condition = search rules in
    let groups : (out-Query c.args.a.now).groups ≡ (out-Query c.args.b.now).groups = search rules in
    let having : (out-Query c.args.a.now).having ≡ (out-Query c.args.b.now).having = search rules in
    let order : (out-Query c.args.a.now).order ≡ (out-Query c.args.b.now).order = search rules in
    let limit : (out-Query c.args.a.now).limit ≡ (out-Query c.args.b.now).limit = search rules in
    let offset : (out-Query c.args.a.now).offset ≡ (out-Query c.args.b.now).offset = search rules in
    same_parts c.args.a.now c.args.b.now is_distinct items from condition groups having order limit offset
