use Rattle.std.proofs.Common.{rules}
use Rattle.pl_keys.proofs.Marked.{noted_is}
use Rattle.pl_keys.proofs.keys.Keys.add_marked.Goals as goal

pub invariant_of-self-2 : goal.invariant_of-self-2
invariant_of-self-2 c = λ q. noted_is c.self.inside.rows.items c.args.row c.args.mark c.len.result q _ _ _ (search rules) (search rules) (c.self.invariant q) (search rules) (c.in_ok-note_first.ensures.ok q)
