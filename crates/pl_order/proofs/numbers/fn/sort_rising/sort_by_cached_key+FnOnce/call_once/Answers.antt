use Rattle.std.proofs.Common.{rules, ◌∙◌, w64}
use Rattle.std.proofs.lemmas.Int.{to_z-of_z}
use Rattle.pl_order.proofs.numbers.fn.sort_rising.sort_by_cached_key+FnOnce.call_once.Goals as goal

pub returns : goal.returns
returns c = (c.sort_by_cached_key.new.arg1, (search rules, to_z-of_z w64 c.sort_by_cached_key.result (search rules) ∙ c.sort_by_cached_key.ensures))
