use Rattle.std.proofs.Common.{◌≡◌, ◌<◌, refl, Some, sym, vec_len, length, rules, arith}
use Rattle.std.specs.Prelude.{slice_get}
use Rattle.std.proofs.lemmas.Option.{slice_get_read}
use Rattle.pl_catalog.specs.Entries.{holding}
use Rattle.pl_catalog.proofs.Found.{entry_set, entry_past}
use Rattle.pl_catalog.proofs.entries.give_back.Goals as goal

pub returns-then-at-len : goal.returns-then-at-len
returns-then-at-len c =
    let es = c.args.entries.now.items in
    let l : vec_len c.args.entries.now ≡ length es = search rules in
    let lt : c.args.at < length es = omega (arith, l, c.len.ensures, c.if-at-len.true) in
    let has : slice_get es c.args.at ≡ Some c.index_mut.result.now = slice_get_read es (length es) c.args.at c.index_mut.result.now refl lt c.index_mut.ensures.value in
    entry_set es c.args.at c.index_mut.result.now (holding c.args.object) has

pub returns-else-at-len : goal.returns-else-at-len
returns-else-at-len c =
    let es = c.args.entries.now.items in
    let l : vec_len c.args.entries.now ≡ length es = search rules in
    sym (entry_past es c.args.at (holding c.args.object) (omega (arith, l, c.len.ensures, c.if-at-len.false)))
