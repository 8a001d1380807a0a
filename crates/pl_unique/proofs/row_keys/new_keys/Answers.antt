use Rattle.std.proofs.Common.{◌≡◌, ◌<◌, ◌++◌, ◌∷◌, [], ◌∙◌, sym, subst, length, arith}
use Rattle.std.specs.List.{AllByRecursion}
use Rattle.pl_history.specs.HistoryLaws.{all_more}
use Rattle.pl_unique.specs.declared.row_keys.Key.{Key}
use Rattle.pl_unique.specs.RowKeys.{IsNew}
use Rattle.pl_unique.proofs.RowKeys.{columns_on, take_all}
use Rattle.pl_unique.proofs.row_keys.new_keys.Goals as goal

pub loop-number-preserved : goal.loop-number-preserved
loop-number-preserved c =
    let all = c.args.columns.now in
    let n = c.loop-number.number in
    let k : Key = record { columns = c.in_ok-places.places; at = c.new.result } in
    let ks = c.loop-number.keys.items in
    let is : c.push.new.self.items ≡ ks ++ k ∷ [] = c.in_ok-push.ensures.items in
    let lt : n < length all = omega (arith, c.loop-number-test.true) in
    record {
      columns = columns_on ks c.push.new.self.items all n k _ _ is c.loop-number.invariant.columns lt c.index-columns-number.is (c.in_ok-places.ensures.items ∙ c.as_slice.ensures);
      within = omega (arith, lt);
      new = subst (AllByRecursion IsNew) (sym is) (all_more IsNew ks k c.loop-number.invariant.new (c.new.ensures.current, c.new.ensures.past));
    }

pub returns-clause-columns : goal.returns-clause-columns
returns-clause-columns c =
    c.loop-number.invariant.columns ∙ take_all c.args.columns.now c.loop-number.number (omega (arith, c.loop-number-test.false))
