use Rattle.std.proofs.Common.{◌≡◌, ◌++◌, ◌∷◌, [], ◌∙◌, List, sym, ap, subst, append-nil}
use Rattle.std.specs.List.{AllByRecursion}
use Rattle.pl_history.specs.HistoryLaws.{all_more}
use Rattle.pl_unique.specs.declared.row_keys.Key.{Key}
use Rattle.pl_unique.specs.RowKeys.{columns_of, IsNew}
use Rattle.pl_tables.proofs.Gaps.{columns_step, drop_all}
use Rattle.pl_tables.proofs.putting.same_columns.Goals as goal

pub loop-key-preserved : goal.loop-key-preserved
loop-key-preserved c =
    let ks = c.args.keys.now in
    let k : Key = c.key-item.result in
    let own : Key = record { columns = c.in_ok-columns.columns; at = c.new.result } in
    let on : c.push.new.self.items ≡ c.loop-key.made.items ++ own ∷ [] = c.in_ok-push.ensures.items in
    record {
      columns = columns_step ks c.loop-key.key-index k own c.loop-key.made.items c.push.new.self.items c.loop-key-test.true c.key-item.is on (c.in_ok-columns.ensures.items ∙ c.as_slice.ensures.value) c.loop-key.invariant.columns;
      new = subst (λ (l : List Key). AllByRecursion IsNew l) (sym on) (all_more IsNew c.loop-key.made.items own c.loop-key.invariant.new (c.new.ensures.current, c.new.ensures.past));
    }

pub returns : goal.returns
returns c =
    let ks = c.args.keys.now in
    let made = c.loop-key.made.items in
    record {
      columns = sym (append-nil (columns_of made)) ∙ (ap (λ (l : List Key). columns_of made ++ columns_of l) (sym (drop_all ks c.loop-key.key-index c.loop-key-test.false)) ∙ c.loop-key.invariant.columns);
      new = c.loop-key.invariant.new;
    }
