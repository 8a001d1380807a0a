use Rattle.std.proofs.Common.{◌≡◌, ◌∙◌, List, ℕ, ap, length, arith}
use Rattle.pl_unique.specs.declared.row_keys.Key.{Key}
use Rattle.pl_unique.specs.RowKeys.{partly, undone_key, with_key}
use Rattle.pl_unique.proofs.RowKeys.{length_partly, partly_on}
use Rattle.pl_unique.proofs.row_keys.undo_first.Goals as goal

pub undo_key-requires : goal.undo_key-requires
undo_key-requires c =
    let ks = c.args.keys.now.items in
    let n : length c.loop-at.keys.items ≡ length ks = ap (λ (l : List Key). length l) c.loop-at.invariant.is ∙ length_partly undone_key c.loop-at.at ks in
    omega (arith, n, c.requires, c.loop-at-test.true)

pub loop-at-preserved : goal.loop-at-preserved
loop-at-preserved c = record {
  is = c.undo_key.ensures ∙ (ap (λ (l : List Key). with_key l c.loop-at.at undone_key) c.loop-at.invariant.is ∙ partly_on undone_key c.loop-at.at c.args.keys.now.items);
  within = omega (arith, c.loop-at-test.true);
}

pub returns : goal.returns
returns c =
    c.loop-at.invariant.is
    ∙ ap (λ (n : ℕ). partly undone_key n c.args.keys.now.items) (let e : c.loop-at.at ≡ c.args.count = omega (arith, c.loop-at.invariant.within, c.loop-at-test.false) in e)
