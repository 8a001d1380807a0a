use Rattle.std.proofs.Common.{◌≡◌, ◌∙◌, List, ℕ, ap, vec_len, length, rules, arith}
use Rattle.pl_unique.specs.declared.row_keys.Key.{Key}
use Rattle.pl_unique.specs.RowKeys.{partly, settled_key, with_key}
use Rattle.pl_unique.proofs.RowKeys.{length_partly, partly_all, partly_on}
use Rattle.pl_unique.proofs.row_keys.forget_keys.Goals as goal

pub loop-at-preserved : goal.loop-at-preserved
loop-at-preserved c =
    let ks = c.args.keys.now.items in
    let n : length c.loop-at.keys.items ≡ length ks = ap (λ (l : List Key). length l) c.loop-at.invariant.is ∙ length_partly settled_key c.loop-at.at ks in
    let l : vec_len c.loop-at.keys ≡ length c.loop-at.keys.items = search rules in
    record {
      is = c.forget_key.ensures ∙ (ap (λ (l : List Key). with_key l c.loop-at.at settled_key) c.loop-at.invariant.is ∙ partly_on settled_key c.loop-at.at ks);
      within = omega (arith, l, n, c.len.ensures, c.loop-at-test.true);
    }

pub returns : goal.returns
returns c =
    let ks = c.args.keys.now.items in
    let n : length c.loop-at.keys.items ≡ length ks = ap (λ (l : List Key). length l) c.loop-at.invariant.is ∙ length_partly settled_key c.loop-at.at ks in
    let l : vec_len c.loop-at.keys ≡ length c.loop-at.keys.items = search rules in
    let e : c.loop-at.at ≡ length ks = omega (arith, l, n, c.loop-at.invariant.within, c.len.ensures, c.loop-at-test.false) in
    c.loop-at.invariant.is ∙ (ap (λ (n : ℕ). partly settled_key n ks) e ∙ partly_all settled_key ks)

pub loop-at-smaller : goal.loop-at-smaller
loop-at-smaller c =
    let ks = c.args.keys.now.items in
    let n : length c.loop-at.keys.items ≡ length ks = ap (λ (l : List Key). length l) c.loop-at.invariant.is ∙ length_partly settled_key c.loop-at.at ks in
    let l : vec_len c.loop-at.keys ≡ length c.loop-at.keys.items = search rules in
    omega (arith, l, n, c.len.ensures, c.loop-at-test.true)
