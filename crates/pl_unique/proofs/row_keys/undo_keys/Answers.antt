use Rattle.std.proofs.Common.{◌≡◌, ◌∙◌, ℕ, ap, vec_len, length, rules, arith}
use Rattle.pl_unique.specs.RowKeys.{partly, undone_key}
use Rattle.pl_unique.proofs.RowKeys.{partly_all}
use Rattle.pl_unique.proofs.row_keys.undo_keys.Goals as goal

pub returns : goal.returns
returns c =
    let ks = c.args.keys.now.items in
    let l : vec_len c.args.keys.now ≡ length ks = search rules in
    let e : c.len-count.result ≡ length ks = omega (arith, l, c.len-count.ensures) in
    c.undo_first.ensures ∙ (ap (λ (n : ℕ). partly undone_key n ks) e ∙ partly_all undone_key ks)
