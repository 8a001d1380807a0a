use Rattle.std.proofs.Common.{◌≡◌, ◌∙◌, sym, List, ℕ, ap, vec_len, length, rules, arith}
use Rattle.std.specs.Prelude.{slice_get}
use Rattle.std.specs.Option.{option_copied}
use Rattle.pl_unique.specs.declared.row_keys.Key.{Key}
use Rattle.pl_unique.specs.RowKeyLaws.{undone_changed}
use Rattle.pl_unique.specs.RowKeys.{changed_key, partly, undone_key, with_key, HasPlace, KeyIsFree}
use Rattle.pl_unique.proofs.RowKeys.{all_of, key_at, key_there, length_partly, one_on, partly_all, partly_back, partly_get, partly_on}
use Rattle.pl_unique.proofs.row_keys.change_keys.Goals as goal

pub change_at-requires-clause-there : goal.change_at-requires-clause-there
change_at-requires-clause-there c k is =
    let ks = c.args.keys.now.items in
    let change = changed_key c.args.place (option_copied c.args.row) in
    key_at (HasPlace c.args.place) ks c.loop-done.done k c.requires.there
    (sym (ap (λ (l : List Key). slice_get l c.loop-done.done) c.loop-done.invariant.is ∙ partly_get change c.loop-done.done ks) ∙ is)

pub loop-done-preserved : goal.loop-done-preserved
loop-done-preserved c =
    let ks = c.args.keys.now.items in
    let at = c.loop-done.done in
    let change = changed_key c.args.place (option_copied c.args.row) in
    let n : length c.loop-done.keys.items ≡ length ks = ap (λ (l : List Key). length l) c.loop-done.invariant.is ∙ length_partly change at ks in
    let l : vec_len c.loop-done.keys ≡ length c.loop-done.keys.items = search rules in
    record {
      is = c.in-Ok.ensures.ok ∙ (ap (λ (l : List Key). with_key l at change) c.loop-done.invariant.is ∙ partly_on change at ks);
      within = omega (arith, l, n, c.len.ensures, c.loop-done-test.true);
      free = one_on (KeyIsFree c.args.place (option_copied c.args.row)) at ks c.loop-done.invariant.free
          (λ k is. c.in-Ok.ensures.free k (ap (λ (l : List Key). slice_get l at) c.loop-done.invariant.is ∙ (partly_get change at ks ∙ is)));
    }

pub returns-clause-ok : goal.returns-clause-ok
returns-clause-ok c =
    let ks = c.args.keys.now.items in
    let at = c.loop-done.done in
    let change = changed_key c.args.place (option_copied c.args.row) in
    let n : length c.loop-done.keys.items ≡ length ks = ap (λ (l : List Key). length l) c.loop-done.invariant.is ∙ length_partly change at ks in
    let l : vec_len c.loop-done.keys ≡ length c.loop-done.keys.items = search rules in
    let e : at ≡ length ks = omega (arith, l, n, c.loop-done.invariant.within, c.len.ensures, c.loop-done-test.false) in
    c.loop-done.invariant.is ∙ (ap (λ (m : ℕ). partly change m ks) e ∙ partly_all change ks)

pub returns-clause-free : goal.returns-clause-free
returns-clause-free c =
    let ks = c.args.keys.now.items in
    let at = c.loop-done.done in
    let change = changed_key c.args.place (option_copied c.args.row) in
    let n : length c.loop-done.keys.items ≡ length ks = ap (λ (l : List Key). length l) c.loop-done.invariant.is ∙ length_partly change at ks in
    let l : vec_len c.loop-done.keys ≡ length c.loop-done.keys.items = search rules in
    all_of (KeyIsFree c.args.place (option_copied c.args.row)) at ks (omega (arith, l, n, c.len.ensures, c.loop-done-test.false)) c.loop-done.invariant.free

pub undo_first-requires : goal.undo_first-requires
undo_first-requires c =
    let ks = c.args.keys.now.items in
    let at = c.loop-done.done in
    let change = changed_key c.args.place (option_copied c.args.row) in
    let n : length c.loop-done.keys.items ≡ length ks = ap (λ (l : List Key). length l) c.loop-done.invariant.is ∙ length_partly change at ks in
    let m : length c.change_at.new.keys.items ≡ length c.loop-done.keys.items = ap (λ (l : List Key). length l) c.in-Err.ensures.err in
    omega (arith, n, m, c.loop-done.invariant.within)

pub returns-in-Err-clause-err : goal.returns-in-Err-clause-err
returns-in-Err-clause-err c =
    let ks = c.args.keys.now.items in
    let at = c.loop-done.done in
    let change = changed_key c.args.place (option_copied c.args.row) in
    c.undo_first.ensures
    ∙ (ap (λ (l : List Key). partly undone_key at l) (c.in-Err.ensures.err ∙ c.loop-done.invariant.is)
    ∙ partly_back change undone_key (undone_changed c.args.place (option_copied c.args.row)) at ks)

pub returns-in-Err-clause-taken : goal.returns-in-Err-clause-taken
returns-in-Err-clause-taken c at e =
    let ks = c.args.keys.now.items in
    let done = c.loop-done.done in
    let change = changed_key c.args.place (option_copied c.args.row) in
    let n : length c.loop-done.keys.items ≡ length ks = ap (λ (l : List Key). length l) c.loop-done.invariant.is ∙ length_partly change done ks in
    let l : vec_len c.loop-done.keys ≡ length c.loop-done.keys.items = search rules in
    let k = key_there ks done (omega (arith, l, n, c.len.ensures, c.loop-done-test.true)) in
    record {
      number = done;
      key = k.0;
      is = k.1;
      taken = c.change_at.ensures.taken at (c.in-Err.is ∙ e) k.0 (ap (λ (l : List Key). slice_get l done) c.loop-done.invariant.is ∙ (partly_get change done ks ∙ k.1));
    }

pub loop-done-smaller : goal.loop-done-smaller
loop-done-smaller c =
    let ks = c.args.keys.now.items in
    let change = changed_key c.args.place (option_copied c.args.row) in
    let n : length c.loop-done.keys.items ≡ length ks = ap (λ (l : List Key). length l) c.loop-done.invariant.is ∙ length_partly change c.loop-done.done ks in
    let l : vec_len c.loop-done.keys ≡ length c.loop-done.keys.items = search rules in
    omega (arith, l, n, c.len.ensures, c.loop-done-test.true)
