use Rattle.std.proofs.Common.{◌≡◌, ◌∙◌, refl, sym, Some, ap, subst, length}
use Rattle.std.specs.Prelude.{slice_get, slice_set}
use Rattle.std.specs.Option.{option_copied}
use Rattle.std.proofs.lemmas.Option.{slice_get_read}
use Rattle.pl_unique.specs.declared.row_keys.Key.{Key}
use Rattle.pl_unique.specs.RowKeys.{changed_key, IsTakenIn, KeyIsFree}
use Rattle.pl_unique.proofs.RowKeys.{key_set}
use Rattle.pl_unique.proofs.row_keys.change_at.Goals as goal

pub returns-in-Ok-clause-ok : goal.returns-in-Ok-clause-ok
returns-in-Ok-clause-ok c =
    let ks = c.args.keys.now.items in
    let has : slice_get ks c.args.number ≡ Some c.index_mut.result.now = slice_get_read ks (length ks) c.args.number c.index_mut.result.now refl c.requires.within c.index_mut.ensures.value in
    ap (λ (k : Key). slice_set ks c.args.number k) c.in-Ok.ensures.ok
    ∙ key_set (changed_key c.args.place (option_copied c.args.row)) ks c.args.number c.index_mut.result.now has

pub returns-in-Ok-clause-free : goal.returns-in-Ok-clause-free
returns-in-Ok-clause-free c k is =
    let ks = c.args.keys.now.items in
    let has : slice_get ks c.args.number ≡ Some c.index_mut.result.now = slice_get_read ks (length ks) c.args.number c.index_mut.result.now refl c.requires.within c.index_mut.ensures.value in
    let same : c.index_mut.result.now ≡ k = (let e : Some c.index_mut.result.now ≡ Some k = sym has ∙ is in cc) in
    subst (KeyIsFree c.args.place (option_copied c.args.row)) same c.in-Ok.ensures.free

pub returns-in-Err-clause-taken : goal.returns-in-Err-clause-taken
returns-in-Err-clause-taken c at e k is =
    let ks = c.args.keys.now.items in
    let has : slice_get ks c.args.number ≡ Some c.index_mut.result.now = slice_get_read ks (length ks) c.args.number c.index_mut.result.now refl c.requires.within c.index_mut.ensures.value in
    let same : c.index_mut.result.now ≡ k = (let s : Some c.index_mut.result.now ≡ Some k = sym has ∙ is in cc) in
    subst (λ (x : Key). IsTakenIn c.args.place (option_copied c.args.row) x at) same (c.change_key.ensures.taken at (c.in-Err.is ∙ e))
