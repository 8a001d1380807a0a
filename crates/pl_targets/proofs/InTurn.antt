-- What SET says, one assignment after the other.
use Rattle.std.proofs.Common.{◌≡◌, ◌<◌, ◌+◌, ◌∙◌, refl, sym, ap, subst, ℕ, List, ◌∷◌, drop, get_or, length, Result, Ok, Err, add-one, drop-cons}
use Rattle.std.specs.Prelude.{IsErrAnd}
use Rattle.pl_catalog.specs.declared.object.Column.{Column}
use Rattle.pl_names.specs.Names.{Around}
use Rattle.pl_scope.specs.Answers.{Answer, got, then_answer, Meets}
use Rattle.pl_scope.specs.declared.made.Made.{Made}
use Rattle.pl_targets.specs.Values.{settings_on, with_setting}
use Rattle.pl_targets.specs.declared.values.Settings.{Settings}
use Rattle.pl_tree.specs.declared.command.Assignment.{Assignment}
use Rattle.pl_assigning.specs.pl_typing.declared.fail.ScopeFail.{ScopeFail}
use Rattle.pl_assigning.specs.pl_typing.declared.fail.ScopeFail.TheVariants.{State as Fails, Memory}

front : {A : Type 0} (xs : List A) (i : ℕ) (x : A) → i < length xs → x ≡ get_or xs i x → drop i xs ≡ x ∷ drop (i + 1) xs
front xs i x lt is = rw (add-one, drop-cons xs i x lt, ← is) refl

handed_on : (m : Answer Settings) (r : Result Settings ScopeFail) (why : ScopeFail) (made : Made) → IsErrAnd r (λ e. e ≡ why) → Meets {A = Settings} m (Err why) made → Meets m r made
handed_on m (Ok x) why made is meets = absurd is
handed_on m (Err e) why made is meets = subst (λ (e : ScopeFail). Meets {A = Settings} m (Err e) made) (sym is) meets

module _ (columns : List Column) (a : Around) (list : List Assignment) (i : ℕ) (s : Assignment) (lt : i < length list) (at : s ≡ get_or list i s) where
  -- the next one, and then the rest
  behind : (whole : Answer Settings) (done : Settings) (made : Made) → whole ≡ settings_on (drop i list) columns done a made
      → whole ≡ then_answer (with_setting s columns done a made) (λ x made. settings_on (drop (i + 1) list) columns x a made)
  behind whole done made reads = reads ∙ ap (λ (l : List Assignment). settings_on l columns done a made) (front list i s lt at)

  pub set_more : (whole : Answer Settings) (done done' : Settings) (made made' : Made) → whole ≡ settings_on (drop i list) columns done a made
      → with_setting s columns done a made ≡ got done' made' → whole ≡ settings_on (drop (i + 1) list) columns done' a made'
  set_more whole done done' made made' reads gives =
      behind whole done made reads ∙ ap (λ (q : Answer Settings). then_answer q (λ x made. settings_on (drop (i + 1) list) columns x a made)) gives

  failed : (whole : Answer Settings) (done : Settings) (made made' : Made) (why : ScopeFail) → whole ≡ settings_on (drop i list) columns done a made
      → Meets {A = Settings} (with_setting s columns done a made) (Err why) made' → Meets {A = Settings} whole (Err why) made'
  failed whole done made made' (Fails state) reads is =
      behind whole done made reads ∙ ap (λ (q : Answer Settings). then_answer q (λ x made. settings_on (drop (i + 1) list) columns x a made)) is
  failed whole done made made' Memory reads is = tt

  pub set_failed : (whole : Answer Settings) (done : Settings) (made made' : Made) (why : ScopeFail) (r : Result Settings ScopeFail) → IsErrAnd r (λ e. e ≡ why)
      → whole ≡ settings_on (drop i list) columns done a made → Meets {A = Settings} (with_setting s columns done a made) (Err why) made' → Meets whole r made'
  set_failed whole done made made' why r passed reads is = handed_on whole r why made' passed (failed whole done made made' why reads is)
