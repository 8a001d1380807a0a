-- Numbers that fit, and what undoing brings back.
use Rattle.std.proofs.Common.{◌≡◌, ◌<◌, ◌≤◌, ℕ, List, [], ◌∷◌, ◌++◌, Option, Some, length, sym, ap, subst, ◌∙◌, arith, inl, inr}
use Rattle.std.proofs.lemmas.Bool.{cases_eq}
use Rattle.std.specs.List.{slice_get, slice_set, AllByRecursion}
use Rattle.pl_history.specs.declared.pairs.Change.{Change}
use Rattle.pl_history.specs.declared.pairs.Change.TheVariants.{Pushed, Set}
use Rattle.pl_history.specs.Pairs.{Inverse, Fits, IsFreeBeside}
use Rattle.pl_history.specs.HistoryLaws.{before_last, all_more, all_less, past_more, history_changed, history_back}
use Rattle.pl_history.specs.History.{changed, back, history, past_of}
use Rattle.pl_history.specs.Undo.{undo_one}
use Rattle.pl_history.proofs.Inverses.{within, same_number, set_set, set_same, at_set, beside_set}

abbrev Numbers : Type 0
Numbers = List (Option ℕ)

pub fits_more : (n m : ℕ) → n ≤ m → (ks : List Numbers) → AllByRecursion (Fits n) ks → AllByRecursion (Fits m) ks
fits_more n m le [] h = h
fits_more n m le (k ∷ ks) h =
    (record { below = λ at i is. (let b = h.0.below at i is in omega (arith, b, le)); apart = h.0.apart }, fits_more n m le ks h.1)

-- the numbers now fit
pub fits_now : (ns ps : Numbers) → Inverse ns ps → Fits (length ps) ns
fits_now ns ps inv = record {
  below = λ at n is. within ps n (Some at) ((inv at n).0 is);
  apart = λ at p n is has. same_number at p (sym ((inv at n).0 is) ∙ (inv p n).0 has);
}

pub back_pushed : (ns : Numbers) (n : Option ℕ) → undo_one Pushed (ns ++ n ∷ []) ≡ ns
back_pushed ns n =
    before_last ns n

pub back_set : (ns : Numbers) (at : ℕ) (n old : Option ℕ) → slice_get ns at ≡ Some old → undo_one (Set at old) (slice_set ns at n) ≡ ns
back_set ns at n old has = set_set ns at n old ∙ set_same ns at old has

-- a change was made
module _ (cs all : List Change) (c : Change) (old new : Numbers) (is : all ≡ cs ++ c ∷ []) (undone : undo_one c new ≡ old) where
  pub gone_on : history undo_one all new ≡ changed new (history undo_one cs old)
  gone_on = ap (λ (l : List Change). history undo_one l new) is ∙ history_changed undo_one cs c old new undone

  pub fits_on : (n m : ℕ) → m ≡ n → AllByRecursion (Fits n) (past_of undo_one cs old) → Fits n old → AllByRecursion (Fits m) (past_of undo_one all new)
  fits_on n m e h f =
      subst (λ (k : ℕ). AllByRecursion (Fits k) (past_of undo_one all new)) (sym e)
      (subst (λ (l : List Change). AllByRecursion (Fits n) (past_of undo_one l new)) (sym is)
      (subst (AllByRecursion (Fits n)) (sym (past_more undo_one cs c new ∙ ap (λ (k : Numbers). past_of undo_one cs k ++ k ∷ []) undone))
      (all_more (Fits n) (past_of undo_one cs old) old h f)))

-- a change is undone
module _ (cs all : List Change) (c : Change) (ns : Numbers) (is : all ≡ cs ++ c ∷ []) where
  pub gone_back : (new : Numbers) → new ≡ undo_one c ns → history undo_one cs new ≡ back (history undo_one all ns)
  gone_back new e = ap (history undo_one cs) e ∙ (history_back undo_one cs c ns ∙ ap (λ (l : List Change). back (history undo_one l ns)) (sym is))

  pub both_fit : (n : ℕ) → AllByRecursion (Fits n) (past_of undo_one all ns) → AllByRecursion (Fits n) (past_of undo_one cs (undo_one c ns)) × Fits n (undo_one c ns)
  both_fit n h = all_less (Fits n) (past_of undo_one cs (undo_one c ns)) (undo_one c ns)
      (subst (AllByRecursion (Fits n)) (past_more undo_one cs c ns) (subst (λ (l : List Change). AllByRecursion (Fits n) (past_of undo_one l ns)) is h))

  pub fits_back : (n m : ℕ) (new : Numbers) → m ≡ n → new ≡ undo_one c ns → AllByRecursion (Fits n) (past_of undo_one all ns) → AllByRecursion (Fits m) (past_of undo_one cs new)
  fits_back n m new e is_new h =
      subst (λ (k : ℕ). AllByRecursion (Fits k) (past_of undo_one cs new)) (sym e)
      (subst (λ (k : Numbers). AllByRecursion (Fits n) (past_of undo_one cs k)) (sym is_new) (both_fit n h).0)

-- what comes back is known, and nowhere else
module _ (ns : Numbers) (at : ℕ) (number : Option ℕ) (n : ℕ) (there : at < length ns) (fits : Fits n (slice_set ns at number)) (x : ℕ) (some : number ≡ Some x) where
  has : slice_get (slice_set ns at number) at ≡ Some (Some x)
  has = at_set ns at number there ∙ ap (λ (o : Option ℕ). let r : Option (Option ℕ) = Some o in r) some

  pub known_back : x < n
  known_back = fits.below at x has

  pub free_back : IsFreeBeside at x ns
  free_back p is =
      elim (cases_eq p at) [
        | inl e ↦ e
        | inr ne ↦ fits.apart p at x (beside_set ns at p number ne ∙ is) has
      ]
