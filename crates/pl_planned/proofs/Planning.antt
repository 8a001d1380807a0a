-- What is kept stays right, whatever is done to the journal.
use Rattle.std.proofs.Common.{◌≡◌, ◌≤◌, ◌∙◌, ◌+◌, ℕ, suc, zero, List, [], ◌∷◌, ◌++◌, Some, ap, arith, drop, length, refl, slice_get, subst, sym, take}
use Rattle.std.specs.List.{AllByRecursion}
use Rattle.pl_catalog.specs.declared.object.Object.{Object}
use Rattle.pl_planned.specs.Planned.{HasObjects, IsPlanned}
use Rattle.pl_plans.specs.Plans.{AreOver}
use Rattle.pl_plans.specs.declared.plans.Plans.{Plans}
use Rattle.pl_undo.specs.Database.{Database}
use Rattle.pl_undo.specs.Store.{Stored}

-- ---- lists

none_left : {A : Type 0} (n : ℕ) (xs : List A) → drop n (take n xs) ≡ []
none_left zero xs = refl
none_left (suc n) [] = refl
none_left (suc n) (x ∷ xs) = none_left n xs

none_past : {A : Type 0} (xs : List A) → drop (length xs) xs ≡ []
none_past [] = refl
none_past (x ∷ xs) = none_past xs

pub none_behind : {A : Type 0} (n : ℕ) (xs new : List A) → n ≡ length xs → new ≡ xs → drop n new ≡ []
none_behind {A} n xs new many same = ap (λ (m : ℕ). drop m new) many ∙ (ap (λ (ys : List A). drop (length xs) ys) same ∙ none_past xs)

module _ {A : Type 0} (P : A → Type 0) where
  all_front : (n m : ℕ) (xs : List A) → AllByRecursion P (drop n xs) → AllByRecursion P (drop n (take m xs))
  all_front zero zero xs all = tt
  all_front zero (suc m) [] all = tt
  all_front zero (suc m) (x ∷ xs) all = (all.0, all_front zero m xs all.1)
  all_front (suc n) zero xs all = tt
  all_front (suc n) (suc m) [] all = tt
  all_front (suc n) (suc m) (x ∷ xs) all = all_front n m xs all

  all_more : (n : ℕ) (xs : List A) (x : A) → AllByRecursion P (drop n xs) → P x → AllByRecursion P (drop n (xs ++ x ∷ []))
  all_more zero [] x all is = (is, tt)
  all_more zero (y ∷ xs) x all is = (all.0, all_more zero xs x all.1 is)
  all_more (suc zero) [] x all is = tt
  all_more (suc (suc n)) [] x all is = tt
  all_more (suc n) (y ∷ xs) x all is = all_more n xs x all is

  at_one : (n m : ℕ) (xs : List A) (x : A) → AllByRecursion P (drop n xs) → n ≤ m → slice_get xs m ≡ Some x → P x
  at_one n m [] x all le is = absurd cc
  at_one zero zero (y ∷ xs) x all le is = subst P (let o : Some y ≡ Some x = is in cc) all.0
  at_one zero (suc m) (y ∷ xs) x all le is = at_one zero m xs x all.1 (omega (arith, le)) is
  at_one (suc n) zero (y ∷ xs) x all le is = absurd (omega (arith, le))
  at_one (suc n) (suc m) (y ∷ xs) x all le is = at_one n m xs x all (omega (arith, le)) is

  one_left : (n : ℕ) (xs : List A) (x : A) → P x → slice_get xs n ≡ Some x → AllByRecursion P (drop n (take (suc n) xs))
  one_left n [] x has is = absurd cc
  one_left zero (y ∷ xs) x has is = (subst P (let o : Some x ≡ Some y = sym is in cc) has, tt)
  one_left (suc n) (y ∷ xs) x has is = one_left n xs x has is

-- ---- the journal

-- nothing is kept, or all that is kept was resolved over the objects now, and no mark has them
pub anew : {plans : Plans} (since : ℕ) (s : Stored) → AreOver s.now.objects plans → drop since s.marks ≡ [] → IsPlanned plans since s
anew since s over none = record { over = over; marks = subst (λ (ms : List Database). AllByRecursion (HasObjects s.now.objects) ms) (sym none) tt }

module _ {plans : Plans} {since : ℕ} (s new : Stored) (p : IsPlanned plans since s) where
  over_them : new.now.objects ≡ s.now.objects → AreOver new.now.objects plans
  over_them same = subst (λ (os : List Object). AreOver os plans) (sym same) p.over

  for_them : (ms : List Database) → new.now.objects ≡ s.now.objects → AllByRecursion (HasObjects s.now.objects) ms → AllByRecursion (HasObjects new.now.objects) ms
  for_them ms same all = subst (λ (os : List Object). AllByRecursion (HasObjects os) ms) (sym same) all

  pub stays : new.now.objects ≡ s.now.objects → new.marks ≡ s.marks → IsPlanned plans since new
  stays same marks = record {
    over = over_them same;
    marks = subst (λ (ms : List Database). AllByRecursion (HasObjects new.now.objects) (drop since ms)) (sym marks) (for_them (drop since s.marks) same p.marks);
  }

  pub marked : new.now ≡ s.now → new.marks ≡ s.marks ++ s.now ∷ [] → IsPlanned plans since new
  marked now marks =
      let same : new.now.objects ≡ s.now.objects = ap (λ (db : Database). db.objects) now in
      record {
        over = over_them same;
        marks = subst (λ (ms : List Database). AllByRecursion (HasObjects new.now.objects) (drop since ms)) (sym marks)
            (for_them (drop since (s.marks ++ s.now ∷ [])) same (all_more (HasObjects s.now.objects) since s.marks s.now p.marks refl));
      }

  front : (n : ℕ) → new.now.objects ≡ s.now.objects → new.marks ≡ take n s.marks → IsPlanned plans since new
  front n same marks = record {
    over = over_them same;
    marks = subst (λ (ms : List Database). AllByRecursion (HasObjects new.now.objects) (drop since ms)) (sym marks)
        (for_them (drop since (take n s.marks)) same (all_front (HasObjects s.now.objects) since n s.marks p.marks));
  }

  pub released : (n : ℕ) → new.now ≡ s.now → new.marks ≡ take n s.marks → IsPlanned plans since new
  released n now marks = front n (ap (λ (db : Database). db.objects) now) marks

  pub released_before : (n : ℕ) → new.now ≡ s.now → new.marks ≡ take n s.marks → IsPlanned plans n new
  released_before n now marks =
      anew n new (over_them (ap (λ (db : Database). db.objects) now)) (ap (λ (ms : List Database). drop n ms) marks ∙ none_left n s.marks)

  pub back : (n m : ℕ) → since ≤ n → slice_get s.marks n ≡ Some new.now → new.marks ≡ take m s.marks → IsPlanned plans since new
  back n m le there marks = front m (at_one (HasObjects s.now.objects) since n s.marks new.now p.marks le there) marks

-- nothing is kept, and of the marks from this one on it alone is left
pub back_before : {plans : Plans} (n : ℕ) (s new : Stored) → AreOver new.now.objects plans → slice_get s.marks n ≡ Some new.now → new.marks ≡ take (n + 1) s.marks → IsPlanned plans n new
back_before n s new over there marks =
    let left = one_left (HasObjects new.now.objects) n s.marks new.now refl there in
    let last : n + 1 ≡ suc n = omega arith in
    record {
      over = over;
      marks = subst (λ (ms : List Database). AllByRecursion (HasObjects new.now.objects) (drop n ms)) (sym (marks ∙ ap (λ (m : ℕ). take m s.marks) last)) left;
    }
