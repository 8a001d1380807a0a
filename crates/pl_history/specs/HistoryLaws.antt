-- Proofs about histories, for whoever keeps one.
use Rattle.std.proofs.Common.{◌≡◌, ◌-◌, ◌+◌, ℕ, zero, suc, List, [], ◌∷◌, ◌++◌, length, map, take, refl, sym, ap, ◌∙◌, arith, length-append}
use Rattle.std.specs.List.{AllByRecursion}
use Rattle.std.proofs.Math.Seq.{take-append_seam}
use Rattle.std.proofs.lemmas.List.{map-append}
use Rattle.pl_history.specs.History.{History, last_or, changed, back, seen_as, undone, past_of, history}

module _ {A : Type 0} where
  pub last_of_more : (a : A) (xs : List A) (x : A) → last_or a (xs ++ x ∷ []) ≡ x
  last_of_more a [] x = refl
  last_of_more a (y ∷ xs) x = last_of_more y xs x

  pub before_last : (xs : List A) (x : A) → take (length (xs ++ x ∷ []) - 1) (xs ++ x ∷ []) ≡ xs
  before_last xs x =
      let l : length (xs ++ x ∷ []) ≡ length xs + 1 = length-append xs (x ∷ []) in
      let m : length (xs ++ x ∷ []) - 1 ≡ length xs = omega (arith, l) in
      rw m (take-append_seam xs (x ∷ []))

  -- going back after a change leads to what was
  pub back_changed : (a : A) (h : History A) → back (changed a h) ≡ h
  back_changed a h =
      ap (λ (b : A). record { current = b; past = take (length (h.past ++ h.current ∷ []) - 1) (h.past ++ h.current ∷ []) }) (last_of_more a h.past h.current)
      ∙ ap (λ (p : List A). record { current = h.current; past = p }) (before_last h.past h.current)

  module _ (P : A → Type 0) where
    pub all_more : (xs : List A) (x : A) → AllByRecursion P xs → P x → AllByRecursion P (xs ++ x ∷ [])
    all_more [] x h p = (p, h)
    all_more (y ∷ xs) x h p = (h.0, all_more xs x h.1 p)

    pub all_less : (xs : List A) (x : A) → AllByRecursion P (xs ++ x ∷ []) → AllByRecursion P xs × P x
    all_less [] x h = (h.1, h.0)
    all_less (y ∷ xs) x h = let r = all_less xs x h.1 in ((h.0, r.0), r.1)

module _ {A B : Type 0} (f : A → B) where
  pub length_map : (xs : List A) → length (map f xs) ≡ length xs
  length_map [] = refl
  length_map (x ∷ xs) = ap suc (length_map xs)

  pub map_take : (n : ℕ) (xs : List A) → map f (take n xs) ≡ take n (map f xs)
  map_take zero xs = refl
  map_take (suc n) [] = refl
  map_take (suc n) (x ∷ xs) = ap (λ (ys : List B). f x ∷ ys) (map_take n xs)

  pub last_map : (a : A) (xs : List A) → f (last_or a xs) ≡ last_or (f a) (map f xs)
  last_map a [] = refl
  last_map a (x ∷ xs) = last_map x xs

  pub seen_changed : (a : A) (h : History A) → seen_as f (changed a h) ≡ changed (f a) (seen_as f h)
  seen_changed a h = ap (λ (p : List B). record { current = f a; past = p }) (map-append f h.past (h.current ∷ []))

  pub seen_back : (h : History A) → seen_as f (back h) ≡ back (seen_as f h)
  seen_back h =
      ap (λ (b : B). record { current = b; past = map f (take (length h.past - 1) h.past) }) (last_map h.current h.past)
      ∙ ap (λ (p : List B). record { current = last_or (f h.current) (map f h.past); past = p })
      (map_take (length h.past - 1) h.past ∙ ap (λ (n : ℕ). take (n - 1) (map f h.past)) (sym (length_map h.past)))

module _ {C A : Type 0} (undo_one : C → A → A) where
  pub undone_more : (cs : List C) (c : C) (a : A) → undone undo_one (cs ++ c ∷ []) a ≡ undone undo_one cs (undo_one c a)
  undone_more [] c a = refl
  undone_more (d ∷ cs) c a = ap (undo_one d) (undone_more cs c a)

  pub past_more : (cs : List C) (c : C) (a : A) → past_of undo_one (cs ++ c ∷ []) a ≡ past_of undo_one cs (undo_one c a) ++ undo_one c a ∷ []
  past_more [] c a = refl
  past_more (d ∷ cs) c a =
      ap (λ (n : A). undo_one d n ∷ past_of undo_one (cs ++ c ∷ []) a) (undone_more cs c a)
      ∙ ap (λ (ps : List A). undo_one d (undone undo_one cs (undo_one c a)) ∷ ps) (past_more cs c a)

  -- a change was made, which is undone to what was
  pub history_changed : (cs : List C) (c : C) (old new : A) → undo_one c new ≡ old → history undo_one (cs ++ c ∷ []) new ≡ changed new (history undo_one cs old)
  history_changed cs c old new is =
      ap (λ (p : List A). record { current = new; past = p }) (past_more cs c new ∙ ap (λ (a : A). past_of undo_one cs a ++ a ∷ []) is)

  -- the newest change is undone
  pub history_back : (cs : List C) (c : C) (a : A) → history undo_one cs (undo_one c a) ≡ back (history undo_one (cs ++ c ∷ []) a)
  history_back cs c a =
      let p = past_more cs c a in
      let last : last_or a (past_of undo_one (cs ++ c ∷ []) a) ≡ undo_one c a = ap (last_or a) p ∙ last_of_more a (past_of undo_one cs (undo_one c a)) (undo_one c a) in
      let rest : take (length (past_of undo_one (cs ++ c ∷ []) a) - 1) (past_of undo_one (cs ++ c ∷ []) a) ≡ past_of undo_one cs (undo_one c a) =
      ap (λ (l : List A). take (length l - 1) l) p ∙ before_last (past_of undo_one cs (undo_one c a)) (undo_one c a) in
      sym (ap (λ (b : A). record { current = b; past = take (length (past_of undo_one (cs ++ c ∷ []) a) - 1) (past_of undo_one (cs ++ c ∷ []) a) }) last
      ∙ ap (λ (q : List A). record { current = undo_one c a; past = q }) rest)
