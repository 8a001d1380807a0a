-- What clap makes of all the words, against what a line means.
use Rattle.std.proofs.Common.{◌≡◌, ◌∙◌, ◌≤◌, ◌+◌, ◌⊎◌, ℕ, Bool, codes, true, false, refl, sym, ap, subst, arith, List, [], ◌∷◌, ◌++◌, length, Option, Some, None, inl, inr, ⊎_elim, nat_eq}
use Rattle.std.specs.Prelude.{option_map, option_and_then}
use Rattle.std.specs.Str.{bytes_eq}
use Rattle.clap.specs.Walk.{Held, Row, Rule, Text, Waiting, idle, option, Walk, settled_rows, finished, walked, is_pending, arg_by_long}
use Rattle.clap.specs.Faults.{settle_fault, turn_fault, walk_fault}
use Rattle.clap.specs.declared.error.kind.ErrorKind.{ErrorKind}
use Rattle.clap.specs.declared.error.kind.ErrorKind.TheVariants as kind
use Rattle.pl_cli.specs.Command.{any_one_dash, has_one_dash}
use Rattle.pl_cli.specs.Line.{Word, Given, option_name, option_value, given_option, asked_of, given, with_steps, with_stop}
use Rattle.pl_cli.proofs.Rows.{Holds, Pending, faults, held, holds_steps, holds_stop, is_there, last_rows, not_there, rest_fault, row, row_by, rules, set_used, shape, state}
use Rattle.pl_cli.proofs.Given.{dash_steps, joined, joined_name, joined_steps, joined_stop, second_steps, second_stop, so_far, third_name}
use Rattle.pl_cli.proofs.Ends.{IsAt, Verdict, done, first_rule, fourth_rule, has_fault, or_none, second_rule, third_rule}
use Rattle.pl_cli.proofs.Turns.{Form, at_first, at_second, at_steps, cond_same, dashes, doomed_behind, empty_first_goes, empty_second_goes, empty_value_goes, ends_here, flag_goes, flag_turn, form_of, head_dash, is_none, is_steps, is_stop, joined_end, long, long_given, long_goes, long_turn, long_value_turn, plain, plain_empty, plain_first_goes, plain_first_turn, plain_given, plain_second_goes, plain_second_turn, plain_third_turn, plain_value_goes, plain_value_turn, step, step_faults, steps_again, stop_here, tail_dash, trails}

-- the turns over an option
module _ (rows : List Row) (pending : Pending) (position : ℕ) (word : Word) where
  abbrev here : Held
  here = held rows pending

  abbrev now : List Row
  now = settled_rows rules pending rows

  value_turn : (value : Word) → settle_fault rules false here ≡ [] → row_by (codes "steps") now ≡ None → flag_turn position idle word (Some third_rule) (Some value) here ≡ []
  value_turn value fine none = rw (fine, not_there (codes "steps") now none) refl

  value_again : (value : Word) (r : Row) → settle_fault rules false here ≡ [] → row_by (codes "steps") now ≡ Some r → flag_turn position idle word (Some third_rule) (Some value) here ≡ kind.ArgumentConflict ∷ []
  value_again value r fine is = rw (fine, is_there (codes "steps") now r is) refl

  stop_turn : settle_fault rules false here ≡ [] → row_by (codes "on-error-stop") now ≡ None → flag_turn position idle word (Some fourth_rule) None here ≡ []
  stop_turn fine none = rw (fine, not_there (codes "on-error-stop") now none) refl

  stop_again : (r : Row) → settle_fault rules false here ≡ [] → row_by (codes "on-error-stop") now ≡ Some r → flag_turn position idle word (Some fourth_rule) None here ≡ kind.ArgumentConflict ∷ []
  stop_again r fine is = rw (fine, is_there (codes "on-error-stop") now r is) refl

  -- whatever the option is, a use that isn't settled well is refused
  flag_doomed : (waiting : Waiting) (o : Option Rule) (value : Option Text) → (o ≡ None) ⊎ ((o ≡ Some third_rule) ⊎ (o ≡ Some fourth_rule)) → (settle_fault rules false here ≡ [] → ⊥) → flag_turn position waiting word o value here ≡ [] → ⊥
  flag_doomed waiting o value which bad = ⊎_elim (λ is. on_none o is) (⊎_elim (λ is. on_third o value is) (λ is. on_fourth o value is)) which
    where
      on_none : (o : Option Rule) → o ≡ None → flag_turn position waiting word o value here ≡ [] → ⊥
      on_none o is none = has_fault _ kind.UnknownArgument [] (ap (λ (p : Option Rule). flag_turn position waiting word p value here) is) none

      on_third : (o : Option Rule) (value : Option Text) → o ≡ Some third_rule → flag_turn position waiting word o value here ≡ [] → ⊥
      on_third o (Some v) is none = bad (or_none _ _ (or_none _ _ (sym (ap (λ (p : Option Rule). flag_turn position waiting word p (Some v) here) is) ∙ none)))
      on_third o None is none = bad (or_none _ _ (sym (ap (λ (p : Option Rule). flag_turn position waiting word p None here) is) ∙ none))

      on_fourth : (o : Option Rule) (value : Option Text) → o ≡ Some fourth_rule → flag_turn position waiting word o value here ≡ [] → ⊥
      on_fourth o (Some v) is none = has_fault _ kind.TooManyValues [] (ap (λ (p : Option Rule). flag_turn position waiting word p (Some v) here) is) none
      on_fourth o None is none = bad (or_none _ _ (or_none _ _ (sym (ap (λ (p : Option Rule). flag_turn position waiting word p None here) is) ∙ none)))

which_rule : (name : Text) → (arg_by_long rules name ≡ None) ⊎ ((arg_by_long rules name ≡ Some third_rule) ⊎ (arg_by_long rules name ≡ Some fourth_rule))
which_rule name = go (bytes_eq (codes "steps") name) refl (bytes_eq (codes "on-error-stop") name) refl
  where
    go : (s : Bool) → bytes_eq (codes "steps") name ≡ s → (e : Bool) → bytes_eq (codes "on-error-stop") name ≡ e
        → (arg_by_long rules name ≡ None) ⊎ ((arg_by_long rules name ≡ Some third_rule) ⊎ (arg_by_long rules name ≡ Some fourth_rule))
    go true s e stop = inr (inl (is_steps name s))
    go false s true stop = inr (inr (is_stop name s stop))
    go false s false stop = inl (is_none name s stop)

dashes_go : (rows : List Row) (pending : Pending) (position : ℕ) → walked rules [] (state rows pending idle position false) (codes "--") ≡ state rows pending idle position true
unfolding walked
dashes_go rows pending position = refl

value_dashes_go : (rows : List Row) (position : ℕ)
    → walked rules [] (state rows (Some (codes "steps", [])) (option (codes "steps")) position false) (codes "--") ≡ state rows (Some (codes "steps", [])) (option (codes "steps")) position true
unfolding walked
value_dashes_go rows position = refl

doomed_before : (words names : List Word) (rows : List Row) (pending : Pending) → length names ≤ 2 → (settle_fault rules false (held rows pending) ≡ [] → ⊥) → any_one_dash words ≡ false
    → faults (state rows pending idle (1 + length names) false) words ≡ [] → ⊥
unfolding walk_fault
doomed_before [] names rows pending few bad dash none = bad (or_none _ _ none)
doomed_before (word ∷ words) names rows pending few bad dash none = go word (form_of word (head_dash word words dash)) names few none
  where
    go : (word : Word) → Form word → (names : List Word) → length names ≤ 2 → faults (state rows pending idle (1 + length names) false) (word ∷ words) ≡ [] → ⊥
    go word plain_empty [] few none = stop_here (state rows pending idle 1 false) [] words (λ fine. bad (sym (cond_same (is_pending first_rule pending) [] (settle_fault rules false (held rows pending))) ∙ fine)) none
    go word plain_empty (a ∷ []) few none = stop_here (state rows pending idle 2 false) [] words (λ fine. bad (sym (cond_same (is_pending second_rule pending) [] (settle_fault rules false (held rows pending))) ∙ fine)) none
    go word plain_empty (a ∷ b ∷ []) few none = stop_here (state rows pending idle 3 false) [] words (has_fault _ kind.UnknownArgument [] refl) none
    go word (plain x xs is) [] few none = stop_here (state rows pending idle 1 false) (x ∷ xs) words (λ fine. bad (sym (plain_first_turn rows pending x xs is) ∙ fine)) none
    go word (plain x xs is) (a ∷ []) few none = stop_here (state rows pending idle 2 false) (x ∷ xs) words (λ fine. bad (sym (plain_second_turn rows pending x xs is) ∙ fine)) none
    go word (plain x xs is) (a ∷ b ∷ []) few none = stop_here (state rows pending idle 3 false) (x ∷ xs) words (has_fault _ kind.UnknownArgument [] (plain_third_turn rows pending x xs is)) none
    go word form (a ∷ b ∷ c ∷ more) few none = omega (arith, few)
    go word dashes names few none = doomed_behind words names rows pending idle few bad
        (sym (step_faults (state rows pending idle (1 + length names) false) (state rows pending idle (1 + length names) true) (codes "--") words refl (dashes_go rows pending (1 + length names))) ∙ none)
    go word (long x xs) names few none = stop_here (state rows pending idle (1 + length names) false) (45 ∷ 45 ∷ x ∷ xs) words
        (λ fine. flag_doomed rows pending (1 + length names) (45 ∷ 45 ∷ x ∷ xs) idle _ _ (which_rule (option_name (45 ∷ 45 ∷ x ∷ xs))) bad (sym (long_turn rows pending (1 + length names) x xs) ∙ fine)) none

-- the words before `--`, from a state in which nothing waits, and from one in which `--steps` waits for its value
abbrev Idle : List Word → Type 0
Idle words = (names : List Word) (steps : Option Word) (stop : Bool) (rows : List Row) (pending : Pending) → length names ≤ 2 → IsAt names steps stop rows pending → any_one_dash words ≡ false
    → Verdict (faults (state rows pending idle (1 + length names) false) words) (last_rows (state rows pending idle (1 + length names) false) words) (joined (so_far names steps stop) (given false words))

abbrev Waits : List Word → Type 0
Waits words = (names : List Word) (steps : Option Word) (stop : Bool) (rows : List Row) → length names ≤ 2 → Holds rows names steps stop → any_one_dash words ≡ false
    → Verdict (faults (state rows (Some (codes "steps", [])) (option (codes "steps")) (1 + length names) false) words)
    (last_rows (state rows (Some (codes "steps", [])) (option (codes "steps")) (1 + length names) false) words) (joined (so_far names steps stop) (given true words))

as_given : (w : Walk) (words : List Word) (o p : Option Given) → p ≡ o → Verdict (faults w words) (last_rows w words) p → Verdict (faults w words) (last_rows w words) o
as_given w words o p same verdict = subst (λ (q : Option Given). Verdict (faults w words) (last_rows w words) q) same verdict

idle_end : Idle []
idle_end names steps stop rows pending few at dash =
    ends_here (state rows pending idle (1 + length names) false) _ (subst (λ (o : Option Given). Verdict (rest_fault (held rows pending)) (finished rules (held rows pending)) o) (sym (joined_end (so_far names steps stop))) (done names steps stop rows pending few at))

waits_end : Waits []
waits_end names steps stop rows few holds dash =
    ends_here (state rows (Some (codes "steps", [])) (option (codes "steps")) (1 + length names) false) _ (inr (has_fault _ kind.InvalidValue [] refl, refl))

idle_dashes : (words : List Word) (names : List Word) (steps : Option Word) (stop : Bool) (rows : List Row) (pending : Pending) → length names ≤ 2 → IsAt names steps stop rows pending
    → Verdict (faults (state rows pending idle (1 + length names) false) (codes "--" ∷ words)) (last_rows (state rows pending idle (1 + length names) false) (codes "--" ∷ words)) (joined (so_far names steps stop) (given false (codes "--" ∷ words)))
idle_dashes words names steps stop rows pending few at =
    step (state rows pending idle (1 + length names) false) (state rows pending idle (1 + length names) true) (codes "--") words _ refl (dashes_go rows pending (1 + length names)) (trails words names steps stop rows pending idle few at)

idle_empty : (words : List Word) → Idle words → (names : List Word) (steps : Option Word) (stop : Bool) (rows : List Row) (pending : Pending) → length names ≤ 2 → IsAt names steps stop rows pending → any_one_dash words ≡ false
    → Verdict (faults (state rows pending idle (1 + length names) false) ([] ∷ words)) (last_rows (state rows pending idle (1 + length names) false) ([] ∷ words)) (joined (so_far names steps stop) (given false ([] ∷ words)))
idle_empty words more [] steps stop rows pending few at dash =
    as_given (state rows pending idle 1 false) ([] ∷ words) _ _ (sym (joined_name (so_far [] steps stop) [] (given false words)))
    (step (state rows pending idle 1 false) (state (settled_rows rules pending rows) (Some (codes "store", [] ∷ [])) idle 2 false) [] words _ (cond_same (is_pending first_rule pending) [] (settle_fault rules false (held rows pending)) ∙ at.0) (empty_first_goes rows pending)
    (more ([] ∷ []) steps stop (settled_rows rules pending rows) (Some (codes "store", [] ∷ [])) (omega arith) (at_first (settled_rows rules pending rows) [] steps stop at.1) dash))
idle_empty words more (a ∷ []) steps stop rows pending few at dash =
    as_given (state rows pending idle 2 false) ([] ∷ words) _ _ (sym (joined_name (so_far (a ∷ []) steps stop) [] (given false words)))
    (step (state rows pending idle 2 false) (state (settled_rows rules pending rows) (Some (codes "script", [] ∷ [])) idle 3 false) [] words _ (cond_same (is_pending second_rule pending) [] (settle_fault rules false (held rows pending)) ∙ at.0) (empty_second_goes rows pending)
    (more (a ∷ [] ∷ []) steps stop (settled_rows rules pending rows) (Some (codes "script", [] ∷ [])) (omega arith) (at_second (settled_rows rules pending rows) a [] steps stop at.1) dash))
idle_empty words more (a ∷ b ∷ []) steps stop rows pending few at dash = inr (stop_here (state rows pending idle 3 false) [] words (has_fault _ kind.UnknownArgument [] refl), third_name a b [] steps stop (given false words))
idle_empty words more (a ∷ b ∷ c ∷ names) steps stop rows pending few at dash = absurd (omega (arith, few))

idle_plain : (x : ℕ) (xs : Word) → nat_eq x 45 ≡ false → (words : List Word) → Idle words → (names : List Word) (steps : Option Word) (stop : Bool) (rows : List Row) (pending : Pending) → length names ≤ 2 → IsAt names steps stop rows pending → any_one_dash words ≡ false
    → Verdict (faults (state rows pending idle (1 + length names) false) ((x ∷ xs) ∷ words)) (last_rows (state rows pending idle (1 + length names) false) ((x ∷ xs) ∷ words)) (joined (so_far names steps stop) (given false ((x ∷ xs) ∷ words)))
idle_plain x xs is words more [] steps stop rows pending few at dash =
    as_given (state rows pending idle 1 false) ((x ∷ xs) ∷ words) _ _ (sym (ap (joined (so_far [] steps stop)) (plain_given x xs words is) ∙ joined_name (so_far [] steps stop) (x ∷ xs) (given false words)))
    (step (state rows pending idle 1 false) (state (settled_rows rules pending rows) (Some (codes "store", (x ∷ xs) ∷ [])) idle 2 false) (x ∷ xs) words _ (plain_first_turn rows pending x xs is ∙ at.0) (plain_first_goes rows pending x xs is)
    (more ((x ∷ xs) ∷ []) steps stop (settled_rows rules pending rows) (Some (codes "store", (x ∷ xs) ∷ [])) (omega arith) (at_first (settled_rows rules pending rows) (x ∷ xs) steps stop at.1) dash))
idle_plain x xs is words more (a ∷ []) steps stop rows pending few at dash =
    as_given (state rows pending idle 2 false) ((x ∷ xs) ∷ words) _ _ (sym (ap (joined (so_far (a ∷ []) steps stop)) (plain_given x xs words is) ∙ joined_name (so_far (a ∷ []) steps stop) (x ∷ xs) (given false words)))
    (step (state rows pending idle 2 false) (state (settled_rows rules pending rows) (Some (codes "script", (x ∷ xs) ∷ [])) idle 3 false) (x ∷ xs) words _ (plain_second_turn rows pending x xs is ∙ at.0) (plain_second_goes rows pending x xs is)
    (more (a ∷ (x ∷ xs) ∷ []) steps stop (settled_rows rules pending rows) (Some (codes "script", (x ∷ xs) ∷ [])) (omega arith) (at_second (settled_rows rules pending rows) a (x ∷ xs) steps stop at.1) dash))
idle_plain x xs is words more (a ∷ b ∷ []) steps stop rows pending few at dash =
    inr (stop_here (state rows pending idle 3 false) (x ∷ xs) words (has_fault _ kind.UnknownArgument [] (plain_third_turn rows pending x xs is)), ap (λ (o : Option Given). option_and_then asked_of (joined (so_far (a ∷ b ∷ []) steps stop) o)) (plain_given x xs words is) ∙ third_name a b (x ∷ xs) steps stop (given false words))
idle_plain x xs is words more (a ∷ b ∷ c ∷ names) steps stop rows pending few at dash = absurd (omega (arith, few))

pub gives_value : (name value : Word) (rest after_value : Option Given) → bytes_eq (codes "steps") name ≡ true → given_option name (Some value) rest after_value ≡ option_map (with_steps value) rest
gives_value name value rest after_value is = rw is refl

pub gives_next : (name : Word) (rest after_value : Option Given) → bytes_eq (codes "steps") name ≡ true → given_option name None rest after_value ≡ after_value
gives_next name rest after_value is = rw is refl

pub gives_stop : (name : Word) (rest after_value : Option Given) → bytes_eq (codes "steps") name ≡ false → bytes_eq (codes "on-error-stop") name ≡ true → given_option name None rest after_value ≡ option_map with_stop rest
gives_stop name rest after_value other is = rw (other, is) refl

pub gives_no_value : (name value : Word) (rest after_value : Option Given) → bytes_eq (codes "steps") name ≡ false → given_option name (Some value) rest after_value ≡ None
gives_no_value name value rest after_value is = rw is refl

pub gives_none : (name : Word) (rest after_value : Option Given) → bytes_eq (codes "steps") name ≡ false → bytes_eq (codes "on-error-stop") name ≡ false → given_option name None rest after_value ≡ None
gives_none name rest after_value other is = rw (other, is) refl

module _ (x : ℕ) (xs : Word) (words names : List Word) (rows : List Row) (pending : Pending) where
  abbrev pub word : Word
  word = 45 ∷ 45 ∷ x ∷ xs

  abbrev pub w : Walk
  w = state rows pending idle (1 + length names) false

  abbrev S : List Row
  S = settled_rows rules pending rows

  turn : (o : Option Rule) (v : Option Text) → arg_by_long rules (option_name word) ≡ o → option_value word ≡ v → turn_fault shape [] w word ≡ flag_turn (1 + length names) idle word o v (held rows pending)
  turn o v rule value = long_turn rows pending (1 + length names) x xs ∙ (λ i. flag_turn (1 + length names) idle word (rule i) (value i) (held rows pending))

  goes : (o : Option Rule) (v : Option Text) → arg_by_long rules (option_name word) ≡ o → option_value word ≡ v → walked rules [] w word ≡ flag_goes w idle word o v (held rows pending)
  goes o v rule value = long_goes rows pending (1 + length names) x xs ∙ (λ i. flag_goes w idle word (rule i) (value i) (held rows pending))

  gives : (v : Option Text) → option_value word ≡ v → given false (word ∷ words) ≡ given_option (option_name word) v (given false words) (given true words)
  gives v value = long_given x xs words ∙ ap (λ (u : Option Text). given_option (option_name word) u (given false words) (given true words)) value

  refused : (o : Option Rule) (v : Option Text) (k : ErrorKind) (steps : Option Word) (stop : Bool) → arg_by_long rules (option_name word) ≡ o → option_value word ≡ v
      → flag_turn (1 + length names) idle word o v (held rows pending) ≡ k ∷ [] → option_and_then asked_of (joined (so_far names steps stop) (given_option (option_name word) v (given false words) (given true words))) ≡ None
      → Verdict (faults w (word ∷ words)) (last_rows w (word ∷ words)) (joined (so_far names steps stop) (given false (word ∷ words)))
  refused o v k steps stop rule value fault none =
      inr (stop_here w word words (has_fault _ k [] (turn o v rule value ∙ fault)), ap (λ (p : Option Given). option_and_then asked_of (joined (so_far names steps stop) p)) (gives v value) ∙ none)

  taken : (o : Option Rule) (v : Option Text) (next : Walk) (g : Given) (p : Option Given) (steps : Option Word) (stop : Bool) → arg_by_long rules (option_name word) ≡ o → option_value word ≡ v
      → flag_turn (1 + length names) idle word o v (held rows pending) ≡ [] → flag_goes w idle word o v (held rows pending) ≡ next
      → joined (so_far names steps stop) (given_option (option_name word) v (given false words) (given true words)) ≡ joined g p
      → Verdict (faults next words) (last_rows next words) (joined g p)
      → Verdict (faults w (word ∷ words)) (last_rows w (word ∷ words)) (joined (so_far names steps stop) (given false (word ∷ words)))
  taken o v next g p steps stop rule value fine at_next same verdict =
      as_given w (word ∷ words) _ _ (sym (ap (joined (so_far names steps stop)) (gives v value) ∙ same))
      (step w next word words _ (turn o v rule value ∙ fine) (goes o v rule value ∙ at_next) verdict)

  go : Idle words → Waits words → length names ≤ 2 → any_one_dash words ≡ false → (s : Bool) → bytes_eq (codes "steps") (option_name word) ≡ s → (e : Bool) → bytes_eq (codes "on-error-stop") (option_name word) ≡ e → (v : Option Text) → option_value word ≡ v
      → (steps : Option Word) (stop : Bool) → IsAt names steps stop rows pending
      → Verdict (faults w (word ∷ words)) (last_rows w (word ∷ words)) (joined (so_far names steps stop) (given false (word ∷ words)))
  go more waits few dash true s e is_e (Some v) value None stop at =
      taken (Some third_rule) (Some v) (state (S ++ row (codes "steps") v ∷ []) None idle (1 + length names) false) (so_far names (Some v) stop) (given false words) None stop (is_steps (option_name word) s) value
      (value_turn rows pending (1 + length names) word v at.0 at.1.steps_row)
      (ap (λ (l : List Row). state l None idle (1 + length names) false) (set_used (codes "steps") v S at.1.steps_row))
      (ap (joined (so_far names None stop)) (gives_value (option_name word) v (given false words) (given true words) s) ∙ joined_steps names stop v (given false words))
      (more names (Some v) stop (S ++ row (codes "steps") v ∷ []) None few (refl, holds_steps S names v stop at.1) dash)
  go more waits few dash true s e is_e (Some v) value (Some u) stop at =
      refused (Some third_rule) (Some v) kind.ArgumentConflict (Some u) stop (is_steps (option_name word) s) value (value_again rows pending (1 + length names) word v (row (codes "steps") u) at.0 at.1.steps_row)
      (ap (λ (p : Option Given). option_and_then asked_of (joined (so_far names (Some u) stop) p)) (gives_value (option_name word) v (given false words) (given true words) s) ∙ second_steps names u v stop (given false words))
  go more waits few dash true s e is_e None value steps stop at =
      taken (Some third_rule) None (state S (Some (codes "steps", [])) (option (codes "steps")) (1 + length names) false) (so_far names steps stop) (given true words) steps stop (is_steps (option_name word) s) value
      (rw at.0 refl) refl (ap (joined (so_far names steps stop)) (gives_next (option_name word) (given false words) (given true words) s)) (waits names steps stop S few at.1 dash)
  go more waits few dash false s true is_e None value steps false at =
      taken (Some fourth_rule) None (state (S ++ row (codes "on-error-stop") (codes "true") ∷ []) None idle (1 + length names) false) (so_far names steps true) (given false words) steps false (is_stop (option_name word) s is_e) value
      (stop_turn rows pending (1 + length names) word at.0 at.1.stop_row)
      (ap (λ (l : List Row). state l None idle (1 + length names) false) (set_used (codes "on-error-stop") (codes "true") S at.1.stop_row))
      (ap (joined (so_far names steps false)) (gives_stop (option_name word) (given false words) (given true words) s is_e) ∙ joined_stop names steps (given false words))
      (more names steps true (S ++ row (codes "on-error-stop") (codes "true") ∷ []) None few (refl, holds_stop S names steps at.1) dash)
  go more waits few dash false s true is_e None value steps true at =
      refused (Some fourth_rule) None kind.ArgumentConflict steps true (is_stop (option_name word) s is_e) value (stop_again rows pending (1 + length names) word (row (codes "on-error-stop") (codes "true")) at.0 at.1.stop_row)
      (ap (λ (p : Option Given). option_and_then asked_of (joined (so_far names steps true) p)) (gives_stop (option_name word) (given false words) (given true words) s is_e) ∙ second_stop names steps (given false words))
  go more waits few dash false s true is_e (Some v) value steps stop at =
      refused (Some fourth_rule) (Some v) kind.TooManyValues steps stop (is_stop (option_name word) s is_e) value refl (ap (λ (p : Option Given). option_and_then asked_of (joined (so_far names steps stop) p)) (gives_no_value (option_name word) v (given false words) (given true words) s))
  go more waits few dash false s false is_e (Some v) value steps stop at =
      refused None (Some v) kind.UnknownArgument steps stop (is_none (option_name word) s is_e) value refl (ap (λ (p : Option Given). option_and_then asked_of (joined (so_far names steps stop) p)) (gives_no_value (option_name word) v (given false words) (given true words) s))
  go more waits few dash false s false is_e None value steps stop at =
      refused None None kind.UnknownArgument steps stop (is_none (option_name word) s is_e) value refl (ap (λ (p : Option Given). option_and_then asked_of (joined (so_far names steps stop) p)) (gives_none (option_name word) (given false words) (given true words) s is_e))

  idle_long : Idle words → Waits words → (steps : Option Word) (stop : Bool) → length names ≤ 2 → IsAt names steps stop rows pending → any_one_dash words ≡ false
      → Verdict (faults w (word ∷ words)) (last_rows w (word ∷ words)) (joined (so_far names steps stop) (given false (word ∷ words)))
  idle_long more waits steps stop few at dash =
      go more waits few dash (bytes_eq (codes "steps") (option_name word)) refl (bytes_eq (codes "on-error-stop") (option_name word)) refl (option_value word) refl steps stop at

-- a word where `--steps` waits for its value
value_step : (value : Word) (words names : List Word) (steps : Option Word) (stop : Bool) (rows : List Row) → length names ≤ 2 → Holds rows names steps stop → Idle words → any_one_dash words ≡ false
    → Verdict (faults (state rows (Some (codes "steps", value ∷ [])) idle (1 + length names) false) words) (last_rows (state rows (Some (codes "steps", value ∷ [])) idle (1 + length names) false) words)
    (joined (so_far names steps stop) (given true (value ∷ words)))
value_step value words names None stop rows few holds more dash =
    as_given (state rows (Some (codes "steps", value ∷ [])) idle (1 + length names) false) words _ _ (sym (joined_steps names stop value (given false words)))
    (more names (Some value) stop rows (Some (codes "steps", value ∷ [])) few (at_steps rows names value stop holds) dash)
value_step value words names (Some u) stop rows few holds more dash = inr (
  doomed_before words names rows (Some (codes "steps", value ∷ [])) few (has_fault _ kind.ArgumentConflict [] (steps_again rows value (row (codes "steps") u) holds.steps_row)) dash,
  second_steps names u value stop (given false words),
)

waits_word : (word : Word) → Form word → (words : List Word) → Idle words → (names : List Word) (steps : Option Word) (stop : Bool) (rows : List Row) → length names ≤ 2 → Holds rows names steps stop
    → has_one_dash word ≡ false → any_one_dash (word ∷ words) ≡ false
    → Verdict (faults (state rows (Some (codes "steps", [])) (option (codes "steps")) (1 + length names) false) (word ∷ words))
    (last_rows (state rows (Some (codes "steps", [])) (option (codes "steps")) (1 + length names) false) (word ∷ words)) (joined (so_far names steps stop) (given true (word ∷ words)))
waits_word word plain_empty words more names steps stop rows few holds one dash =
    step (state rows (Some (codes "steps", [])) (option (codes "steps")) (1 + length names) false) (state rows (Some (codes "steps", [] ∷ [])) idle (1 + length names) false) [] words _ refl (empty_value_goes rows (1 + length names))
    (value_step [] words names steps stop rows few holds more dash)
waits_word word (plain x xs is) words more names steps stop rows few holds one dash =
    let other : bytes_eq (x ∷ xs) (codes "--") ≡ false = rw is refl in
    step (state rows (Some (codes "steps", [])) (option (codes "steps")) (1 + length names) false) (state rows (Some (codes "steps", (x ∷ xs) ∷ [])) idle (1 + length names) false) (x ∷ xs) words _
    (plain_value_turn rows (1 + length names) x xs is) (plain_value_goes rows (1 + length names) x xs is) (value_step (x ∷ xs) words names steps stop rows few holds more (tail_dash (x ∷ xs) words one other dash))
waits_word word dashes words more names steps stop rows few holds one dash =
    step (state rows (Some (codes "steps", [])) (option (codes "steps")) (1 + length names) false) (state rows (Some (codes "steps", [])) (option (codes "steps")) (1 + length names) true) (codes "--") words _ refl (value_dashes_go rows (1 + length names))
    (inr (doomed_behind words names rows (Some (codes "steps", [])) (option (codes "steps")) few (has_fault _ kind.InvalidValue [] refl), dash_steps names steps (codes "--") stop (given false words) refl))
waits_word word (long x xs) words more names steps stop rows few holds one dash = inr (
  stop_here (state rows (Some (codes "steps", [])) (option (codes "steps")) (1 + length names) false) (45 ∷ 45 ∷ x ∷ xs) words (λ fine. flag_doomed rows (Some (codes "steps", [])) (1 + length names) (45 ∷ 45 ∷ x ∷ xs) (option (codes "steps")) _ _
      (which_rule (option_name (45 ∷ 45 ∷ x ∷ xs))) (has_fault _ kind.InvalidValue [] refl) (sym (long_value_turn rows (1 + length names) x xs) ∙ fine)),
  dash_steps names steps (45 ∷ 45 ∷ x ∷ xs) stop (given false words) refl,
)

idle_word : (word : Word) → Form word → (words : List Word) → Idle words → Waits words → (names : List Word) (steps : Option Word) (stop : Bool) (rows : List Row) (pending : Pending) → length names ≤ 2 → IsAt names steps stop rows pending
    → has_one_dash word ≡ false → any_one_dash (word ∷ words) ≡ false
    → Verdict (faults (state rows pending idle (1 + length names) false) (word ∷ words)) (last_rows (state rows pending idle (1 + length names) false) (word ∷ words)) (joined (so_far names steps stop) (given false (word ∷ words)))
idle_word word plain_empty words more waits names steps stop rows pending few at one dash = idle_empty words more names steps stop rows pending few at dash
idle_word word (plain x xs is) words more waits names steps stop rows pending few at one dash =
    let other : bytes_eq (x ∷ xs) (codes "--") ≡ false = rw is refl in
    idle_plain x xs is words more names steps stop rows pending few at (tail_dash (x ∷ xs) words one other dash)
idle_word word dashes words more waits names steps stop rows pending few at one dash = idle_dashes words names steps stop rows pending few at
idle_word word (long x xs) words more waits names steps stop rows pending few at one dash = idle_long x xs words names rows pending more waits steps stop few at (tail_dash (45 ∷ 45 ∷ x ∷ xs) words one refl dash)

pub both : (words : List Word) → Idle words × Waits words
both [] = (idle_end, waits_end)
both (word ∷ words) =
    let rest = both words in (
      λ names steps stop rows pending few at dash. let one = head_dash word words dash in idle_word word (form_of word one) words rest.0 rest.1 names steps stop rows pending few at one dash,
      λ names steps stop rows few holds dash. let one = head_dash word words dash in waits_word word (form_of word one) words rest.0 names steps stop rows few holds one dash,
    )

pub joined_nothing : (o : Option Given) → joined (so_far [] None false) o ≡ o
joined_nothing None = refl
joined_nothing (Some g) = let is : 0 + g.stops ≡ g.stops = omega arith in ap (λ (k : ℕ). Some (record g { stops = k })) is

pub at_start : IsAt [] None false [] None
at_start = (refl, record { store_row = refl; script_row = refl; steps_row = refl; stop_row = refl })
