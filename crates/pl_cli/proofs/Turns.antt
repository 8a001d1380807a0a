-- What clap makes of one word, by its form.
use Rattle.std.proofs.Common.{◌≡◌, ◌∙◌, ◌≤◌, ◌+◌, ◌&&◌, ℕ, Bool, cond, codes, true, false, not, refl, sym, ap, subst, arith, List, [], ◌∷◌, length, Option, Some, None, inr, true≢false, nat_eq, fold}
use Rattle.std.proofs.lemmas.Bool.Decides.{nat_tests}
use Rattle.std.proofs.lemmas.List.{append-nil}
use Rattle.std.specs.Prelude.{option_map}
use Rattle.std.specs.Str.{bytes_eq}
use Rattle.clap.specs.Walk.{Held, Row, Rule, Text, Waiting, idle, option, Walk, settled, settled_rows, finished, walked, is_pending, pushed, Step, after_flag, after_step, arg_by_long, long_met}
use Rattle.clap.specs.Kinds.{Kinds, or_else}
use Rattle.clap.specs.Faults.{long_fault, step_fault, settle_fault, turn_fault, walk_fault}
use Rattle.clap.specs.declared.error.kind.ErrorKind.TheVariants as kind
use Rattle.pl_cli.specs.Command.{any_one_dash, has_one_dash}
use Rattle.pl_cli.specs.Line.{Word, Given, option_name, option_value, given_option, given, names_alone, with_name}
use Rattle.pl_cli.proofs.Rows.{Holds, Pending, faults, held, holds_script, holds_steps, holds_store, is_there, last_rows, not_there, rest_fault, row_by, rules, set_used, shape, state}
use Rattle.pl_cli.proofs.Given.{joined, so_far}
use Rattle.pl_cli.proofs.Ends.{IsAt, Verdict, done, first_rule, fourth_rule, has_fault, or_none, second_rule, third_rule}

-- clap goes over one word, or stops there
pub step_faults : (w next : Walk) (word : Word) (words : List Word) → turn_fault shape [] w word ≡ [] → walked rules [] w word ≡ next → faults w (word ∷ words) ≡ faults next words
unfolding walk_fault
step_faults w next word words fine goes =
    ap (λ (k : Kinds). or_else (or_else k (walk_fault shape [] (walked rules [] w word) words)) (rest_fault (fold (walked rules []) (walked rules [] w word) words).held)) fine ∙ ap (λ (v : Walk). faults v words) goes

pub step : (w next : Walk) (word : Word) (words : List Word) (o : Option Given) → turn_fault shape [] w word ≡ [] → walked rules [] w word ≡ next
    → Verdict (faults next words) (last_rows next words) o → Verdict (faults w (word ∷ words)) (last_rows w (word ∷ words)) o
step w next word words o fine goes verdict =
    let kinds : faults w (word ∷ words) ≡ faults next words = step_faults w next word words fine goes in
    let rows : last_rows w (word ∷ words) ≡ last_rows next words = ap (λ (v : Walk). last_rows v words) goes in
    subst (λ (k : Kinds). Verdict k (last_rows w (word ∷ words)) o) (sym kinds) (subst (λ (r : List Row). Verdict (faults next words) r o) (sym rows) verdict)

pub stop_here : (w : Walk) (word : Word) (words : List Word) → (turn_fault shape [] w word ≡ [] → ⊥) → faults w (word ∷ words) ≡ [] → ⊥
unfolding walk_fault
stop_here w word words bad none = bad (or_none _ _ (or_none _ _ none))

-- a value that a positional takes
pub cond_same : {X : Type 0} (b : Bool) (x y : X) → cond (b && false) x y ≡ y
cond_same true x y = refl
cond_same false x y = refl

first_settles : (rows : List Row) (name : Word) → row_by (codes "store") rows ≡ None → settle_fault rules false (held rows (Some (codes "store", name ∷ []))) ≡ []
first_settles rows name none = rw (not_there (codes "store") rows none) refl

second_settles : (rows : List Row) (name : Word) → row_by (codes "script") rows ≡ None → settle_fault rules false (held rows (Some (codes "script", name ∷ []))) ≡ []
second_settles rows name none = rw (not_there (codes "script") rows none) refl

steps_settle : (rows : List Row) (value : Word) → row_by (codes "steps") rows ≡ None → settle_fault rules false (held rows (Some (codes "steps", value ∷ []))) ≡ []
steps_settle rows value none = rw (not_there (codes "steps") rows none) refl

pub steps_again : (rows : List Row) (value : Word) (r : Row) → row_by (codes "steps") rows ≡ Some r → settle_fault rules false (held rows (Some (codes "steps", value ∷ []))) ≡ kind.ArgumentConflict ∷ []
steps_again rows value r is = rw (is_there (codes "steps") rows r is) refl

pub at_first : (rows : List Row) (name : Word) (steps : Option Word) (stop : Bool) → Holds rows [] steps stop → IsAt (name ∷ []) steps stop rows (Some (codes "store", name ∷ []))
at_first rows name steps stop was =
    (first_settles rows name was.store_row, subst (λ (l : List Row). Holds l (name ∷ []) steps stop) (sym (set_used (codes "store") name rows was.store_row)) (holds_store rows name steps stop was))

pub at_second : (rows : List Row) (store name : Word) (steps : Option Word) (stop : Bool) → Holds rows (store ∷ []) steps stop → IsAt (store ∷ name ∷ []) steps stop rows (Some (codes "script", name ∷ []))
at_second rows store name steps stop was =
    (second_settles rows name was.script_row, subst (λ (l : List Row). Holds l (store ∷ name ∷ []) steps stop) (sym (set_used (codes "script") name rows was.script_row)) (holds_script rows store name steps stop was))

pub at_steps : (rows : List Row) (names : List Word) (value : Word) (stop : Bool) → Holds rows names None stop → IsAt names (Some value) stop rows (Some (codes "steps", value ∷ []))
at_steps rows names value stop was =
    (steps_settle rows value was.steps_row, subst (λ (l : List Row). Holds l names (Some value) stop) (sym (set_used (codes "steps") value rows was.steps_row)) (holds_steps rows names value stop was))

-- a name, at the place of the first and of the second positional
first_turn : (rows : List Row) (pending : Pending) (waiting : Waiting) (word : Word) → turn_fault shape [] (state rows pending waiting 1 true) word ≡ settle_fault rules false (held rows pending)
first_turn rows pending waiting word = cond_same _ _ _

second_turn : (rows : List Row) (pending : Pending) (waiting : Waiting) (word : Word) → turn_fault shape [] (state rows pending waiting 2 true) word ≡ settle_fault rules false (held rows pending)
second_turn rows pending waiting word = cond_same _ _ _

first_goes : (rows : List Row) (pending : Pending) (waiting : Waiting) (word : Word)
    → walked rules [] (state rows pending waiting 1 true) word ≡ state (settled_rows rules pending rows) (Some (codes "store", word ∷ [])) idle 2 true
unfolding walked
first_goes rows pending waiting word =
    ap (λ (h : Held). let w : Walk = record { held = pushed (codes "store") word h; waiting = idle; position = 2; is_trailing = true; stopped = None } in w) (cond_same _ (held rows pending) (settled rules (held rows pending)))

second_goes : (rows : List Row) (pending : Pending) (waiting : Waiting) (word : Word)
    → walked rules [] (state rows pending waiting 2 true) word ≡ state (settled_rows rules pending rows) (Some (codes "script", word ∷ [])) idle 3 true
unfolding walked
second_goes rows pending waiting word =
    ap (λ (h : Held). let w : Walk = record { held = pushed (codes "script") word h; waiting = idle; position = 3; is_trailing = true; stopped = None } in w) (cond_same _ (held rows pending) (settled rules (held rows pending)))

pub joined_end : (g : Given) → joined g (Some (names_alone [])) ≡ Some g
joined_end g =
    let none : g.stops + 0 ≡ g.stops = omega arith in
    λ i. Some (record { names = append-nil g.names i; steps = append-nil g.steps i; stops = none i })

pub ends_here : (w : Walk) (o : Option Given) → Verdict (rest_fault w.held) (finished rules w.held) o → Verdict (faults w []) (last_rows w []) o
unfolding walk_fault
ends_here w o verdict = verdict

-- words behind `--`
pub trails : (words names : List Word) (steps : Option Word) (stop : Bool) (rows : List Row) (pending : Pending) (waiting : Waiting) → length names ≤ 2 → IsAt names steps stop rows pending
    → Verdict (faults (state rows pending waiting (1 + length names) true) words) (last_rows (state rows pending waiting (1 + length names) true) words) (joined (so_far names steps stop) (Some (names_alone words)))
trails [] names steps stop rows pending waiting few at =
    ends_here (state rows pending waiting (1 + length names) true) _ (subst (λ (o : Option Given). Verdict (rest_fault (held rows pending)) (finished rules (held rows pending)) o) (sym (joined_end (so_far names steps stop))) (done names steps stop rows pending few at))
trails (word ∷ words) [] steps stop rows pending waiting few at =
    step (state rows pending waiting 1 true) (state (settled_rows rules pending rows) (Some (codes "store", word ∷ [])) idle 2 true) word words _ (first_turn rows pending waiting word ∙ at.0) (first_goes rows pending waiting word)
    (trails words (word ∷ []) steps stop (settled_rows rules pending rows) (Some (codes "store", word ∷ [])) idle (omega arith) (at_first (settled_rows rules pending rows) word steps stop at.1))
trails (word ∷ words) (a ∷ []) steps stop rows pending waiting few at =
    step (state rows pending waiting 2 true) (state (settled_rows rules pending rows) (Some (codes "script", word ∷ [])) idle 3 true) word words _ (second_turn rows pending waiting word ∙ at.0) (second_goes rows pending waiting word)
    (trails words (a ∷ word ∷ []) steps stop (settled_rows rules pending rows) (Some (codes "script", word ∷ [])) idle (omega arith) (at_second (settled_rows rules pending rows) a word steps stop at.1))
trails (word ∷ words) (a ∷ b ∷ []) steps stop rows pending waiting few at =
    inr (stop_here (state rows pending waiting 3 true) word words (has_fault _ kind.UnknownArgument [] refl), refl)
trails (word ∷ words) (a ∷ b ∷ c ∷ more) steps stop rows pending waiting few at = absurd (omega (arith, few))

-- a use of `--steps` that clap refuses once it is settled
pub doomed_behind : (words names : List Word) (rows : List Row) (pending : Pending) (waiting : Waiting) → length names ≤ 2 → (settle_fault rules false (held rows pending) ≡ [] → ⊥)
    → faults (state rows pending waiting (1 + length names) true) words ≡ [] → ⊥
unfolding walk_fault
doomed_behind [] names rows pending waiting few bad none = bad (or_none _ _ none)
doomed_behind (word ∷ words) [] rows pending waiting few bad none = stop_here (state rows pending waiting 1 true) word words (λ fine. bad (sym (first_turn rows pending waiting word) ∙ fine)) none
doomed_behind (word ∷ words) (a ∷ []) rows pending waiting few bad none = stop_here (state rows pending waiting 2 true) word words (λ fine. bad (sym (second_turn rows pending waiting word) ∙ fine)) none
doomed_behind (word ∷ words) (a ∷ b ∷ []) rows pending waiting few bad none = stop_here (state rows pending waiting 3 true) word words (has_fault _ kind.UnknownArgument [] refl) none
doomed_behind (word ∷ words) (a ∷ b ∷ c ∷ more) rows pending waiting few bad none = omega (arith, few)

-- the forms of a word before `--`
pub data Form : Word → Type 0 where
  plain_empty : Form []
  plain : (b : ℕ) (bs : Word) → nat_eq b 45 ≡ false → Form (b ∷ bs)
  dashes : Form (45 ∷ 45 ∷ [])
  long : (x : ℕ) (xs : Word) → Form (45 ∷ 45 ∷ x ∷ xs)

pub form_of : (word : Word) → has_one_dash word ≡ false → Form word
form_of [] one = plain_empty
form_of (b ∷ bs) one = go (nat_eq b 45) refl
  where
    second : (bs : Word) → has_one_dash (45 ∷ bs) ≡ false → Form (45 ∷ bs)
    second [] one = cc
    second (c ∷ cs) one = here (nat_eq c 45) refl
      where
        rest : (cs : Word) → Form (45 ∷ 45 ∷ cs)
        rest [] = dashes
        rest (x ∷ xs) = long x xs

        here : (t : Bool) → nat_eq c 45 ≡ t → Form (45 ∷ c ∷ cs)
        here true is = let same : 45 ≡ c = grind (arith, nat_tests) in subst (λ (d : ℕ). Form (45 ∷ d ∷ cs)) same (rest cs)
        here false is = absurd (true≢false (sym (ap not is) ∙ one))

    go : (t : Bool) → nat_eq b 45 ≡ t → Form (b ∷ bs)
    go true is = let same : 45 ≡ b = grind (arith, nat_tests) in subst (λ (d : ℕ). Form (d ∷ bs)) same (second bs (subst (λ (d : ℕ). has_one_dash (d ∷ bs) ≡ false) (sym same) one))
    go false is = plain b bs is

pub head_dash : (word : Word) (words : List Word) → any_one_dash (word ∷ words) ≡ false → has_one_dash word ≡ false
head_dash word words none = go (has_one_dash word) refl
  where
    go : (t : Bool) → has_one_dash word ≡ t → has_one_dash word ≡ false
    go true is = absurd (true≢false (sym (rw is refl) ∙ none))
    go false is = is

pub tail_dash : (word : Word) (words : List Word) → has_one_dash word ≡ false → bytes_eq word (codes "--") ≡ false → any_one_dash (word ∷ words) ≡ false → any_one_dash words ≡ false
tail_dash word words one other none = sym (rw (one, other) refl) ∙ none

-- names before `--`
pub plain_first_turn : (rows : List Row) (pending : Pending) (b : ℕ) (bs : Word) → nat_eq b 45 ≡ false → turn_fault shape [] (state rows pending idle 1 false) (b ∷ bs) ≡ settle_fault rules false (held rows pending)
plain_first_turn rows pending b bs is = rw (is, is) (cond_same (is_pending first_rule pending) [] (settle_fault rules false (held rows pending)))

pub plain_second_turn : (rows : List Row) (pending : Pending) (b : ℕ) (bs : Word) → nat_eq b 45 ≡ false → turn_fault shape [] (state rows pending idle 2 false) (b ∷ bs) ≡ settle_fault rules false (held rows pending)
plain_second_turn rows pending b bs is = rw (is, is) (cond_same (is_pending second_rule pending) [] (settle_fault rules false (held rows pending)))

pub plain_third_turn : (rows : List Row) (pending : Pending) (b : ℕ) (bs : Word) → nat_eq b 45 ≡ false → turn_fault shape [] (state rows pending idle 3 false) (b ∷ bs) ≡ kind.UnknownArgument ∷ []
plain_third_turn rows pending b bs is = rw (is, is) refl

pub plain_first_goes : (rows : List Row) (pending : Pending) (b : ℕ) (bs : Word) → nat_eq b 45 ≡ false
    → walked rules [] (state rows pending idle 1 false) (b ∷ bs) ≡ state (settled_rows rules pending rows) (Some (codes "store", (b ∷ bs) ∷ [])) idle 2 false
unfolding walked
plain_first_goes rows pending b bs is =
    rw (is, is) (ap (λ (h : Held). let w : Walk = record { held = pushed (codes "store") (b ∷ bs) h; waiting = idle; position = 2; is_trailing = false; stopped = None } in w) (cond_same (is_pending first_rule pending) (held rows pending) (settled rules (held rows pending))))

pub empty_first_goes : (rows : List Row) (pending : Pending)
    → walked rules [] (state rows pending idle 1 false) [] ≡ state (settled_rows rules pending rows) (Some (codes "store", [] ∷ [])) idle 2 false
unfolding walked
empty_first_goes rows pending =
    ap (λ (h : Held). let w : Walk = record { held = pushed (codes "store") [] h; waiting = idle; position = 2; is_trailing = false; stopped = None } in w) (cond_same (is_pending first_rule pending) (held rows pending) (settled rules (held rows pending)))

pub empty_second_goes : (rows : List Row) (pending : Pending)
    → walked rules [] (state rows pending idle 2 false) [] ≡ state (settled_rows rules pending rows) (Some (codes "script", [] ∷ [])) idle 3 false
unfolding walked
empty_second_goes rows pending =
    ap (λ (h : Held). let w : Walk = record { held = pushed (codes "script") [] h; waiting = idle; position = 3; is_trailing = false; stopped = None } in w) (cond_same (is_pending second_rule pending) (held rows pending) (settled rules (held rows pending)))

pub plain_second_goes : (rows : List Row) (pending : Pending) (b : ℕ) (bs : Word) → nat_eq b 45 ≡ false
    → walked rules [] (state rows pending idle 2 false) (b ∷ bs) ≡ state (settled_rows rules pending rows) (Some (codes "script", (b ∷ bs) ∷ [])) idle 3 false
unfolding walked
plain_second_goes rows pending b bs is =
    rw (is, is) (ap (λ (h : Held). let w : Walk = record { held = pushed (codes "script") (b ∷ bs) h; waiting = idle; position = 3; is_trailing = false; stopped = None } in w) (cond_same (is_pending second_rule pending) (held rows pending) (settled rules (held rows pending))))

pub plain_given : (b : ℕ) (bs : Word) (words : List Word) → nat_eq b 45 ≡ false → given false ((b ∷ bs) ∷ words) ≡ option_map (with_name (b ∷ bs)) (given false words)
plain_given b bs words is = rw is refl

-- a value of `--steps` in a word of its own
pub plain_value_turn : (rows : List Row) (position : ℕ) (b : ℕ) (bs : Word) → nat_eq b 45 ≡ false
    → turn_fault shape [] (state rows (Some (codes "steps", [])) (option (codes "steps")) position false) (b ∷ bs) ≡ []
plain_value_turn rows position b bs is = rw (is, is) refl

pub empty_value_goes : (rows : List Row) (position : ℕ)
    → walked rules [] (state rows (Some (codes "steps", [])) (option (codes "steps")) position false) [] ≡ state rows (Some (codes "steps", [] ∷ [])) idle position false
unfolding walked
empty_value_goes rows position = refl

pub plain_value_goes : (rows : List Row) (position : ℕ) (b : ℕ) (bs : Word) → nat_eq b 45 ≡ false
    → walked rules [] (state rows (Some (codes "steps", [])) (option (codes "steps")) position false) (b ∷ bs) ≡ state rows (Some (codes "steps", (b ∷ bs) ∷ [])) idle position false
unfolding walked
plain_value_goes rows position b bs is = rw (is, is) refl

-- options
abbrev flag_met_by : Waiting → Word → Option Rule → Option Text → Held → Held × Step
flag_met_by waiting word rule value h = after_flag rules waiting word (long_met rules rule value h).0 (long_met rules rule value h).1

abbrev pub flag_turn : ℕ → Waiting → Word → Option Rule → Option Text → Held → Kinds
flag_turn position waiting word rule value h =
    or_else (long_fault rules false rule value h) (step_fault shape position (flag_met_by waiting word rule value h).0 (flag_met_by waiting word rule value h).1)

abbrev pub flag_goes : Walk → Waiting → Word → Option Rule → Option Text → Held → Walk
flag_goes w waiting word rule value h = after_step rules word w (flag_met_by waiting word rule value h).0 (flag_met_by waiting word rule value h).1

pub long_turn : (rows : List Row) (pending : Pending) (position x : ℕ) (xs : Word)
    → turn_fault shape [] (state rows pending idle position false) (45 ∷ 45 ∷ x ∷ xs) ≡ flag_turn position idle (45 ∷ 45 ∷ x ∷ xs) (arg_by_long rules (option_name (45 ∷ 45 ∷ x ∷ xs))) (option_value (45 ∷ 45 ∷ x ∷ xs)) (held rows pending)
long_turn rows pending position x xs = refl

pub long_goes : (rows : List Row) (pending : Pending) (position x : ℕ) (xs : Word)
    → walked rules [] (state rows pending idle position false) (45 ∷ 45 ∷ x ∷ xs) ≡ flag_goes (state rows pending idle position false) idle (45 ∷ 45 ∷ x ∷ xs) (arg_by_long rules (option_name (45 ∷ 45 ∷ x ∷ xs))) (option_value (45 ∷ 45 ∷ x ∷ xs)) (held rows pending)
unfolding walked
long_goes rows pending position x xs = refl

pub long_value_turn : (rows : List Row) (position x : ℕ) (xs : Word)
    → turn_fault shape [] (state rows (Some (codes "steps", [])) (option (codes "steps")) position false) (45 ∷ 45 ∷ x ∷ xs)
    ≡ flag_turn position (option (codes "steps")) (45 ∷ 45 ∷ x ∷ xs) (arg_by_long rules (option_name (45 ∷ 45 ∷ x ∷ xs))) (option_value (45 ∷ 45 ∷ x ∷ xs)) (held rows (Some (codes "steps", [])))
long_value_turn rows position x xs = refl

pub long_given : (x : ℕ) (xs : Word) (words : List Word)
    → given false ((45 ∷ 45 ∷ x ∷ xs) ∷ words) ≡ given_option (option_name (45 ∷ 45 ∷ x ∷ xs)) (option_value (45 ∷ 45 ∷ x ∷ xs)) (given false words) (given true words)
long_given x xs words = refl

pub is_steps : (name : Text) → bytes_eq (codes "steps") name ≡ true → arg_by_long rules name ≡ Some third_rule
is_steps name is = rw is refl

pub is_stop : (name : Text) → bytes_eq (codes "steps") name ≡ false → bytes_eq (codes "on-error-stop") name ≡ true → arg_by_long rules name ≡ Some fourth_rule
is_stop name other is = rw (other, is) refl

pub is_none : (name : Text) → bytes_eq (codes "steps") name ≡ false → bytes_eq (codes "on-error-stop") name ≡ false → arg_by_long rules name ≡ None
is_none name other too = rw (other, too) refl
