-- A word with one dash before `--` makes a line wrong.
use Rattle.std.proofs.Common.{◌≡◌, ◌∙◌, ◌+◌, ◌&&◌, ℕ, Bool, codes, true, false, not, suc, refl, sym, ap, subst, arith, List, [], ◌∷◌, ◌++◌, drop, Option, Some, None, true≢false, nat_eq, append_assoc}
use Rattle.std.proofs.lemmas.Bool.Decides.{nat_tests}
use Rattle.std.specs.Prelude.{option_map, option_and_then}
use Rattle.std.specs.Str.{bytes_eq}
use Rattle.pl_cli.specs.Command.{any_one_dash, has_one_dash}
use Rattle.pl_cli.specs.Line.{Word, Given, asked, has_dash, option_name, option_value, given_option, asked_by, asked_of, given, with_name, with_steps, with_stop, steps_of, steps_read, stops_of}
use Rattle.pl_cli.proofs.Given.{joined, joined_name, no_steps, so_far}
use Rattle.pl_cli.proofs.Turns.{Form, dashes, form_of, long, long_given, plain, plain_empty, plain_given}
use Rattle.pl_cli.proofs.Walks.{gives_next, gives_no_value, gives_none, gives_stop, gives_value, joined_nothing}

-- a word with one dash before `--`
joined_value : (g : Given) (value : Word) (o : Option Given) → joined g (option_map (with_steps value) o) ≡ joined (record g { steps = g.steps ++ value ∷ [] }) o
joined_value g value None = refl
joined_value g value (Some h) = ap (λ (l : List Word). Some (record { names = g.names ++ h.names; steps = l; stops = g.stops + h.stops })) (sym (append_assoc g.steps (value ∷ []) h.steps))

joined_stops : (g : Given) (o : Option Given) → joined g (option_map with_stop o) ≡ joined (record g { stops = g.stops + 1 }) o
joined_stops g None = refl
joined_stops g (Some h) = let is : g.stops + suc h.stops ≡ g.stops + 1 + h.stops = omega arith in ap (λ (k : ℕ). Some (record { names = g.names ++ h.names; steps = g.steps ++ h.steps; stops = k })) is

one_dash_value : (value : Word) → has_one_dash value ≡ true → steps_read value ≡ None
one_dash_value [] is = absurd (true≢false (sym is))
one_dash_value (b ∷ bs) is = go (nat_eq b 45) refl is
  where
    go : (t : Bool) → nat_eq b 45 ≡ t → has_one_dash (b ∷ bs) ≡ true → steps_read (b ∷ bs) ≡ None
    go true same is = let it : 45 ≡ b = grind (arith, nat_tests) in subst (λ (d : ℕ). steps_read (d ∷ bs) ≡ None) it refl
    go false other is = absurd (true≢false (sym is ∙ rw other refl))

bad_value : (before : List Word) (value : Word) (more : List Word) → steps_read value ≡ None → steps_of (before ++ value ∷ more) ≡ None
bad_value [] value [] bad = bad
bad_value [] value (w ∷ more) bad = refl
bad_value (a ∷ []) value more bad = refl
bad_value (a ∷ b ∷ before) value more bad = refl

bad_steps : (g : Given) (value : Word) (o : Option Given) → steps_read value ≡ None → option_and_then asked_of (joined g (option_map (with_steps value) o)) ≡ None
bad_steps g value None bad = refl
bad_steps g value (Some h) bad = ap (λ (n : Option ℕ). asked_by (g.names ++ h.names) n (stops_of (g.stops + h.stops))) (bad_value g.steps value h.steps bad) ∙ no_steps (g.names ++ h.names) (stops_of (g.stops + h.stops))

abbrev NoLine : List Word → Type 0
NoLine words = ((g : Given) → option_and_then asked_of (joined g (given false words)) ≡ None) × ((g : Given) → option_and_then asked_of (joined g (given true words)) ≡ None)

both_so : (a b : Bool) → (a && not b) ≡ true → (a ≡ true) × (b ≡ false)
both_so true false is = (refl, refl)
both_so true true is = absurd (true≢false (sym is))
both_so false b is = absurd (true≢false (sym is))

one_dash_given : (word : Word) (words : List Word) → has_one_dash word ≡ true → given false (word ∷ words) ≡ None
one_dash_given word words is = let so = both_so (has_dash word) (has_dash (drop 1 word)) is in rw (so.0, so.1) refl

same_tail : (word : Word) (words : List Word) → has_one_dash word ≡ false → bytes_eq word (codes "--") ≡ false → any_one_dash (word ∷ words) ≡ true → any_one_dash words ≡ true
same_tail word words one other is = sym (rw (one, other) refl) ∙ is

name_lines : (word : Word) (words : List Word) → given false (word ∷ words) ≡ option_map (with_name word) (given false words) → NoLine words → NoLine (word ∷ words)
name_lines word words is rest = (
  λ g. ap (λ (o : Option Given). option_and_then asked_of (joined g o)) is ∙ ap (option_and_then asked_of) (joined_name g word (given false words)) ∙ rest.0 _,
  λ g. ap (option_and_then asked_of) (joined_value g word (given false words)) ∙ rest.0 _,
)

long_lines : (x : ℕ) (xs : Word) (words : List Word) → NoLine words → NoLine ((45 ∷ 45 ∷ x ∷ xs) ∷ words)
long_lines x xs words rest = (
  λ g. ap (λ (o : Option Given). option_and_then asked_of (joined g o)) (long_given x xs words)
      ∙ go (option_name (45 ∷ 45 ∷ x ∷ xs)) (bytes_eq (codes "steps") (option_name (45 ∷ 45 ∷ x ∷ xs))) refl (bytes_eq (codes "on-error-stop") (option_name (45 ∷ 45 ∷ x ∷ xs))) refl (option_value (45 ∷ 45 ∷ x ∷ xs)) g,
  λ g. ap (option_and_then asked_of) (joined_value g (45 ∷ 45 ∷ x ∷ xs) (given false words)) ∙ rest.0 _,
)
  where
    from : (g : Given) (o p : Option Given) → o ≡ p → option_and_then asked_of (joined g p) ≡ None → option_and_then asked_of (joined g o) ≡ None
    from g o p is none = ap (λ (q : Option Given). option_and_then asked_of (joined g q)) is ∙ none

    go : (name : Word) (s : Bool) → bytes_eq (codes "steps") name ≡ s → (e : Bool) → bytes_eq (codes "on-error-stop") name ≡ e → (v : Option Word) (g : Given)
        → option_and_then asked_of (joined g (given_option name v (given false words) (given true words))) ≡ None
    go name true s e is_e (Some v) g = from g _ _ (gives_value name v (given false words) (given true words) s) (ap (option_and_then asked_of) (joined_value g v (given false words)) ∙ rest.0 _)
    go name true s e is_e None g = from g _ _ (gives_next name (given false words) (given true words) s) (rest.1 g)
    go name false s e is_e (Some v) g = from g _ _ (gives_no_value name v (given false words) (given true words) s) refl
    go name false s true is_e None g = from g _ _ (gives_stop name (given false words) (given true words) s is_e) (ap (option_and_then asked_of) (joined_stops g (given false words)) ∙ rest.0 _)
    go name false s false is_e None g = from g _ _ (gives_none name (given false words) (given true words) s is_e) refl

no_line : (words : List Word) → any_one_dash words ≡ true → NoLine words
no_line [] is = absurd (true≢false (sym is))
no_line (word ∷ words) is = go (has_one_dash word) refl (no_line words)
  where
    by_form : (word : Word) → Form word → has_one_dash word ≡ false → any_one_dash (word ∷ words) ≡ true → (any_one_dash words ≡ true → NoLine words) → NoLine (word ∷ words)
    by_form word plain_empty one is rest = name_lines [] words refl (rest (same_tail [] words one refl is))
    by_form word (plain x xs other) one is rest =
        let not_dashes : bytes_eq (x ∷ xs) (codes "--") ≡ false = rw other refl in
        name_lines (x ∷ xs) words (plain_given x xs words other) (rest (same_tail (x ∷ xs) words one not_dashes is))
    by_form word dashes one is rest = absurd (true≢false (sym is))
    by_form word (long x xs) one is rest = long_lines x xs words (rest (same_tail (45 ∷ 45 ∷ x ∷ xs) words one refl is))

    go : (t : Bool) → has_one_dash word ≡ t → (any_one_dash words ≡ true → NoLine words) → NoLine (word ∷ words)
    go true one rest = (λ g. ap (λ (o : Option Given). option_and_then asked_of (joined g o)) (one_dash_given word words one), λ g. bad_steps g word (given false words) (one_dash_value word one))
    go false one rest = by_form word (form_of word one) one is rest

pub on_one_dash : (own_name : Word) (words : List Word) → any_one_dash words ≡ true → asked (own_name ∷ words) ≡ None
unfolding asked
on_one_dash own_name words is = sym (ap (option_and_then asked_of) (joined_nothing (given false words))) ∙ (no_line words is).0 (so_far [] None false)

pub on_nothing : asked [] ≡ None
unfolding asked
on_nothing = refl
