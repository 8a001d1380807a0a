-- The number of steps that a text spells.
use Rattle.std.proofs.Common.{◌≡◌, ◌∙◌, ◌<◌, ◌≤◌, ◌≢◌, ◌^◌, ◌&&◌, ℕ, Bool, true, false, true≢false, nat_eq, nat_lt, nat_le, refl, sym, ap, subst, arith, List, [], ◌∷◌, length, drop, Some, None, cond, slice_index}
use Rattle.std.proofs.lemmas.Bool.Decides.{nat_tests}
use Rattle.std.specs.Char.{digit_value}
use Rattle.std.specs.List.{list_all}
use Rattle.std.specs.Str.Parse.{AllDigits, IsNumeral, digits_value, without_leading_plus}
use Rattle.pl_cli.specs.Line.{is_number, steps_read}

no_plus : (text : List ℕ) → slice_index text 0 ≢ 43 → without_leading_plus text ≡ text
no_plus [] other = refl
no_plus (b ∷ bs) other = go (nat_eq b 43) refl
  where
    go : (t : Bool) → nat_eq b 43 ≡ t → drop (cond (nat_eq b 43) 1 0) (b ∷ bs) ≡ b ∷ bs
    go true is = absurd (other (grind (arith, nat_tests)))
    go false is = rw is refl

are_digits : (ds : List ℕ) → AllDigits 10 ds → list_all (λ digit. nat_lt (digit_value digit) 10) ds ≡ true
are_digits [] all = refl
are_digits (d ∷ ds) all = let first : nat_lt (digit_value d) 10 ≡ true = grind (arith, nat_tests, all.0) in rw first (are_digits ds all.1)

all_digits : (ds : List ℕ) → list_all (λ digit. nat_lt (digit_value digit) 10) ds ≡ true → AllDigits 10 ds
all_digits [] is = tt
all_digits (d ∷ ds) is = go (nat_lt (digit_value d) 10) refl is (all_digits ds)
  where
    go : (t : Bool) → nat_lt (digit_value d) 10 ≡ t → (t && list_all (λ digit. nat_lt (digit_value digit) 10) ds) ≡ true → (list_all (λ digit. nat_lt (digit_value digit) 10) ds ≡ true → AllDigits 10 ds) → AllDigits 10 (d ∷ ds)
    go true first rest more = (grind (arith, nat_tests), more rest)
    go false first rest more = absurd (true≢false (sym rest))

are_number : (text : List ℕ) → IsNumeral 10 text → is_number text ≡ true
are_number text numeral = let long : nat_lt 0 (length text) ≡ true = grind (arith, nat_tests, numeral.0) in rw (are_digits text numeral.1) long

pub found : (text : List ℕ) (n : ℕ) → slice_index text 0 ≢ 43 → IsNumeral 10 (without_leading_plus text) → n ≡ digits_value 10 (without_leading_plus text) → 1 ≤ n → n ≤ 1000000000 → Some n ≡ steps_read text
found text n other numeral is least most =
    let same = no_plus text other in
    let value : n ≡ digits_value 10 text = is ∙ ap (λ (t : List ℕ). digits_value 10 t) same in
    let number : is_number text ≡ true = are_number text (subst (λ (t : List ℕ). IsNumeral 10 t) same numeral) in
    let low : nat_le 1 (digits_value 10 text) ≡ true = grind (arith, nat_tests, value, least) in
    let high : nat_le (digits_value 10 text) 1000000000 ≡ true = grind (arith, nat_tests, value, most) in
    ap (λ (k : ℕ). Some k) value ∙ sym (rw (number, low, high) refl)

-- in each other case
none_unless : (text : List ℕ) → (is_number text ≡ true → 1 ≤ digits_value 10 text → digits_value 10 text ≤ 1000000000 → ⊥) → None ≡ steps_read text
none_unless text bad = go (is_number text) refl (nat_le 1 (digits_value 10 text)) refl (nat_le (digits_value 10 text) 1000000000) refl
  where
    go : (t : Bool) → is_number text ≡ t → (l : Bool) → nat_le 1 (digits_value 10 text) ≡ l → (h : Bool) → nat_le (digits_value 10 text) 1000000000 ≡ h
        → None ≡ cond (t && (l && h)) (Some (digits_value 10 text)) None
    go true number true low true high = absurd (bad number (grind (arith, nat_tests)) (grind (arith, nat_tests)))
    go true number true low false high = refl
    go true number false low h high = refl
    go false number l low h high = refl

pub out_of_range : (text : List ℕ) (n : ℕ) → slice_index text 0 ≢ 43 → n ≡ digits_value 10 (without_leading_plus text) → (1 ≤ n → n ≤ 1000000000 → ⊥) → None ≡ steps_read text
out_of_range text n other is out =
    let value : n ≡ digits_value 10 text = is ∙ ap (λ (t : List ℕ). digits_value 10 t) (no_plus text other) in
    none_unless text (λ number low high. out (omega (arith, value, low)) (omega (arith, value, high)))

pub no_number : (text : List ℕ) → slice_index text 0 ≢ 43 → (IsNumeral 10 (without_leading_plus text) × (digits_value 10 (without_leading_plus text) < 2 ^ 64) → ⊥) → None ≡ steps_read text
no_number text other bad = none_unless text (λ number low high.
    let numeral : IsNumeral 10 text = (long text number, all_digits text (digits text number)) in
    bad (subst (λ (t : List ℕ). IsNumeral 10 t × (digits_value 10 t < 2 ^ 64)) (sym (no_plus text other)) (numeral, omega (arith, high))))
  where
    digits : (text : List ℕ) → is_number text ≡ true → list_all (λ digit. nat_lt (digit_value digit) 10) text ≡ true
    digits text is = go (list_all (λ digit. nat_lt (digit_value digit) 10) text) is
      where
        go : (t : Bool) → (t && nat_lt 0 (length text)) ≡ true → t ≡ true
        go true is = refl
        go false is = is

    long : (text : List ℕ) → is_number text ≡ true → 0 < length text
    long [] is = absurd (true≢false (sym is))
    long (d ∷ ds) is = omega arith

pub of_plus : (text : List ℕ) → slice_index text 0 ≡ 43 → None ≡ steps_read text
of_plus [] is = refl
of_plus (b ∷ bs) is = subst (λ (d : ℕ). None ≡ steps_read (d ∷ bs)) (sym is) refl
