-- Words and numbers.
use Rattle.std.proofs.Common.{nat_le, ◌||◌, Option, Some, None, IfSome, ◌≡◌, ℕ, ◌+◌, ◌<◌, ◌≤◌, ◌==◌, ◌&&◌, not, Bool, true, false, [], ◌∷◌, ◌++◌, length, slice_index, refl, sym, ap, ◌∙◌, arith, take, drop, length-append, map, add-zero}
use Rattle.std.specs.Char.{is_ascii_digit, to_ascii_lowercase}
use Rattle.std.specs.List.{prefix_len}
use Rattle.std.proofs.lemmas.Bool.{le-leb, lt-leb, eqb-true}
use Rattle.std.proofs.Math.Seq.{take-append_seam, drop-append_seam}
use Rattle.pl_lex.specs.Characters.{Text, begins_word, goes_on, every, is_word, is_spoiler, are_digits}
use Rattle.pl_lex.specs.Spellings.{number}
use Rattle.pl_lex.specs.declared.token.LexemeKind.{LexemeKind}
use Rattle.pl_lex.specs.declared.token.LexemeKind.TheVariants.{Read, Bad}
use Rattle.pl_lex.specs.Scan.{scan, meaning, kind_of_word, word, number_found, number_with, number_shape, ended, opens_escape_text, escape_text, close_escape_text}
use Rattle.pl_lex.specs.declared.scan.Shape.{Shape}
use Rattle.pl_lex.specs.declared.scan.Shape.TheVariants as shape
use Rattle.pl_lex.specs.declared.escapes.Pending.TheVariants.{Nothing}
use Rattle.pl_lex.proofs.EscapeParts.{escape-after}
use Rattle.pl_base.specs.States.{SYNTAX_ERROR, NAME_TOO_LONG, FEATURE_NOT_SUPPORTED, NUMERIC_VALUE_OUT_OF_RANGE}
use Rattle.pl_lex.specs.declared.token.TokenKind.TheVariants as kind
use Rattle.pl_lex.proofs.Tools.{Ends, and_left, and_right, and-true, prefix_len-append, prefix_len-ends, cond_then, cond_else}
use Rattle.pl_lex.proofs.Reach.{Reaches, longer, reaches, if_then, if_cases, at_word, at_digit, word_goes_on}

word_len : (b : ℕ) (bs rest : Text) → is_word (b ∷ bs) ≡ true → prefix_len goes_on (b ∷ bs ++ rest) ≡ length (b ∷ bs) + prefix_len goes_on rest
word_len b bs rest h = prefix_len-append goes_on (b ∷ bs) rest (and-true (goes_on b) _ (word_goes_on b (and_left (begins_word b) _ h)) (and_right (begins_word b) _ h))

ended_longer : {what : LexemeKind} {front : Text} (s : Shape) (len : ℕ) (o : Option ℕ) → length front < len → IfSome o (λ end. length front < end) → Reaches (ended s len o) what front
ended_longer s len None h k = longer h
ended_longer s len (Some e) h k = longer k

at_least_two : (o : Option ℕ) → IfSome o (λ end. 2 ≤ end) → IfSome o (λ end. 1 < end)
at_least_two None h = tt
at_least_two (Some e) h = omega arith

second : (x y : Bool) → (x && y) ≡ true → y ≡ true
second true y h = h
second false y h = absurd (cc)

some_rest : (b : ℕ) (rest : Text) → opens_escape_text b (slice_index rest 0) ≡ true → 0 < length rest
some_rest b [] h = absurd (cc (second (b == 69 || b == 101) false h))
some_rest b (x ∷ xs) h = omega arith

-- no word goes on with a quote
no_quote : (c : ℕ) → goes_on c ≡ true → (c == 39) ≡ false
no_quote c h = grind (arith)

-- a word before a quote is no more than the `E` of an E-text
before_quote : {what : LexemeKind} (b : ℕ) (bs rest : Text) → is_word (b ∷ bs) ≡ true → opens_escape_text b (slice_index (bs ++ rest) 0) ≡ true → Reaches (escape_text (b ∷ bs ++ rest)) what (b ∷ bs)
before_quote b [] rest h o = ended_longer shape.EscapeText (length (b ∷ rest)) (close_escape_text Nothing 2 (drop 1 rest)) (omega (arith, some_rest b rest o)) (at_least_two (close_escape_text Nothing 2 (drop 1 rest)) (escape-after Nothing 2 (drop 1 rest)))
before_quote b (c ∷ cs) rest h o =
    let goes : goes_on c ≡ true = and_left (goes_on c) _ (and_right (begins_word b) _ h) in
    let yes : (c == 39) ≡ true = second (b == 69 || b == 101) (c == 39) o in
    absurd (cc (no_quote c goes, yes))

pub word_case : (front rest : Text) → is_word front ≡ true → length front ≤ 63 → Reaches (scan (front ++ rest)) (Read (kind_of_word (map to_ascii_lowercase front))) front
word_case [] rest h few = absurd (cc)
word_case (b ∷ bs) rest h few =
    at_word b (bs ++ rest) (and_left (begins_word b) _ h) (before_quote b bs rest h) (reaches (word (b ∷ bs ++ rest)) (omega (arith, word_len b bs rest h)) (λ e. cond_then (nat_le (length (b ∷ bs)) 63) _ _ (le-leb (length (b ∷ bs)) 63 few)))

pub long_word_case : (front rest : Text) → is_word front ≡ true → 63 < length front → Reaches (scan (front ++ rest)) (Bad NAME_TOO_LONG) front
long_word_case [] rest h few = absurd (cc)
long_word_case (b ∷ bs) rest h few =
    at_word b (bs ++ rest) (and_left (begins_word b) _ h) (before_quote b bs rest h) (reaches (word (b ∷ bs ++ rest)) (omega (arith, word_len b bs rest h)) (λ e. cond_else (nat_le (length (b ∷ bs)) 63) _ _ (lt-leb (length (b ∷ bs)) 63 few)))

-- ---- numbers

pub head_goes : (p : ℕ → Bool) (t : Text) → p 0 ≡ false → p (slice_index t 0) ≡ true → 1 ≤ prefix_len p t
head_goes p [] z h = absurd (cc)
head_goes p (b ∷ bs) z h = rw h (omega arith)

-- no more than the digits themselves is left for the third branch
with_digits : {what : LexemeKind} {front : Text} (n : ℕ) (digits after : Text) → length front ≤ n → (length front ≡ n → meaning (number_shape (number digits)) front ≡ what) → Reaches (number_with n digits after) what front
with_digits n digits after h f =
    if_cases (goes_on (slice_index after 0)) _ _
    (λ g. longer (omega (arith, head_goes goes_on after refl g)))
    (λ _. if_cases (slice_index after 0 == 46 && not (slice_index after 1 == 46)) _ _ (λ _. longer (omega arith)) (λ _. reaches (number_shape (number digits), n) h f))

digits_len : (digits rest : Text) → are_digits digits ≡ true → prefix_len is_ascii_digit (digits ++ rest) ≡ length digits + prefix_len is_ascii_digit rest
digits_len [] rest h = absurd (cc)
digits_len (d ∷ ds) rest h = prefix_len-append is_ascii_digit (d ∷ ds) rest h

same_digits : (n : ℕ) (front rest : Text) → length front ≡ n → take n (front ++ rest) ≡ front
same_digits n front rest e = ap (λ k. take k (front ++ rest)) (sym e) ∙ take-append_seam front rest

at_digits : {what : LexemeKind} {front : Text} (digits after : Text) → are_digits digits ≡ true → Reaches (number_found (digits ++ after)) what front → Reaches (scan (digits ++ after)) what front
at_digits [] after h r = absurd (cc)
at_digits (d ∷ ds) after h r = at_digit d (ds ++ after) (and_left (is_ascii_digit d) _ h) r

pub number_split : (digits after : Text) → are_digits digits ≡ true → Ends is_ascii_digit after → number_found (digits ++ after) ≡ number_with (length digits) digits after
number_split digits after h ends =
    let e : prefix_len is_ascii_digit (digits ++ after) ≡ length digits = digits_len digits after h ∙ ap (λ k. length digits + k) (prefix_len-ends is_ascii_digit after ends) ∙ add-zero (length digits) in
    ap (λ n. number_with n (take n (digits ++ after)) (drop n (digits ++ after))) e ∙ rw (take-append_seam digits after, drop-append_seam digits after) refl

pub number_case : (front rest : Text) → are_digits front ≡ true → number front ≤ 9223372036854775808 → Reaches (scan (front ++ rest)) (Read (kind.Number (number front))) front
number_case front rest h few =
    let n : ℕ = prefix_len is_ascii_digit (front ++ rest) in
    at_digits front rest h (with_digits n (take n (front ++ rest)) (drop n (front ++ rest)) (omega (arith, digits_len front rest h)) (λ e. rw (same_digits n front rest e, le-leb (number front) 9223372036854775808 few) refl))

pub great_case : (front rest : Text) → are_digits front ≡ true → 9223372036854775808 < number front → Reaches (scan (front ++ rest)) (Bad NUMERIC_VALUE_OUT_OF_RANGE) front
great_case front rest h great =
    let n : ℕ = prefix_len is_ascii_digit (front ++ rest) in
    at_digits front rest h (with_digits n (take n (front ++ rest)) (drop n (front ++ rest)) (omega (arith, digits_len front rest h)) (λ e. rw (same_digits n front rest e, lt-leb (number front) 9223372036854775808 great) refl))

at_split : {what : LexemeKind} {front : Text} (digits after : Text) → are_digits digits ≡ true → Ends is_ascii_digit after → Reaches (number_with (length digits) digits after) what front → Reaches (scan (digits ++ after)) what front
at_split digits after h ends r = at_digits digits after h (rw (number_split digits after h ends) r)

spoiler_ends : (c : ℕ) (cs : Text) → is_spoiler (c ∷ cs) ≡ true → is_ascii_digit c ≡ false
spoiler_ends c cs h = grind (arith, and_left (goes_on c && not (is_ascii_digit c)) _ h)

spoiler_goes : (spoiler : Text) → is_spoiler spoiler ≡ true → every goes_on spoiler ≡ true
spoiler_goes [] h = refl
spoiler_goes (c ∷ cs) h = and-true (goes_on c) _ (and_left (goes_on c) _ (and_left (goes_on c && not (is_ascii_digit c)) _ h)) (and_right (goes_on c && not (is_ascii_digit c)) _ h)

pub spoiled_case : (digits spoiler rest : Text) → are_digits digits ≡ true → is_spoiler spoiler ≡ true → Reaches (scan (digits ++ (spoiler ++ rest))) (Bad SYNTAX_ERROR) (digits ++ spoiler)
spoiled_case digits [] rest h s = absurd (cc)
spoiled_case digits (c ∷ cs) rest h s =
    at_split digits (c ∷ cs ++ rest) h (spoiler_ends c cs s) (if_then (goes_on c) _ _ (and_left (goes_on c) _ (spoiler_goes (c ∷ cs) s)) (reaches _ (omega (arith, length-append digits (c ∷ cs), prefix_len-append goes_on (c ∷ cs) rest (spoiler_goes (c ∷ cs) s))) (λ _. refl)))

pub not_point : (t : Text) → ((after : Text) → t ≡ 46 ∷ after → ⊥) → (slice_index t 0 == 46) ≡ false
not_point [] h = refl
not_point (b ∷ bs) h = go (b == 46) refl
  where
    go : (c : Bool) → (b == 46) ≡ c → (b == 46) ≡ false
    go false e = e
    go true e = absurd (h bs (ap (λ x. x ∷ bs) (eqb-true b 46 e)))

pub point_case : (digits more rest : Text) → are_digits digits ≡ true → every is_ascii_digit more ≡ true → ((after : Text) → more ++ rest ≡ 46 ∷ after → ⊥) → Reaches (scan (digits ++ (46 ∷ more ++ rest))) (Bad FEATURE_NOT_SUPPORTED) (digits ++ 46 ∷ more)
point_case digits more rest h k other =
    at_split digits (46 ∷ more ++ rest) h refl (if_then (not (slice_index (more ++ rest) 0 == 46)) _ _ (rw (not_point (more ++ rest) other) refl) (reaches _ (omega (arith, length-append digits (46 ∷ more), prefix_len-append is_ascii_digit more rest k)) (λ _. refl)))
