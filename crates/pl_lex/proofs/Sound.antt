-- LexemeKind the scan finds stands there.
use Rattle.std.proofs.Common.{◌≡◌, ℕ, ◌+◌, ◌≤◌, ◌==◌, ◌&&◌, not, nat_le, Bool, true, false, cond, [], ◌∷◌, ◌++◌, length, slice_index, refl, sym, ap, ◌∙◌, arith, drop, map, Option, Some, None, length-append, append_assoc, subst}
use Rattle.std.specs.Char.{is_ascii_digit, to_ascii_lowercase}
use Rattle.std.specs.List.{prefix_len}
use Rattle.std.proofs.lemmas.Bool.{eqb-true, leb-true, leb-false}
use Rattle.pl_lex.specs.Characters.{Text, is_blank, begins_word, goes_on, is_word, are_digits}
use Rattle.pl_lex.specs.Spellings.{number}
use Rattle.pl_lex.specs.Rows as row
use Rattle.pl_lex.specs.Rows.{Row}
use Rattle.pl_lex.specs.Scan.{Found, meaning, word, number_found, number_shape, keyword_of, named, kind_of_word}
use Rattle.pl_lex.specs.declared.keyword.Keyword.{Keyword}
use Rattle.pl_lex.specs.declared.token.LexemeKind.{LexemeKind}
use Rattle.pl_lex.specs.declared.token.LexemeKind.TheVariants.{Read}
use Rattle.pl_lex.proofs.Reserved.{named_is, none_is}
use Rattle.pl_lex.specs.declared.scan.Shape.TheVariants as shape
use Rattle.pl_base.specs.States.{SYNTAX_ERROR, FEATURE_NOT_SUPPORTED, NUMERIC_VALUE_OUT_OF_RANGE}
use Rattle.pl_lex.proofs.Tools.{Run, run, Ends, cond_then, cond_else, and_left, and_right, and-true}
use Rattle.pl_lex.proofs.Reach.{word_goes_on}
use Rattle.pl_lex.proofs.Words.{number_split}

-- the text begins with a lexeme that is what was found
pub record Cut (found : Found) (t : Text) : Type 0 where
  pub front : Text
  pub rest : Text
  pub is : t ≡ front ++ rest
  pub len : length front ≡ found.1
  pub row : Row (meaning found.0 front) front rest

pub cut_if : {t : Text} (c : Bool) (x y : Found) → (c ≡ true → Cut x t) → (c ≡ false → Cut y t) → Cut (cond c x y) t
cut_if true x y f g = f refl
cut_if false x y f g = g refl

pub cut_as : {x y : Found} {t : Text} → x ≡ y → Cut y t → Cut x t
cut_as e c = rw e c

pub blank_cut : (b : ℕ) (t : Text) → is_blank b ≡ true → Cut (shape.Skipped, 1) (b ∷ t)
blank_cut b t h = record { front = b ∷ []; rest = t; is = refl; len = refl; row = row.blank b h refl refl }

-- ---- words

pub word_cut : (b : ℕ) (t : Text) → begins_word b ≡ true → Cut (word (b ∷ t)) (b ∷ t)
word_cut b t h = record { front = b ∷ r.front; rest = r.rest; is = ap (λ (x : Text). b ∷ x) r.is; len = n_is; row = by_length (nat_le (length (b ∷ r.front)) 63) refl }
  where
    r : Run goes_on t
    r = run goes_on t

    n_is : length (b ∷ r.front) ≡ prefix_len goes_on (b ∷ t)
    n_is = sym (cond_then (goes_on b) _ _ (word_goes_on b h) ∙ omega (arith, r.len))

    lower : Text
    lower = map to_ascii_lowercase (b ∷ r.front)

    reserved_or_name : {what : LexemeKind} (o : Option Keyword) → keyword_of lower ≡ o → is_word (b ∷ r.front) ≡ true → length (b ∷ r.front) ≤ 63 → what ≡ Read (kind_of_word lower) → Row what (b ∷ r.front) r.rest
    reserved_or_name None e word few k = row.word word few (λ w is. none_is lower e w (sym is)) (k ∙ ap (λ x. Read (named lower x)) e)
    reserved_or_name (Some w) e word few k = row.keyword w word few (sym (named_is lower w e)) (k ∙ ap (λ x. Read (named lower x)) e)

    by_length : (c : Bool) → nat_le (length (b ∷ r.front)) 63 ≡ c → Row (meaning shape.Word (b ∷ r.front)) (b ∷ r.front) r.rest
    by_length true e = reserved_or_name (keyword_of lower) refl (and-true (begins_word b) _ h r.all) (leb-true (length (b ∷ r.front)) 63 e) (cond_then (nat_le (length (b ∷ r.front)) 63) _ _ e)
    by_length false e = row.long_word (and-true (begins_word b) _ h r.all) (leb-false (length (b ∷ r.front)) 63 e) (cond_else (nat_le (length (b ∷ r.front)) 63) _ _ e)

-- ---- numbers

spoiled_cut : (digits after : Text) → are_digits digits ≡ true → Ends is_ascii_digit after → goes_on (slice_index after 0) ≡ true → Cut (shape.Bad SYNTAX_ERROR, length digits + prefix_len goes_on after) (digits ++ after)
spoiled_cut digits [] h ends g = absurd (cc)
spoiled_cut digits (c ∷ cs) h ends g =
    let r = run goes_on cs in
    let spoils : (goes_on c && not (is_ascii_digit c)) ≡ true = rw (g, ends) refl in
    record {
      front = digits ++ (c ∷ r.front);
      rest = r.rest;
      is = ap (λ (x : Text). digits ++ (c ∷ x)) r.is ∙ sym (append_assoc digits (c ∷ r.front) r.rest);
      len = length-append digits (c ∷ r.front) ∙ ap (λ k. length digits + k) (sym (cond_then (goes_on c) _ _ g ∙ omega (arith, r.len)));
      row = row.spoiled_number digits (c ∷ r.front) h (and-true (goes_on c && not (is_ascii_digit c)) _ spoils r.all) refl refl;
    }

at_point : (after : Text) → (slice_index after 0 == 46) ≡ true → after ≡ 46 ∷ drop 1 after
at_point [] h = absurd (cc)
at_point (c ∷ cs) h = ap (λ x. x ∷ cs) (eqb-true c 46 h)

second_at : (after : Text) → slice_index after 1 ≡ slice_index (drop 1 after) 0
second_at [] = refl
second_at (c ∷ cs) = refl

not_true : (c : Bool) → not c ≡ true → c ≡ false
not_true true h = absurd (cc)
not_true false h = refl

no_point : (t after : Text) → (slice_index t 0 == 46) ≡ false → t ≡ 46 ∷ after → ⊥
no_point t after h e =
    let k : (46 == 46) ≡ false = sym (ap (λ (x : Text). slice_index x 0 == 46) e) ∙ h in
    absurd (cc k)

point_cut : (digits after : Text) → are_digits digits ≡ true → (slice_index after 0 == 46) ≡ true → (slice_index after 1 == 46) ≡ false → Cut (shape.Bad FEATURE_NOT_SUPPORTED, length digits + 1 + prefix_len is_ascii_digit (drop 1 after)) (digits ++ after)
point_cut digits after h p q =
    let r = run is_ascii_digit (drop 1 after) in
    let n : (slice_index (r.front ++ r.rest) 0 == 46) ≡ false = ap (λ (x : Text). slice_index x 0 == 46) (sym r.is) ∙ ap (λ k. k == 46) (sym (second_at after)) ∙ q in
    record {
      front = digits ++ (46 ∷ r.front);
      rest = r.rest;
      is = ap (λ (x : Text). digits ++ x) (at_point after p ∙ ap (λ (x : Text). 46 ∷ x) r.is) ∙ sym (append_assoc digits (46 ∷ r.front) r.rest);
      len = length-append digits (46 ∷ r.front) ∙ omega (arith, r.len);
      row = row.point_number digits r.front h r.all (λ other e. no_point (r.front ++ r.rest) other n e) refl refl;
    }

plain_cut : (digits after : Text) → are_digits digits ≡ true → Cut (number_shape (number digits), length digits) (digits ++ after)
plain_cut digits after h = go (nat_le (number digits) 9223372036854775808) refl
  where
    go : (c : Bool) → nat_le (number digits) 9223372036854775808 ≡ c → Cut (cond c (shape.Number (number digits)) (shape.Bad NUMERIC_VALUE_OUT_OF_RANGE), length digits) (digits ++ after)
    go true e = record { front = digits; rest = after; is = refl; len = refl; row = row.number_token h (leb-true (number digits) 9223372036854775808 e) refl }
    go false e = record { front = digits; rest = after; is = refl; len = refl; row = row.great_number h (leb-false (number digits) 9223372036854775808 e) refl }

digits_cut : (digits after : Text) → are_digits digits ≡ true → Ends is_ascii_digit after → Cut (number_found (digits ++ after)) (digits ++ after)
digits_cut digits after h ends =
    cut_as (number_split digits after h ends)
    (cut_if (goes_on (slice_index after 0)) _ _ (λ g. spoiled_cut digits after h ends g)
    (λ _. cut_if (slice_index after 0 == 46 && not (slice_index after 1 == 46)) _ _
    (λ p. point_cut digits after h (and_left (slice_index after 0 == 46) _ p) (not_true _ (and_right (slice_index after 0 == 46) _ p)))
    (λ _. plain_cut digits after h)))

pub number_cut : (b : ℕ) (t : Text) → is_ascii_digit b ≡ true → Cut (number_found (b ∷ t)) (b ∷ t)
number_cut b t h =
    let r = run is_ascii_digit t in
    let P : Text → Type 0 = λ x. Cut (number_found (b ∷ x)) (b ∷ x) in
    subst P (sym r.is) (digits_cut (b ∷ r.front) r.rest (and-true (is_ascii_digit b) _ h r.all) r.ends)
