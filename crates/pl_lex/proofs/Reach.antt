-- LexemeKind the scan finds against a row that stands there.
use Rattle.std.proofs.Common.{◌≡◌, ℕ, ◌<◌, ◌≤◌, ◌==◌, Bool, true, false, cond, [], ◌∷◌, ◌++◌, length, slice_index, refl, arith, inl, inr, ◌⊎◌}
use Rattle.std.specs.Char.{is_ascii_digit}
use Rattle.std.proofs.lemmas.Bool.{cases_lt}
use Rattle.pl_lex.specs.Characters.{Text, is_blank, begins_word, goes_on}
use Rattle.pl_lex.specs.declared.token.LexemeKind.{LexemeKind}
use Rattle.pl_lex.specs.declared.token.LexemeKind.TheVariants.{Skipped}
use Rattle.pl_lex.specs.Scan.{Found, scan, meaning, word, number_found, opens_escape_text, escape_text}

-- what was found is longer than the front, or it is the front and means what it says
pub data Reaches (found : Found) (what : LexemeKind) (front : Text) : Type 0 where
  longer : length front < found.1 → Reaches found what front
  same : length front ≡ found.1 → meaning found.0 front ≡ what → Reaches found what front

pub if_then : {what : LexemeKind} {front : Text} (c : Bool) (x y : Found) → c ≡ true → Reaches x what front → Reaches (cond c x y) what front
if_then c x y h r = rw h r

pub if_else : {what : LexemeKind} {front : Text} (c : Bool) (x y : Found) → c ≡ false → Reaches y what front → Reaches (cond c x y) what front
if_else c x y h r = rw h r

pub if_cases : {what : LexemeKind} {front : Text} (c : Bool) (x y : Found) → (c ≡ true → Reaches x what front) → (c ≡ false → Reaches y what front) → Reaches (cond c x y) what front
if_cases true x y f g = f refl
if_cases false x y f g = g refl

pub reaches : {what : LexemeKind} {front : Text} (found : Found) → length front ≤ found.1 → (length front ≡ found.1 → meaning found.0 front ≡ what) → Reaches found what front
reaches {what} {front} found h f = go (cases_lt (length front) found.1)
  where
    go : (length front < found.1) ⊎ (found.1 ≤ length front) → Reaches found what front
    go (inl l) = longer l
    go (inr g) = let e : length front ≡ found.1 = omega arith in same e (f e)

pub moved : {what other : LexemeKind} {front spelled : Text} (rest : Text) → front ≡ spelled → what ≡ other → Reaches (scan (spelled ++ rest)) other spelled → Reaches (scan (front ++ rest)) what front
moved rest e k r = rw (e, k) r

-- ---- classes

pub word_not_blank : (b : ℕ) → begins_word b ≡ true → is_blank b ≡ false
word_not_blank b h = grind (arith)

pub digit_not_blank : (b : ℕ) → is_ascii_digit b ≡ true → is_blank b ≡ false
digit_not_blank b h = grind (arith)

pub digit_no_word : (b : ℕ) → is_ascii_digit b ≡ true → begins_word b ≡ false
digit_no_word b h = grind (arith)

pub word_goes_on : (b : ℕ) → begins_word b ≡ true → goes_on b ≡ true
word_goes_on b h = grind (arith)

pub digit_goes_on : (b : ℕ) → is_ascii_digit b ≡ true → goes_on b ≡ true
digit_goes_on b h = grind (arith)

pub digit_not_dollar : (b : ℕ) → is_ascii_digit b ≡ true → (b == 36) ≡ false
digit_not_dollar b h = grind (arith)

pub no_escape_text : (b c : ℕ) → begins_word b ≡ false → opens_escape_text b c ≡ false
no_escape_text b c h = grind (arith)

-- ---- the first character decides

pub blank_case : (b : ℕ) (rest : Text) → is_blank b ≡ true → Reaches (scan (b ∷ rest)) Skipped (b ∷ [])
unfolding scan
blank_case b rest h = if_then (is_blank b) _ _ h (same refl refl)

module _ {what : LexemeKind} {front : Text} (b : ℕ) (t : Text) where
  pub at_word : begins_word b ≡ true → (opens_escape_text b (slice_index t 0) ≡ true → Reaches (escape_text (b ∷ t)) what front) → Reaches (word (b ∷ t)) what front → Reaches (scan (b ∷ t)) what front
  unfolding scan
  at_word h f r = if_else (is_blank b) _ _ (word_not_blank b h) (if_cases (opens_escape_text b (slice_index t 0)) _ _ f (λ _. if_then (begins_word b) _ _ h r))

  pub at_digit : is_ascii_digit b ≡ true → Reaches (number_found (b ∷ t)) what front → Reaches (scan (b ∷ t)) what front
  unfolding scan
  at_digit h r = if_else (is_blank b) _ _ (digit_not_blank b h) (if_else (opens_escape_text b (slice_index t 0)) _ _ (no_escape_text b (slice_index t 0) (digit_no_word b h)) (if_else (begins_word b) _ _ (digit_no_word b h) (if_then (is_ascii_digit b) _ _ h r)))
