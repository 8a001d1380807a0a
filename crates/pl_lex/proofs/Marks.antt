-- Texts, names, comments, dollar texts, parameters and signs against the scan.
use Rattle.std.proofs.Common.{List, map, ◌≡◌, ℕ, suc, ◌+◌, ◌-◌, ◌<◌, ◌≤◌, ◌==◌, ◌&&◌, ◌||◌, nat_le, Bool, true, false, cond, [], ◌∷◌, ◌++◌, length, slice_index, Option, Some, None, refl, sym, ap, ◌∙◌, arith, inl, inr, ◌⊎◌, take, drop, length-append, append_assoc, append-nil, add-one, subst, IfSome}
use Rattle.std.specs.Char.{is_ascii_digit}
use Rattle.std.specs.List.{prefix_len}
use Rattle.std.proofs.lemmas.Bool.{eqb-true, eqb-false, eq-eqb, ne_eqb, le-leb, lt-leb}
use Rattle.std.proofs.Math.Seq.{take-append_seam, drop-append_seam}
use Rattle.pl_lex.specs.Characters.{Text, is_blank, begins_word, is_tag, every, are_digits, is_of_line}
use Rattle.pl_lex.specs.Spellings.{mark, Lacks, EndsAtFirst, doubled, depth, number, spelled, opens, Part, are_parts, spelled_parts, value_of_part, any_refused}
use Rattle.pl_lex.specs.Rows.{IsStray, IsE}
use Rattle.pl_lex.specs.declared.token.LexemeKind.{LexemeKind}
use Rattle.pl_lex.specs.declared.token.LexemeKind.TheVariants.{Skipped, Read, Bad}
use Rattle.pl_lex.specs.Scan.{Found, scan, meaning, undoubled, inner, ended, close_comment, tag_len, find_mark, marked, dollar, dollar_with, parameter, parameter_shape, pair, single, punctuation, one_byte, two_bytes, name_meaning, opens_escape_text, escape_text, close_escape_text, escape_meaning, unescaped}
use Rattle.pl_lex.specs.declared.escapes.Pending.TheVariants.{Nothing}
use Rattle.pl_lex.specs.declared.scan.Shape.{Shape}
use Rattle.pl_lex.specs.declared.scan.Shape.TheVariants as shape
use Rattle.pl_lex.specs.declared.sign.Sign.{Sign}
use Rattle.pl_lex.specs.declared.sign.Sign.TheVariants as sign
use Rattle.pl_base.specs.States.{SYNTAX_ERROR, NAME_TOO_LONG, FEATURE_NOT_SUPPORTED}
use Rattle.pl_lex.specs.declared.token.TokenKind.TheVariants as kind
use Rattle.pl_lex.proofs.Tools.{cond_then, cond_else, prefix_len-append, and_left, and_right, and-true, nth_front}
use Rattle.pl_lex.proofs.Reach.{Reaches, longer, same, reaches, if_then, if_else, if_cases, digit_no_word, digit_not_dollar, no_escape_text}
use Rattle.pl_lex.proofs.Words.{head_goes}
use Rattle.pl_lex.proofs.QuotedTexts.{Closing, here, later, never, closing, never-closing, undoubled-doubled, inner-quoted}
use Rattle.pl_lex.proofs.Nesting.{closed, stays_open, comment-after}
use Rattle.pl_lex.proofs.EscapeParts.{parts_closing, never_closing, unescaped_parts, refused_parts}
use Rattle.pl_lex.proofs.DollarMarks.{found_first, found_nowhere, tag_len-mark}

-- ---- quotes

ended_reaches : {what : LexemeKind} (s : Shape) (front rest : Text) (o : Option ℕ) → Closing (length front) rest o → meaning s front ≡ what → Reaches (ended s (length (front ++ rest)) o) what front
ended_reaches s front rest o (here e) m = rw e (same refl m)
ended_reaches s front rest o (later other l e) m = rw e (longer l)
ended_reaches s front rest o (never l e) m = rw e (longer (omega (arith, length-append front rest)))

pub read_quoted : (quote : ℕ) (v : Text) → undoubled quote false (inner 1 (quote ∷ (doubled quote v ++ quote ∷ []))) ≡ v
read_quoted quote v = ap (λ (t : Text). undoubled quote false t) (inner-quoted quote (doubled quote v)) ∙ undoubled-doubled quote v

pub text_case : (v rest : Text) → Reaches (scan ((39 ∷ (doubled 39 v ++ 39 ∷ [])) ++ rest)) (Read (kind.Text v)) (39 ∷ (doubled 39 v ++ 39 ∷ []))
unfolding scan
text_case v rest = ended_reaches shape.Text (39 ∷ (doubled 39 v ++ 39 ∷ [])) rest _ (closing 39 v rest) (ap (λ (t : Text). Read (kind.Text t)) (read_quoted 39 v))

pub endless_text_case : (v : Text) → Reaches (scan ((39 ∷ doubled 39 v) ++ [])) (Bad SYNTAX_ERROR) (39 ∷ doubled 39 v)
unfolding scan
endless_text_case v =
    let e : length (39 ∷ doubled 39 v) ≡ length ((39 ∷ doubled 39 v) ++ []) = ap (λ (t : Text). length t) (sym (append-nil (39 ∷ doubled 39 v))) in
    rw (never-closing 39 v) (same e refl)

abbrev pub quoted_name : Text → Text
quoted_name name = 34 ∷ (doubled 34 name ++ 34 ∷ [])

-- what is read between the quotes is the name
pub name_of : (name : Text) → meaning shape.Quoted (quoted_name name) ≡ name_meaning name
name_of name = ap (λ (t : Text). name_meaning t) (read_quoted 34 name)

pub good_name : (name : Text) → 0 < length name → length name ≤ 63 → name_meaning name ≡ Read (kind.Quoted name)
good_name name pos few = cond_then (nat_le (length name) 63) _ _ (le-leb (length name) 63 few) ∙ cond_else (length name == 0) _ _ (ne_eqb (length name) 0 (λ e. omega arith))

pub long_name : (name : Text) → 63 < length name → name_meaning name ≡ Bad NAME_TOO_LONG
long_name name many = cond_else (nat_le (length name) 63) _ _ (lt-leb (length name) 63 many)

pub name_case : (name rest : Text) → 0 < length name → length name ≤ 63 → Reaches (scan (quoted_name name ++ rest)) (Read (kind.Quoted name)) (quoted_name name)
unfolding scan
name_case name rest pos few = ended_reaches shape.Quoted (quoted_name name) rest _ (closing 34 name rest) (name_of name ∙ good_name name pos few)

pub long_name_case : (name rest : Text) → 63 < length name → Reaches (scan (quoted_name name ++ rest)) (Bad NAME_TOO_LONG) (quoted_name name)
unfolding scan
long_name_case name rest many = ended_reaches shape.Quoted (quoted_name name) rest _ (closing 34 name rest) (name_of name ∙ long_name name many)

pub empty_name_case : (rest : Text) → Reaches (scan ((34 ∷ 34 ∷ []) ++ rest)) (Bad SYNTAX_ERROR) (34 ∷ 34 ∷ [])
unfolding scan
empty_name_case rest = ended_reaches shape.Quoted (34 ∷ 34 ∷ []) rest _ (closing 34 [] rest) refl

pub endless_name_case : (v : Text) → Reaches (scan ((34 ∷ doubled 34 v) ++ [])) (Bad SYNTAX_ERROR) (34 ∷ doubled 34 v)
unfolding scan
endless_name_case v =
    let e : length (34 ∷ doubled 34 v) ≡ length ((34 ∷ doubled 34 v) ++ []) = ap (λ (t : Text). length t) (sym (append-nil (34 ∷ doubled 34 v))) in
    rw (never-closing 34 v) (same e refl)

-- ---- texts with backslashes

is_e : (b : ℕ) → IsE b → (is_blank b ≡ false) × ((b == 69 || b == 101) ≡ true)
is_e b h = (grind (arith, h), h)

at_escape_text : {what : LexemeKind} {front : Text} (e : ℕ) (t : Text) → IsE e → Reaches (escape_text (e ∷ 39 ∷ t)) what front → Reaches (scan (e ∷ 39 ∷ t)) what front
unfolding scan
at_escape_text e t h r = if_else (is_blank e) _ _ (is_e e h).0 (if_then (opens_escape_text e 39) _ _ (and-true (e == 69 || e == 101) _ h refl) r)

-- what stands between the quotes of such a text
contents_of : (e : ℕ) (t : Text) → inner 1 (drop 1 (e ∷ 39 ∷ (t ++ 39 ∷ []))) ≡ t
contents_of e t = inner-quoted 39 t

abbrev pub escape_spelling : ℕ → List Part → Text
escape_spelling e ps = e ∷ 39 ∷ (spelled_parts ps ++ 39 ∷ [])

pub read_parts : (e : ℕ) (ps : List Part) → are_parts ps ≡ true → meaning shape.EscapeText (escape_spelling e ps) ≡ cond (any_refused ps) (Bad FEATURE_NOT_SUPPORTED) (Read (kind.EscapeText (map value_of_part ps)))
read_parts e ps h =
    ap (λ (t : Text). escape_meaning t) (contents_of e (spelled_parts ps))
    ∙ ap (λ (c : Bool). cond c (Bad FEATURE_NOT_SUPPORTED) (Read (kind.EscapeText (unescaped Nothing (spelled_parts ps))))) (refused_parts ps h)
    ∙ ap (λ (t : Text). cond (any_refused ps) (Bad FEATURE_NOT_SUPPORTED) (Read (kind.EscapeText t))) (unescaped_parts ps h)

escape_reaches : {what : LexemeKind} (e : ℕ) (ps : List Part) (rest : Text) → IsE e → are_parts ps ≡ true → meaning shape.EscapeText (escape_spelling e ps) ≡ what → Reaches (scan (escape_spelling e ps ++ rest)) what (escape_spelling e ps)
escape_reaches e ps rest h all m = at_escape_text e ((spelled_parts ps ++ 39 ∷ []) ++ rest) h (ended_reaches shape.EscapeText (escape_spelling e ps) rest _ (parts_closing e ps rest all) m)

pub escape_case : (e : ℕ) (ps : List Part) (rest : Text) → IsE e → are_parts ps ≡ true → any_refused ps ≡ false → Reaches (scan (escape_spelling e ps ++ rest)) (Read (kind.EscapeText (map value_of_part ps))) (escape_spelling e ps)
escape_case e ps rest h all good = escape_reaches e ps rest h all (read_parts e ps all ∙ cond_else (any_refused ps) _ _ good)

pub refused_case : (e : ℕ) (ps : List Part) (rest : Text) → IsE e → are_parts ps ≡ true → any_refused ps ≡ true → Reaches (scan (escape_spelling e ps ++ rest)) (Bad FEATURE_NOT_SUPPORTED) (escape_spelling e ps)
refused_case e ps rest h all refused = escape_reaches e ps rest h all (read_parts e ps all ∙ cond_then (any_refused ps) _ _ refused)

pub endless_escape_case : (e : ℕ) (ps : List Part) (last : Text) → IsE e → are_parts ps ≡ true → (last ≡ []) ⊎ (last ≡ 92 ∷ []) → Reaches (scan ((e ∷ 39 ∷ (spelled_parts ps ++ last)) ++ [])) (Bad SYNTAX_ERROR) (e ∷ 39 ∷ (spelled_parts ps ++ last))
endless_escape_case e ps last h all l =
    let t : Text = spelled_parts ps ++ last in
    let same_text : t ++ [] ≡ t = append-nil t in
    let found : close_escape_text Nothing 2 (t ++ []) ≡ None = ap (λ (x : Text). close_escape_text Nothing 2 x) same_text ∙ never_closing ps last all l in
    let n : length (e ∷ 39 ∷ t) ≡ length (e ∷ 39 ∷ (t ++ [])) = ap (λ (x : Text). length (e ∷ 39 ∷ x)) (sym same_text) in
    at_escape_text e (t ++ []) h (endless found n)
  where
    endless : {front : Text} {len : ℕ} {o : Option ℕ} → o ≡ None → length front ≡ len → Reaches (ended shape.EscapeText len o) (Bad SYNTAX_ERROR) front
    endless n l = rw n (same l refl)

-- ---- comments

pub line_case : (line rest : Text) → every is_of_line line ≡ true → Reaches (scan (45 ∷ 45 ∷ line ++ rest)) Skipped (45 ∷ 45 ∷ line)
unfolding scan
line_case line rest h = reaches _ (omega (arith, prefix_len-append is_of_line line rest h)) (λ _. refl)

pub comment_case : (text rest : Text) → depth 1 text ≡ Some 0 → Reaches (scan (47 ∷ 42 ∷ text ++ rest)) Skipped (47 ∷ 42 ∷ text)
unfolding scan
comment_case text rest h = rw (closed text rest 0 2 h) (same (omega arith) refl)

pub endless_comment_case : (text : Text) (n : ℕ) → depth 1 text ≡ Some (suc n) → Reaches (scan (47 ∷ 42 ∷ text ++ [])) (Bad SYNTAX_ERROR) (47 ∷ 42 ∷ text)
unfolding scan
endless_comment_case text n h =
    rw (append-nil text, stays_open text 0 2 n h) (same refl refl)

-- ---- dollars

pub at_mark : (tag after : Text) → is_tag tag ≡ true → dollar (mark tag ++ after) ≡ marked (length (mark tag)) (length (mark tag ++ after)) (find_mark (mark tag) (length (mark tag)) after)
at_mark tag after h =
    let regroup : (tag ++ 36 ∷ []) ++ after ≡ tag ++ 36 ∷ after = append_assoc tag (36 ∷ []) after in
    let n : tag_len ((tag ++ 36 ∷ []) ++ after) ≡ length tag = ap (λ (t : Text). tag_len t) regroup ∙ tag_len-mark tag after h in
    let two : length tag + 2 ≡ length (mark tag) = omega (arith, length-append tag (36 ∷ [])) in
    let there : slice_index (mark tag ++ after) (length tag + 1) ≡ 36 = ap (λ k. slice_index (mark tag ++ after) k) (add-one (length tag)) ∙ ap (λ (t : Text). slice_index t (length tag)) regroup ∙ nth_front tag after 36 in
    ap (λ k. dollar_with k (mark tag ++ after)) n ∙ cond_then (slice_index (mark tag ++ after) (length tag + 1) == 36) _ _ (eq-eqb _ 36 there) ∙ rw (two, take-append_seam (mark tag) after, drop-append_seam (mark tag) after) refl

pub inner-mark : (tag v : Text) → inner (length (mark tag)) (mark tag ++ (v ++ mark tag)) ≡ v
inner-mark tag v =
    let n : ℕ = length (mark tag) in
    let k : length (mark tag ++ (v ++ mark tag)) - n - n ≡ length v = omega (arith, length-append (mark tag) (v ++ mark tag), length-append v (mark tag)) in
    rw (drop-append_seam (mark tag) (v ++ mark tag), k) (take-append_seam v (mark tag))

pub dollar_case : (tag v rest : Text) → is_tag tag ≡ true → EndsAtFirst (mark tag) (v ++ mark tag) → Reaches (scan ((mark tag ++ (v ++ mark tag)) ++ rest)) (Read (kind.DollarText v)) (mark tag ++ (v ++ mark tag))
unfolding scan
dollar_case tag v rest h first =
    let regroup : (mark tag ++ (v ++ mark tag)) ++ rest ≡ mark tag ++ (v ++ (mark tag ++ rest)) = append_assoc (mark tag) (v ++ mark tag) rest ∙ ap (λ (t : Text). mark tag ++ t) (append_assoc v (mark tag) rest) in
    let f : find_mark (mark tag) (length (mark tag)) (v ++ (mark tag ++ rest)) ≡ Some (length (mark tag) + length v) = found_first 36 (tag ++ 36 ∷ []) v (length (mark tag)) rest first in
    let d : dollar ((mark tag ++ (v ++ mark tag)) ++ rest) ≡ (shape.DollarText (length (mark tag)), length (mark tag) + length v + length (mark tag)) = ap (λ (t : Text). dollar t) regroup ∙ at_mark tag (v ++ (mark tag ++ rest)) h ∙ ap (λ (o : Option ℕ). marked (length (mark tag)) (length (mark tag ++ (v ++ (mark tag ++ rest)))) o) f in
    let P : Found → Type 0 = λ f. Reaches f (Read (kind.DollarText v)) (mark tag ++ (v ++ mark tag)) in
    subst P (sym d) (same (omega (arith, length-append (mark tag) (v ++ mark tag), length-append v (mark tag))) (ap (λ (t : Text). Read (kind.DollarText t)) (inner-mark tag v)))

pub endless_dollar_case : (tag v : Text) → is_tag tag ≡ true → Lacks (mark tag) v → Reaches (scan ((mark tag ++ v) ++ [])) (Bad SYNTAX_ERROR) (mark tag ++ v)
unfolding scan
endless_dollar_case tag v h lacks =
    let d : dollar ((mark tag ++ v) ++ []) ≡ (shape.Bad SYNTAX_ERROR, length (mark tag ++ v)) = ap (λ (t : Text). dollar t) (append-nil (mark tag ++ v)) ∙ at_mark tag v h ∙ ap (λ (o : Option ℕ). marked (length (mark tag)) (length (mark tag ++ v)) o) (found_nowhere 36 (tag ++ 36 ∷ []) v (length (mark tag)) lacks) in
    let P : Found → Type 0 = λ f. Reaches f (Bad SYNTAX_ERROR) (mark tag ++ v) in
    subst P (sym d) (same refl refl)

-- ---- parameters

digit_head : (digits rest : Text) → are_digits digits ≡ true → (tag_len (digits ++ rest) ≡ 0) × ((slice_index (digits ++ rest) 0 == 36) ≡ false)
digit_head [] rest h = absurd (cc)
digit_head (d ∷ ds) rest h = (cond_else (begins_word d) _ _ (digit_no_word d (and_left (is_ascii_digit d) _ h)), digit_not_dollar d (and_left (is_ascii_digit d) _ h))

digits_from : (digits rest : Text) → are_digits digits ≡ true → prefix_len is_ascii_digit (digits ++ rest) ≡ length digits + prefix_len is_ascii_digit rest
digits_from [] rest h = absurd (cc)
digits_from (d ∷ ds) rest h = prefix_len-append is_ascii_digit (d ∷ ds) rest h

pub some_digit : (digits : Text) → are_digits digits ≡ true → 1 ≤ length digits
some_digit [] h = absurd (cc)
some_digit (d ∷ ds) h = omega arith

at_parameter : {what : LexemeKind} {front : Text} (digits rest : Text) → are_digits digits ≡ true → Reaches (parameter (36 ∷ digits ++ rest)) what front → Reaches (scan (36 ∷ digits ++ rest)) what front
unfolding scan
at_parameter {what} {front} digits rest h r =
    let t : Text = digits ++ rest in
    let P : Found → Type 0 = λ f. Reaches f what front in
    subst P (sym (ap (λ k. dollar_with k (36 ∷ t)) (digit_head digits rest h).0 ∙ cond_else (slice_index t 0 == 36) _ _ (digit_head digits rest h).1)) r

parameter_reaches : {what : LexemeKind} (digits rest : Text) → are_digits digits ≡ true → (meaning (parameter_shape (number digits)) (36 ∷ digits) ≡ what) → Reaches (parameter (36 ∷ digits ++ rest)) what (36 ∷ digits)
parameter_reaches {what} digits rest h m =
    let n : ℕ = prefix_len is_ascii_digit (digits ++ rest) in
    let l : n ≡ length digits + prefix_len is_ascii_digit rest = digits_from digits rest h in
    let some : 1 ≤ length digits = some_digit digits h in
    if_else (n == 0) _ _ (ne_eqb n 0 (λ e. omega arith)) (reaches (parameter_shape (number (take n (digits ++ rest))), n + 1) (omega arith) (λ e. go n (omega arith)))
  where
    go : (n : ℕ) → n ≡ length digits → meaning (parameter_shape (number (take n (digits ++ rest)))) (36 ∷ digits) ≡ what
    go n e = ap (λ k. meaning (parameter_shape (number (take k (digits ++ rest)))) (36 ∷ digits)) e ∙ ap (λ (t : Text). meaning (parameter_shape (number t)) (36 ∷ digits)) (take-append_seam digits rest) ∙ m

good_parameter : (n : ℕ) → 1 ≤ n → n ≤ 65535 → parameter_shape n ≡ shape.Parameter n
good_parameter n h k = rw (le-leb 1 n h, le-leb n 65535 k) refl

wrong_parameter : (n : ℕ) → (n ≡ 0) ⊎ (65535 < n) → parameter_shape n ≡ shape.Bad SYNTAX_ERROR
wrong_parameter n (inl e) = rw e refl
wrong_parameter n (inr l) = rw (lt-leb n 65535 l) (go (nat_le 1 n))
  where
    go : (c : Bool) → cond (c && false) (shape.Parameter n) (shape.Bad SYNTAX_ERROR) ≡ shape.Bad SYNTAX_ERROR
    go true = refl
    go false = refl

pub parameter_case : (digits rest : Text) → are_digits digits ≡ true → 1 ≤ number digits → number digits ≤ 65535 → Reaches (scan (36 ∷ digits ++ rest)) (Read (kind.Parameter (number digits))) (36 ∷ digits)
parameter_case digits rest h low high = at_parameter digits rest h (parameter_reaches digits rest h (ap (λ (s : Shape). meaning s (36 ∷ digits)) (good_parameter (number digits) low high)))

pub bad_parameter_case : (digits rest : Text) → are_digits digits ≡ true → (number digits ≡ 0) ⊎ (65535 < number digits) → Reaches (scan (36 ∷ digits ++ rest)) (Bad SYNTAX_ERROR) (36 ∷ digits)
bad_parameter_case digits rest h wrong = at_parameter digits rest h (parameter_reaches digits rest h (ap (λ (s : Shape). meaning s (36 ∷ digits)) (wrong_parameter (number digits) wrong)))

-- ---- points

pub point_first_case : (digits rest : Text) → are_digits digits ≡ true → Reaches (scan (46 ∷ digits ++ rest)) (Bad FEATURE_NOT_SUPPORTED) (46 ∷ digits)
unfolding scan
point_first_case [] rest h = absurd (cc)
point_first_case (d ∷ ds) rest h = if_then (is_ascii_digit d) _ _ (and_left (is_ascii_digit d) _ h) (reaches _ (omega (arith, prefix_len-append is_ascii_digit (d ∷ ds) rest h)) (λ _. refl))

-- ---- signs, and what begins no token

-- a one-byte sign, or a byte that is none: what stands there is that, or longer
one_byte_reaches : {what : LexemeKind} (b : ℕ) (rest : Text) → meaning (one_byte (single b)).0 (b ∷ []) ≡ what → Reaches (punctuation b (slice_index rest 0) (b ∷ rest)) what (b ∷ [])
one_byte_reaches {what} b rest m =
    let c : ℕ = slice_index rest 0 in
    if_cases (b == 45 && c == 45) _ _ (λ _. longer (omega arith))
    (λ _. if_cases (opens b c) _ _ (λ o. opened (close_comment 1 false 2 (drop 1 rest)) (rest_there rest o) (comment-after 1 false 2 (drop 1 rest)))
    (λ _. if_cases (b == 46 && is_ascii_digit c) _ _ (λ d. longer (omega (arith, head_goes is_ascii_digit rest refl (second (b == 46) (is_ascii_digit c) d))))
    (λ _. if_cases (b == 33 && c == 61) _ _ (λ _. longer (omega arith)) (λ _. pair_or (pair b c)))))
  where
    second : (x y : Bool) → (x && y) ≡ true → y ≡ true
    second true y h = h
    second false y h = absurd (cc)

    rest_there : (rest : Text) → opens b (slice_index rest 0) ≡ true → 0 < length rest
    rest_there [] h = absurd (cc (second (b == 47) false h))
    rest_there (x ∷ xs) h = omega arith

    opened : (o : Option ℕ) → 0 < length rest → IfSome o (λ end. 2 ≤ end) → Reaches (ended shape.Skipped (length (b ∷ rest)) o) what (b ∷ [])
    opened None h k = longer (omega arith)
    opened (Some e) h k = longer (omega arith)

    single_or : (o : Option Sign) → meaning (one_byte o).0 (b ∷ []) ≡ what → Reaches (one_byte o) what (b ∷ [])
    single_or None m = same refl m
    single_or (Some s) m = same refl m

    pair_or : (o : Option Sign) → Reaches (two_bytes o (one_byte (single b))) what (b ∷ [])
    pair_or None = single_or (single b) m
    pair_or (Some s) = longer (omega arith)

pub sign_case : (s : Sign) (rest : Text) → Reaches (scan (spelled s ++ rest)) (Read (kind.Sign s)) (spelled s)
unfolding scan
sign_case sign.Open rest = one_byte_reaches 40 rest refl
sign_case sign.Close rest = one_byte_reaches 41 rest refl
sign_case sign.Comma rest = one_byte_reaches 44 rest refl
sign_case sign.Semicolon rest = one_byte_reaches 59 rest refl
sign_case sign.Dot rest = one_byte_reaches 46 rest refl
sign_case sign.Colon rest = one_byte_reaches 58 rest refl
sign_case sign.Equal rest = one_byte_reaches 61 rest refl
sign_case sign.Less rest = one_byte_reaches 60 rest refl
sign_case sign.Greater rest = one_byte_reaches 62 rest refl
sign_case sign.Plus rest = one_byte_reaches 43 rest refl
sign_case sign.Minus rest = one_byte_reaches 45 rest refl
sign_case sign.Star rest = one_byte_reaches 42 rest refl
sign_case sign.Slash rest = one_byte_reaches 47 rest refl
sign_case sign.Percent rest = one_byte_reaches 37 rest refl
sign_case sign.DotDot rest = same refl refl
sign_case sign.Assign rest = same refl refl
sign_case sign.Cast rest = same refl refl
sign_case sign.Arrow rest = same refl refl
sign_case sign.NotEqual rest = same refl refl
sign_case sign.LessOrEqual rest = same refl refl
sign_case sign.GreaterOrEqual rest = same refl refl
sign_case sign.OpenLabel rest = same refl refl
sign_case sign.CloseLabel rest = same refl refl
sign_case sign.Concat rest = same refl refl

pub other_not_equal_case : (rest : Text) → Reaches (scan (33 ∷ 61 ∷ rest)) (Read (kind.Sign sign.NotEqual)) (33 ∷ 61 ∷ [])
unfolding scan
other_not_equal_case rest = same refl refl

-- ---- strays

unstray : (b : ℕ) → (is_blank b || begins_word b || is_ascii_digit b || b == 34 || b == 39) ≡ false → (is_blank b ≡ false) × (begins_word b ≡ false) × (is_ascii_digit b ≡ false) × ((b == 34) ≡ false) × ((b == 39) ≡ false)
unstray b h = (grind (arith, h), grind (arith, h), grind (arith, h), grind (arith, h), grind (arith, h))

abbrev pub Spells : Text → Option Sign → Type 0
Spells t o = IfSome o (λ s. spelled s ≡ t)

arm : (t : Text) (c : Bool) (s : Sign) (o : Option Sign) → (c ≡ true → spelled s ≡ t) → Spells t o → Spells t (cond c (Some s) o)
arm t true s o h k = h refl
arm t false s o h k = k

one_is : (b k : ℕ) → (b == k) ≡ true → k ∷ [] ≡ b ∷ []
one_is b k e = ap (λ x. x ∷ []) (sym (eqb-true b k e))

two_are : (b c k l : ℕ) → (b == k && c == l) ≡ true → k ∷ l ∷ [] ≡ b ∷ c ∷ []
two_are b c k l e =
    let x : b ≡ k = eqb-true b k (and_left (b == k) (c == l) e) in
    let y : c ≡ l = eqb-true c l (and_right (b == k) (c == l) e) in
    cc

pub single_spells : (b : ℕ) → Spells (b ∷ []) (single b)
single_spells b =
    let t : Text = b ∷ [] in
    arm t (b == 40) sign.Open _ (one_is b 40)
    (arm t (b == 41) sign.Close _ (one_is b 41)
    (arm t (b == 44) sign.Comma _ (one_is b 44)
    (arm t (b == 59) sign.Semicolon _ (one_is b 59)
    (arm t (b == 46) sign.Dot _ (one_is b 46)
    (arm t (b == 58) sign.Colon _ (one_is b 58)
    (arm t (b == 61) sign.Equal _ (one_is b 61)
    (arm t (b == 60) sign.Less _ (one_is b 60)
    (arm t (b == 62) sign.Greater _ (one_is b 62)
    (arm t (b == 43) sign.Plus _ (one_is b 43)
    (arm t (b == 45) sign.Minus _ (one_is b 45)
    (arm t (b == 42) sign.Star _ (one_is b 42)
    (arm t (b == 47) sign.Slash _ (one_is b 47)
    (arm t (b == 37) sign.Percent _ (one_is b 37) tt)))))))))))))

pub pair_spells : (b c : ℕ) → Spells (b ∷ c ∷ []) (pair b c)
pair_spells b c =
    let t : Text = b ∷ c ∷ [] in
    arm t (b == 46 && c == 46) sign.DotDot _ (two_are b c 46 46)
    (arm t (b == 58 && c == 61) sign.Assign _ (two_are b c 58 61)
    (arm t (b == 58 && c == 58) sign.Cast _ (two_are b c 58 58)
    (arm t (b == 61 && c == 62) sign.Arrow _ (two_are b c 61 62)
    (arm t (b == 60 && c == 62) sign.NotEqual _ (two_are b c 60 62)
    (arm t (b == 60 && c == 61) sign.LessOrEqual _ (two_are b c 60 61)
    (arm t (b == 62 && c == 61) sign.GreaterOrEqual _ (two_are b c 62 61)
    (arm t (b == 60 && c == 60) sign.OpenLabel _ (two_are b c 60 60)
    (arm t (b == 62 && c == 62) sign.CloseLabel _ (two_are b c 62 62)
    (arm t (b == 124 && c == 124) sign.Concat _ (two_are b c 124 124) tt)))))))))

stray_meaning : (b : ℕ) (o : Option Sign) → Spells (b ∷ []) o → ((s : Sign) → spelled s ≡ b ∷ [] → ⊥) → meaning (one_byte o).0 (b ∷ []) ≡ Bad SYNTAX_ERROR
stray_meaning b None h none = refl
stray_meaning b (Some s) h none = absurd (none s h)

some_byte : (rest : Text) (n : ℕ) → (slice_index rest n == 36) ≡ true → 0 < length rest
some_byte [] n h = absurd (cc)
some_byte (x ∷ xs) n h = omega arith

marked_reaches : {what : LexemeKind} (b n : ℕ) (rest : Text) (o : Option ℕ) → 0 < length rest → Reaches (marked (n + 2) (length (b ∷ rest)) o) what (b ∷ [])
marked_reaches b n rest None h = longer (omega arith)
marked_reaches b n rest (Some at) h = longer (omega arith)

lone_dollar : (b : ℕ) (rest : Text) → Reaches (dollar (b ∷ rest)) (Bad SYNTAX_ERROR) (b ∷ [])
lone_dollar b rest =
    let n : ℕ = tag_len rest in
    let d : ℕ = prefix_len is_ascii_digit rest in
    if_cases (slice_index (b ∷ rest) (n + 1) == 36) _ _
    (λ e. marked_reaches b n rest _ (some_byte rest n (ap (λ k. slice_index (b ∷ rest) k == 36) (sym (add-one n)) ∙ e)))
    (λ _. if_cases (d == 0) _ _ (λ _. same refl refl) (λ e. longer (more d e)))
  where
    more : (d : ℕ) → (d == 0) ≡ false → 1 < d + 1
    more d e = grind (arith, eqb-false d 0 e)

pub stray_case : (b : ℕ) (rest : Text) → IsStray b → Reaches (scan (b ∷ rest)) (Bad SYNTAX_ERROR) (b ∷ [])
unfolding scan
stray_case b rest h =
    let u = unstray b h.0 in
    if_else (is_blank b) _ _ u.0 (if_else (opens_escape_text b (slice_index rest 0)) _ _ (no_escape_text b (slice_index rest 0) u.1) (if_else (begins_word b) _ _ u.1 (if_else (is_ascii_digit b) _ _ u.2 (if_else (b == 39) _ _ u.4 (if_else (b == 34) _ _ u.3
    (if_cases (b == 36) _ _ (λ _. lone_dollar b rest) (λ _. one_byte_reaches b rest (stray_meaning b (single b) (single_spells b) h.1))))))))
