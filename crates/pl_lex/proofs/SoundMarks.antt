-- LexemeKind the scan finds stands there: quotes, comments, dollars and signs.
use Rattle.std.proofs.Common.{List, ◌||◌, ◌≡◌, ℕ, ◌+◌, ◌<◌, ◌==◌, ◌&&◌, nat_le, Bool, true, false, cond, [], ◌∷◌, ◌++◌, length, slice_index, Option, Some, None, refl, sym, ap, ◌∙◌, arith, inl, inr, take, drop, length-append, append_assoc, append-nil, add-one, subst}
use Rattle.std.specs.Char.{is_ascii_digit}
use Rattle.std.specs.List.{prefix_len}
use Rattle.std.proofs.lemmas.Bool.{eqb-true, eqb-false, leb-true, leb-false}
use Rattle.std.proofs.Math.Seq.{take-append_seam}
use Rattle.pl_lex.specs.Characters.{Text, is_blank, begins_word, is_tag, every, are_digits, is_of_line}
use Rattle.pl_lex.specs.Spellings.{mark, doubled, number, spelled, opens, Part, are_parts, spelled_parts, any_refused}
use Rattle.pl_lex.specs.Rows as row
use Rattle.pl_lex.specs.Rows.{Row, IsStray, IsE}
use Rattle.pl_lex.specs.declared.token.LexemeKind.TheVariants.{Read, Bad}
use Rattle.pl_lex.specs.Scan.{Found, scan, meaning, quoted_text, quoted, undoubled, opens_escape_text, escape_text, inner, ended, comment, tag_len, marked, dollar, parameter, parameter_shape, pair, single, sign_found, punctuation, one_byte, two_bytes}
use Rattle.pl_lex.specs.declared.scan.Shape.TheVariants as shape
use Rattle.pl_lex.specs.declared.sign.Sign.{Sign}
use Rattle.pl_lex.specs.declared.sign.Sign.TheVariants as sign
use Rattle.pl_base.specs.States.{SYNTAX_ERROR, FEATURE_NOT_SUPPORTED}
use Rattle.pl_lex.specs.declared.token.TokenKind.TheVariants as kind
use Rattle.pl_lex.proofs.Tools.{run, cond_then, cond_else, and_left, and_right}
use Rattle.pl_lex.proofs.QuotedTexts.{Unquoted, closed_at, open_all, unquoted}
use Rattle.pl_lex.proofs.Nesting.{Uncommented, uncommented}
use Rattle.pl_lex.proofs.Nesting as comments
use Rattle.pl_lex.proofs.EscapeParts.{Unescaped, unescape}
use Rattle.pl_lex.proofs.EscapeParts as escapes
use Rattle.pl_lex.proofs.DollarMarks.{Marked, found_at, nowhere, marked_by, tagged}
use Rattle.pl_lex.proofs.Marks.{read_quoted, at_mark, inner-mark, Spells, single_spells, pair_spells, quoted_name, name_of, good_name, long_name, escape_spelling, read_parts}
use Rattle.pl_lex.proofs.Sound.{Cut, cut_if, cut_as, blank_cut, word_cut, number_cut}

-- the text to its end is bad
endless : (t : Text) → Row (Bad SYNTAX_ERROR) t [] → Cut (shape.Bad SYNTAX_ERROR, length t) t
endless t r = record { front = t; rest = []; is = sym (append-nil t); len = refl; row = r }

-- ---- quotes

module _ (quote : ℕ) (u v rest : Text) (is : u ≡ doubled quote v ++ (quote ∷ rest)) where
  closed_is : quote ∷ u ≡ (quote ∷ (doubled quote v ++ quote ∷ [])) ++ rest
  closed_is = ap (λ (t : Text). quote ∷ t) (is ∙ sym (append_assoc (doubled quote v) (quote ∷ []) rest))

  closed_len : length (quote ∷ (doubled quote v ++ quote ∷ [])) ≡ 1 + length (doubled quote v) + 1
  closed_len = omega (arith, length-append (doubled quote v) (quote ∷ []))

text_cut : (u : Text) (o : Option ℕ) → Unquoted 39 1 u o → Cut (ended shape.Text (length (39 ∷ u)) o) (39 ∷ u)
text_cut u o (closed_at v rest is end) =
    let m : Row (Read (kind.Text (undoubled 39 false (inner 1 (39 ∷ (doubled 39 v ++ 39 ∷ [])))))) (39 ∷ (doubled 39 v ++ 39 ∷ [])) rest = row.text_token v refl (ap (λ (t : Text). Read (kind.Text t)) (read_quoted 39 v)) in
    cut_as (ap (λ o. ended shape.Text (length (39 ∷ u)) o) end) (record { front = 39 ∷ (doubled 39 v ++ 39 ∷ []); rest = rest; is = closed_is 39 u v rest is; len = closed_len 39 u v rest is; row = m })
text_cut u o (open_all v is end) =
    cut_as (ap (λ o. ended shape.Text (length (39 ∷ u)) o) end) (endless (39 ∷ u) (row.endless_text v (ap (λ (t : Text). 39 ∷ t) is) refl refl))

-- a quoted name by its length
name_row : (name rest : Text) (few none : Bool) → nat_le (length name) 63 ≡ few → (length name == 0) ≡ none → Row (meaning shape.Quoted (quoted_name name)) (quoted_name name) rest
name_row name rest false none e k = row.long_name name (leb-false (length name) 63 e) refl (name_of name ∙ long_name name (leb-false (length name) 63 e))
name_row [] rest true true e k = row.empty_name refl refl
name_row (x ∷ xs) rest true true e k = absurd (omega (arith, eqb-true (length (x ∷ xs)) 0 k))
name_row name rest true false e k = row.quoted_name name some (leb-true (length name) 63 e) refl (name_of name ∙ good_name name some (leb-true (length name) 63 e))
  where
    pos : (n : ℕ) → (n == 0) ≡ false → 0 < n
    pos n e = grind (arith, eqb-false n 0 e)

    some : 0 < length name
    some = pos (length name) k

name_cut : (u : Text) (o : Option ℕ) → Unquoted 34 1 u o → Cut (ended shape.Quoted (length (34 ∷ u)) o) (34 ∷ u)
name_cut u o (closed_at v rest is end) =
    cut_as (ap (λ o. ended shape.Quoted (length (34 ∷ u)) o) end) (record { front = quoted_name v; rest = rest; is = closed_is 34 u v rest is; len = closed_len 34 u v rest is; row = name_row v rest (nat_le (length v) 63) (length v == 0) refl refl })
name_cut u o (open_all v is end) =
    cut_as (ap (λ o. ended shape.Quoted (length (34 ∷ u)) o) end) (endless (34 ∷ u) (row.endless_name v (ap (λ (t : Text). 34 ∷ t) is) refl refl))

-- ---- texts with backslashes

parts_row : (e : ℕ) (ps : List Part) (rest : Text) (refused : Bool) → IsE e → are_parts ps ≡ true → any_refused ps ≡ refused → Row (meaning shape.EscapeText (escape_spelling e ps)) (escape_spelling e ps) rest
parts_row e ps rest true h all k = row.refused_escape e ps h all k refl (read_parts e ps all ∙ cond_then (any_refused ps) _ _ k)
parts_row e ps rest false h all k = row.escape_text e ps h all k refl (read_parts e ps all ∙ cond_else (any_refused ps) _ _ k)

escape_cut : (e : ℕ) (u : Text) (o : Option ℕ) → IsE e → Unescaped 2 u o → Cut (ended shape.EscapeText (length (e ∷ 39 ∷ u)) o) (e ∷ 39 ∷ u)
escape_cut e u o h (escapes.closed_at ps rest all is end) =
    let whole : e ∷ 39 ∷ u ≡ escape_spelling e ps ++ rest = ap (λ (t : Text). e ∷ 39 ∷ t) (is ∙ sym (append_assoc (spelled_parts ps) (39 ∷ []) rest)) in
    let n : length (escape_spelling e ps) ≡ 2 + length (spelled_parts ps) + 1 = omega (arith, length-append (spelled_parts ps) (39 ∷ [])) in
    cut_as (ap (λ o. ended shape.EscapeText (length (e ∷ 39 ∷ u)) o) end) (record { front = escape_spelling e ps; rest = rest; is = whole; len = n; row = parts_row e ps rest (any_refused ps) h all refl })
escape_cut e u o h (escapes.open_all ps last all l is end) =
    cut_as (ap (λ o. ended shape.EscapeText (length (e ∷ 39 ∷ u)) o) end) (endless (e ∷ 39 ∷ u) (row.endless_escape_text e ps last h all l (ap (λ (t : Text). e ∷ 39 ∷ t) is) refl refl))

first_quote : (u : Text) → (slice_index u 0 == 39) ≡ true → u ≡ 39 ∷ drop 1 u
first_quote [] h = absurd (cc)
first_quote (c ∷ cs) h = ap (λ x. x ∷ cs) (eqb-true c 39 h)

escape_text_cut : (b : ℕ) (u : Text) → opens_escape_text b (slice_index u 0) ≡ true → Cut (escape_text (b ∷ u)) (b ∷ u)
escape_text_cut b u h =
    let P : Text → Type 0 = λ t. Cut (escape_text (b ∷ t)) (b ∷ t) in
    subst P (sym (first_quote u (and_right (b == 69 || b == 101) _ h))) (escape_cut b (drop 1 u) _ (and_left (b == 69 || b == 101) _ h) (unescape (drop 1 u) 2))

-- ---- comments

comment_cut : (u : Text) (o : Option ℕ) → Uncommented 1 2 u o → Cut (ended shape.Skipped (length (47 ∷ 42 ∷ u)) o) (47 ∷ 42 ∷ u)
comment_cut u o (comments.closed_at text rest is d end) =
    cut_as (ap (λ o. ended shape.Skipped (length (47 ∷ 42 ∷ u)) o) end) (record { front = 47 ∷ 42 ∷ text; rest = rest; is = ap (λ (t : Text). 47 ∷ 42 ∷ t) is; len = omega arith; row = row.comment text d refl refl })
comment_cut u o (comments.open_all k d end) =
    cut_as (ap (λ o. ended shape.Skipped (length (47 ∷ 42 ∷ u)) o) end) (endless (47 ∷ 42 ∷ u) (row.endless_comment u k d refl refl refl))

line_cut : (u : Text) → Cut (shape.Skipped, 2 + prefix_len is_of_line u) (45 ∷ 45 ∷ u)
line_cut u =
    let r = run is_of_line u in
    record { front = 45 ∷ 45 ∷ r.front; rest = r.rest; is = ap (λ (t : Text). 45 ∷ 45 ∷ t) r.is; len = omega (arith, r.len); row = row.line_comment r.front r.all refl refl }

-- ---- dollars

lone : (b : ℕ) (u : Text) → IsStray b → Cut (shape.Bad SYNTAX_ERROR, 1) (b ∷ u)
lone b u h = record { front = b ∷ []; rest = u; is = refl; len = refl; row = row.stray b h refl refl }

at_single : (k b : ℕ) (s : Sign) → k ∷ [] ≡ b ∷ [] → single k ≡ Some s → single b ≡ Some s
at_single k b s e h = let x : k ≡ b = cc in ap (λ y. single y) (sym x) ∙ h

two_one : (x y b : ℕ) → x ∷ y ∷ [] ≡ b ∷ [] → ⊥
two_one x y b e = cc e

one_sign : (s : Sign) (b : ℕ) → spelled s ≡ b ∷ [] → single b ≡ Some s
one_sign sign.Open b e = at_single 40 b sign.Open e refl
one_sign sign.Close b e = at_single 41 b sign.Close e refl
one_sign sign.Comma b e = at_single 44 b sign.Comma e refl
one_sign sign.Semicolon b e = at_single 59 b sign.Semicolon e refl
one_sign sign.Dot b e = at_single 46 b sign.Dot e refl
one_sign sign.Colon b e = at_single 58 b sign.Colon e refl
one_sign sign.Equal b e = at_single 61 b sign.Equal e refl
one_sign sign.Less b e = at_single 60 b sign.Less e refl
one_sign sign.Greater b e = at_single 62 b sign.Greater e refl
one_sign sign.Plus b e = at_single 43 b sign.Plus e refl
one_sign sign.Minus b e = at_single 45 b sign.Minus e refl
one_sign sign.Star b e = at_single 42 b sign.Star e refl
one_sign sign.Slash b e = at_single 47 b sign.Slash e refl
one_sign sign.Percent b e = at_single 37 b sign.Percent e refl
one_sign sign.DotDot b e = absurd (two_one 46 46 b e)
one_sign sign.Assign b e = absurd (two_one 58 61 b e)
one_sign sign.Cast b e = absurd (two_one 58 58 b e)
one_sign sign.Arrow b e = absurd (two_one 61 62 b e)
one_sign sign.NotEqual b e = absurd (two_one 60 62 b e)
one_sign sign.LessOrEqual b e = absurd (two_one 60 61 b e)
one_sign sign.GreaterOrEqual b e = absurd (two_one 62 61 b e)
one_sign sign.OpenLabel b e = absurd (two_one 60 60 b e)
one_sign sign.CloseLabel b e = absurd (two_one 62 62 b e)
one_sign sign.Concat b e = absurd (two_one 124 124 b e)

no_sign : (b : ℕ) → single b ≡ None → (s : Sign) → spelled s ≡ b ∷ [] → ⊥
no_sign b n s e = let k : single b ≡ Some s = one_sign s b e in cc

dollar_is_stray : IsStray 36
dollar_is_stray = (refl, no_sign 36 refl)

mark_cut : (tag after : Text) (o : Option ℕ) → is_tag tag ≡ true → Marked (mark tag) (length (mark tag)) after o → Cut (marked (length (mark tag)) (length (mark tag ++ after)) o) (mark tag ++ after)
mark_cut tag after o h (found_at v rest is first end) =
    let n : ℕ = length (mark tag) in
    let m : Row (Read (kind.DollarText (inner n (mark tag ++ (v ++ mark tag))))) (mark tag ++ (v ++ mark tag)) rest = row.dollar_text tag v h first refl (ap (λ (t : Text). Read (kind.DollarText t)) (inner-mark tag v)) in
    cut_as (ap (λ o. marked n (length (mark tag ++ after)) o) end) (record {
      front = mark tag ++ (v ++ mark tag);
      rest = rest;
      is = ap (λ (t : Text). mark tag ++ t) (is ∙ sym (append_assoc v (mark tag) rest)) ∙ sym (append_assoc (mark tag) (v ++ mark tag) rest);
      len = omega (arith, length-append (mark tag) (v ++ mark tag), length-append v (mark tag));
      row = m;
    })
mark_cut tag after o h (nowhere lacks end) =
    cut_as (ap (λ o. marked (length (mark tag)) (length (mark tag ++ after)) o) end) (endless (mark tag ++ after) (row.endless_dollar tag after h lacks refl refl refl))

digits_of : (r : Text) → every is_ascii_digit r ≡ true → (n : ℕ) → length r ≡ n → (n == 0) ≡ false → are_digits r ≡ true
digits_of [] h n e k = absurd (eqb-false n 0 k (sym e))
digits_of (d ∷ ds) h n e k = h

parameter_row : (digits rest : Text) (low high : Bool) → are_digits digits ≡ true → nat_le 1 (number digits) ≡ low → nat_le (number digits) 65535 ≡ high → Row (meaning (cond (low && high) (shape.Parameter (number digits)) (shape.Bad SYNTAX_ERROR)) (36 ∷ digits)) (36 ∷ digits) rest
parameter_row digits rest true true h e k = row.parameter digits h (leb-true 1 (number digits) e) (leb-true (number digits) 65535 k) refl refl
parameter_row digits rest true false h e k = row.bad_parameter digits h (inr (leb-false (number digits) 65535 k)) refl refl
parameter_row digits rest false high h e k = row.bad_parameter digits h (inl (none (number digits) (leb-false 1 (number digits) e))) refl refl
  where
    none : (n : ℕ) → n < 1 → n ≡ 0
    none n l = omega arith

parameter_cut : (u : Text) → Cut (parameter (36 ∷ u)) (36 ∷ u)
parameter_cut u =
    let r = run is_ascii_digit u in
    let n : ℕ = prefix_len is_ascii_digit u in
    let front : take n u ≡ r.front = ap (λ k. take k u) (sym r.len) ∙ ap (λ (t : Text). take (length r.front) t) r.is ∙ take-append_seam r.front r.rest in
    cut_if (n == 0) _ _ (λ _. lone 36 u dollar_is_stray)
    (λ e. cut_as (ap (λ (t : Text). (parameter_shape (number t), n + 1)) front)
    (record { front = 36 ∷ r.front; rest = r.rest; is = ap (λ (t : Text). 36 ∷ t) r.is; len = omega (arith, r.len); row = parameter_row r.front r.rest (nat_le 1 (number r.front)) (nat_le (number r.front) 65535) (digits_of r.front r.all n r.len e) refl refl }))

dollar_cut : (u : Text) → Cut (dollar (36 ∷ u)) (36 ∷ u)
dollar_cut u = go (slice_index (36 ∷ u) (tag_len u + 1) == 36) refl
  where
    seen : (slice_index (36 ∷ u) (tag_len u + 1) == 36) ≡ (slice_index u (tag_len u) == 36)
    seen = ap (λ k. slice_index (36 ∷ u) k == 36) (add-one (tag_len u))

    go : (c : Bool) → (slice_index (36 ∷ u) (tag_len u + 1) == 36) ≡ c → Cut (dollar (36 ∷ u)) (36 ∷ u)
    go false e = cut_as (cond_else (slice_index (36 ∷ u) (tag_len u + 1) == 36) _ _ e) (parameter_cut u)
    go true e =
        let t = tagged u (sym seen ∙ e) in
        let is : 36 ∷ u ≡ mark t.tag ++ t.after = ap (λ (x : Text). 36 ∷ x) (t.is ∙ sym (append_assoc t.tag (36 ∷ []) t.after)) in
        let P : Text → Type 0 = λ x. Cut (dollar x) x in
        subst P (sym is) (cut_as (at_mark t.tag t.after t.is_tag) (mark_cut t.tag t.after _ t.is_tag (marked_by 36 (t.tag ++ 36 ∷ []) t.after (length (mark t.tag)))))

-- ---- signs, and what begins no token

single_cut : (b : ℕ) (u : Text) (o : Option Sign) → Spells (b ∷ []) o → (o ≡ None → IsStray b) → Cut (one_byte o) (b ∷ u)
single_cut b u None h s = lone b u (s refl)
single_cut b u (Some g) h s = record { front = b ∷ []; rest = u; is = refl; len = refl; row = row.sign_token g (sym h) refl }

pair_cut : (b c : ℕ) (u : Text) (o : Option Sign) (other : Found) → Spells (b ∷ c ∷ []) o → Cut other (b ∷ c ∷ u) → Cut (two_bytes o other) (b ∷ c ∷ u)
pair_cut b c u None other h k = k
pair_cut b c u (Some g) other h k = record { front = b ∷ c ∷ []; rest = u; is = refl; len = refl; row = row.sign_token g (sym h) refl }

no_pair : (b : ℕ) → pair b 0 ≡ None
no_pair b = grind (arith)

sign_cut : (b : ℕ) (u : Text) → (single b ≡ None → IsStray b) → Cut (sign_found b (slice_index u 0)) (b ∷ u)
sign_cut b [] s = cut_as (ap (λ o. two_bytes o (one_byte (single b))) (no_pair b)) (single_cut b [] (single b) (single_spells b) s)
sign_cut b (c ∷ u) s = pair_cut b c u (pair b c) (one_byte (single b)) (pair_spells b c) (single_cut b (c ∷ u) (single b) (single_spells b) s)

first_is : (b c : ℕ) (u : Text) (k l : ℕ) → (b == k && slice_index u 0 == l) ≡ true → (l == 0) ≡ false → b ∷ u ≡ k ∷ l ∷ drop 1 u
first_is b c [] k l h z =
    let x : 0 ≡ l = eqb-true 0 l (and_right (b == k) _ h) in
    absurd (eqb-false l 0 z (sym x))
first_is b c (x ∷ xs) k l h z =
    let e : b ≡ k = eqb-true b k (and_left (b == k) _ h) in
    let f : x ≡ l = eqb-true x l (and_right (b == k) _ h) in
    cc

point_cut : (b : ℕ) (u : Text) → (b == 46 && is_ascii_digit (slice_index u 0)) ≡ true → Cut (shape.Bad FEATURE_NOT_SUPPORTED, 1 + prefix_len is_ascii_digit u) (b ∷ u)
point_cut b u h =
    let r = run is_ascii_digit u in
    let e : b ≡ 46 = eqb-true b 46 (and_left (b == 46) _ h) in
    record { front = 46 ∷ r.front; rest = r.rest; is = ap (λ x. x ∷ u) e ∙ ap (λ (t : Text). 46 ∷ t) r.is; len = omega (arith, r.len); row = row.point_first r.front (some u r.front r.rest r.is r.all r.len (and_right (b == 46) _ h)) refl refl }
  where
    some : (u front rest : Text) → u ≡ front ++ rest → every is_ascii_digit front ≡ true → length front ≡ prefix_len is_ascii_digit u → is_ascii_digit (slice_index u 0) ≡ true → are_digits front ≡ true
    some u (d ∷ ds) rest is all len h = all
    some [] [] rest is all len h = absurd (cc)
    some (x ∷ xs) [] rest is all len h = absurd (omega (arith, cond_then (is_ascii_digit x) (1 + prefix_len is_ascii_digit xs) 0 h, len))

punctuation_cut : (b : ℕ) (u : Text) → (single b ≡ None → IsStray b) → Cut (punctuation b (slice_index u 0) (b ∷ u)) (b ∷ u)
punctuation_cut b u s =
    cut_if (b == 45 && slice_index u 0 == 45) _ _ (λ h. line h)
    (λ _. cut_if (opens b (slice_index u 0)) _ _ (λ h. block h)
    (λ _. cut_if (b == 46 && is_ascii_digit (slice_index u 0)) _ _ (λ h. point_cut b u h)
    (λ _. cut_if (b == 33 && slice_index u 0 == 61) _ _ (λ h. other h) (λ _. sign_cut b u s))))
  where
    other : (b == 33 && slice_index u 0 == 61) ≡ true → Cut (shape.Sign sign.NotEqual, 2) (b ∷ u)
    other h = record { front = 33 ∷ 61 ∷ []; rest = drop 1 u; is = first_is b 0 u 33 61 h refl; len = refl; row = row.other_not_equal refl refl }

    line : (b == 45 && slice_index u 0 == 45) ≡ true → Cut (shape.Skipped, 2 + prefix_len is_of_line (drop 1 u)) (b ∷ u)
    line h = let P : Text → Type 0 = λ t. Cut (shape.Skipped, 2 + prefix_len is_of_line (drop 1 u)) t in subst P (sym (first_is b 0 u 45 45 h refl)) (line_cut (drop 1 u))

    block : opens b (slice_index u 0) ≡ true → Cut (comment (b ∷ u)) (b ∷ u)
    block h = let P : Text → Type 0 = λ t. Cut (comment t) t in subst P (sym (first_is b 0 u 47 42 h refl)) (comment_cut (drop 1 u) _ (uncommented (drop 1 u) 0 2))

-- ---- the lexeme

at_quote : (b k : ℕ) (u : Text) (f : Text → Found) → (b == k) ≡ true → Cut (f (k ∷ u)) (k ∷ u) → Cut (f (b ∷ u)) (b ∷ u)
at_quote b k u f e c = let P : ℕ → Type 0 = λ x. Cut (f (x ∷ u)) (x ∷ u) in subst P (sym (eqb-true b k e)) c

stray_when : (b : ℕ) → is_blank b ≡ false → begins_word b ≡ false → is_ascii_digit b ≡ false → (b == 39) ≡ false → (b == 34) ≡ false → single b ≡ None → IsStray b
stray_when b h1 h2 h3 h4 h5 n = (grind (arith, h1, h2, h3, h4, h5), no_sign b n)

pub sound : (b : ℕ) (u : Text) → Cut (scan (b ∷ u)) (b ∷ u)
unfolding scan
sound b u =
    cut_if (is_blank b) _ _ (λ h. blank_cut b u h)
    (λ h1. cut_if (opens_escape_text b (slice_index u 0)) _ _ (λ h. escape_text_cut b u h)
    (λ _. cut_if (begins_word b) _ _ (λ h. word_cut b u h)
    (λ h2. cut_if (is_ascii_digit b) _ _ (λ h. number_cut b u h)
    (λ h3. cut_if (b == 39) _ _ (λ h. at_quote b 39 u quoted_text h (text_cut u _ (unquoted 39 u 1)))
    (λ h4. cut_if (b == 34) _ _ (λ h. at_quote b 34 u quoted h (name_cut u _ (unquoted 34 u 1)))
    (λ h5. cut_if (b == 36) _ _ (λ h. at_quote b 36 u dollar h (dollar_cut u))
    (λ _. punctuation_cut b u (stray_when b h1 h2 h3 h4 h5))))))))
