-- What stands at the front of a text is found there, or something longer, whatever follows the text.
use Rattle.std.proofs.Common.{◌≡◌, ℕ, suc, ◌+◌, ◌<◌, ◌≤◌, ◌==◌, ◌||◌, [], ◌∷◌, ◌++◌, length, drop, slice_index, List, Option, Some, None, true, false, IfSome, refl, sym, ap, subst, ◌∙◌, arith, inl, inr, ◌⊎◌, length-append, append_assoc}
use Rattle.std.specs.Char.{is_ascii_digit}
use Rattle.std.proofs.lemmas.Bool.{cases_lt}
use Rattle.pl_lex.specs.Characters.{Text, is_blank, begins_word, is_tag, are_digits, point}
use Rattle.pl_lex.specs.Spellings.{doubled, depth, mark, Lacks, Part, are_parts, spelled_parts}
use Rattle.pl_lex.specs.Rows as row
use Rattle.pl_lex.specs.Rows.{Row, IsE}
use Rattle.pl_lex.specs.declared.token.LexemeKind.{LexemeKind}
use Rattle.pl_lex.specs.declared.escapes.Pending.TheVariants.{Nothing, Backslash}
use Rattle.pl_lex.specs.declared.scan.Shape.{Shape}
use Rattle.pl_lex.specs.declared.scan.Shape.TheVariants as shape
use Rattle.pl_lex.specs.Scan.{Found, scan, ended, close_quote, close_comment, close_escape_text, opens_escape_text, escape_text, number_found, dollar, marked, find_mark}
use Rattle.pl_lex.proofs.Tools.{cond_then, cond_else, and_left, and-true}
use Rattle.pl_lex.proofs.Reach.{digit_not_blank, digit_no_word, no_escape_text}
use Rattle.pl_lex.proofs.Words.{number_split}
use Rattle.pl_lex.proofs.Marks.{at_mark}
use Rattle.pl_lex.proofs.QuotedTexts.{close-doubled, close-after}
use Rattle.pl_lex.proofs.Nesting as comments
use Rattle.pl_lex.proofs.Nesting.{Uncommented, uncommented, closed, stays_open}
use Rattle.pl_lex.proofs.EscapeParts.{passes_parts, escape-after}
use Rattle.pl_lex.proofs.DollarMarks.{Marked, found_at, nowhere, marked_by}
use Rattle.pl_lex.proofs.Complete.{complete}
use Rattle.pl_lex.proofs.Whole.{at_most}

-- the scan goes to the end of the front at least
abbrev pub Reached : Text → Text → Type 0
Reached front more = length front ≤ (scan (front ++ more)).1

ended_from : (s : Shape) (len n : ℕ) (o : Option ℕ) → n ≤ len → IfSome o (λ end. n ≤ end) → n ≤ (ended s len o).1
ended_from s len n None h k = h
ended_from s len n (Some e) h k = k

some_later : (o : Option ℕ) (n m : ℕ) → n ≤ m → IfSome o (λ end. m ≤ end) → IfSome o (λ end. n ≤ end)
some_later None n m h k = tt
some_later (Some e) n m h k = omega arith

-- ---- quotes

quoted_on : (q : ℕ) (v more : Text) → IfSome (close_quote q false 1 (doubled q v ++ more)) (λ end. length (q ∷ doubled q v) ≤ end)
quoted_on q v more =
    let P : Option ℕ → Type 0 = λ o. IfSome o (λ end. length (q ∷ doubled q v) ≤ end) in
    subst P (sym (close-doubled q v 1 more)) (some_later (close_quote q false (1 + length (doubled q v)) more) (length (q ∷ doubled q v)) (1 + length (doubled q v)) (omega arith) (close-after q false (1 + length (doubled q v)) more))

text_on : (v more : Text) → Reached (39 ∷ doubled 39 v) more
unfolding scan
text_on v more = ended_from shape.Text (length (39 ∷ doubled 39 v ++ more)) (length (39 ∷ doubled 39 v)) (close_quote 39 false 1 (doubled 39 v ++ more)) (omega (arith, length-append (doubled 39 v) more)) (quoted_on 39 v more)

name_on : (v more : Text) → Reached (34 ∷ doubled 34 v) more
unfolding scan
name_on v more = ended_from shape.Quoted (length (34 ∷ doubled 34 v ++ more)) (length (34 ∷ doubled 34 v)) (close_quote 34 false 1 (doubled 34 v ++ more)) (omega (arith, length-append (doubled 34 v) more)) (quoted_on 34 v more)

-- ---- texts with backslashes

e_not_blank : (b : ℕ) → IsE b → is_blank b ≡ false
e_not_blank b h = grind (arith, h)

scan_escape : (e : ℕ) (t : Text) → IsE e → scan (e ∷ 39 ∷ t) ≡ escape_text (e ∷ 39 ∷ t)
unfolding scan
scan_escape e t h = cond_else (is_blank e) _ _ (e_not_blank e h) ∙ cond_then (opens_escape_text e 39) _ _ (and-true (e == 69 || e == 101) _ h refl)

last_on : (at : ℕ) (last more : Text) → (last ≡ []) ⊎ (last ≡ 92 ∷ []) → IfSome (close_escape_text Nothing at (last ++ more)) (λ end. at + length last ≤ end)
last_on at last more (inl e) =
    let P : Text → Type 0 = λ l. IfSome (close_escape_text Nothing at (l ++ more)) (λ end. at + length l ≤ end) in
    subst P (sym e) (some_later (close_escape_text Nothing at more) (at + 0) at (omega arith) (escape-after Nothing at more))
last_on at last more (inr e) =
    let P : Text → Type 0 = λ l. IfSome (close_escape_text Nothing at (l ++ more)) (λ end. at + length l ≤ end) in
    subst P (sym e) (escape-after Backslash (at + 1) more)

escape_on : (e : ℕ) (ps : List Part) (last more : Text) → IsE e → are_parts ps ≡ true → (last ≡ []) ⊎ (last ≡ 92 ∷ []) → Reached (e ∷ 39 ∷ (spelled_parts ps ++ last)) more
escape_on e ps last more h all l =
    let t : Text = spelled_parts ps ++ last in
    let n : ℕ = length (e ∷ 39 ∷ t) in
    let at : ℕ = 2 + length (spelled_parts ps) in
    let passed : close_escape_text Nothing 2 (t ++ more) ≡ close_escape_text Nothing at (last ++ more) = ap (λ (x : Text). close_escape_text Nothing 2 x) (append_assoc (spelled_parts ps) last more) ∙ passes_parts ps 2 (last ++ more) all in
    let P : Option ℕ → Type 0 = λ o. IfSome o (λ end. n ≤ end) in
    let found : P (close_escape_text Nothing 2 (t ++ more)) = subst P (sym passed) (some_later (close_escape_text Nothing at (last ++ more)) n (at + length last) (omega (arith, length-append (spelled_parts ps) last)) (last_on at last more l)) in
    subst (λ (f : Found). n ≤ f.1) (sym (scan_escape e (t ++ more) h)) (ended_from shape.EscapeText (length (e ∷ 39 ∷ (t ++ more))) n (close_escape_text Nothing 2 (t ++ more)) (omega (arith, length-append t more)) found)

-- ---- comments

prefix_of : (xs ys us vs : Text) → xs ++ ys ≡ us ++ vs → length us ≤ length xs → xs ≡ us ++ drop (length us) xs
prefix_of xs ys [] vs e h = refl
prefix_of [] ys (u ∷ us) vs e h = absurd (omega arith)
prefix_of (x ∷ xs) ys (u ∷ us) vs e h =
    let k : x ≡ u = cc e in
    let more : xs ++ ys ≡ us ++ vs = cc e in
    ap (λ b. b ∷ xs) k ∙ ap (λ (t : Text). u ∷ t) (prefix_of xs ys us vs more (omega arith))

comment_found : (inner more : Text) (n : ℕ) (o : Option ℕ) → depth 1 inner ≡ Some (suc n) → Uncommented 1 2 (inner ++ more) o → IfSome o (λ end. length (47 ∷ 42 ∷ inner) ≤ end)
comment_found inner more n o d (comments.closed_at text rest is e end) = go (cases_lt (length text) (length inner))
  where
    P : Option ℕ → Type 0
    P = λ o. IfSome o (λ end. length (47 ∷ 42 ∷ inner) ≤ end)

    go : (length text < length inner) ⊎ (length inner ≤ length text) → P o
    go (inl less) =
        let split : inner ≡ text ++ drop (length text) inner = prefix_of inner more text rest is (omega arith) in
        let ends : close_comment 1 false 2 inner ≡ Some (2 + length text) = ap (λ (t : Text). close_comment 1 false 2 t) split ∙ closed text (drop (length text) inner) 0 2 e in
        let never : close_comment 1 false 2 inner ≡ None = stays_open inner 0 2 n d in
        absurd (cc (ends, never))
    go (inr long) = subst P (sym end) (omega arith)
comment_found inner more n o d (comments.open_all k e end) = subst (λ (o : Option ℕ). IfSome o (λ end. length (47 ∷ 42 ∷ inner) ≤ end)) (sym end) tt

comment_on : (inner more : Text) (n : ℕ) → depth 1 inner ≡ Some (suc n) → Reached (47 ∷ 42 ∷ inner) more
unfolding scan
comment_on inner more n d = ended_from shape.Skipped (length (47 ∷ 42 ∷ inner ++ more)) (length (47 ∷ 42 ∷ inner)) (close_comment 1 false 2 (inner ++ more)) (omega (arith, length-append inner more)) (comment_found inner more n _ d (uncommented (inner ++ more) 0 2))

-- ---- dollar texts

mark_found : (tag text more : Text) (o : Option ℕ) → Lacks (mark tag) text → Marked (mark tag) (length (mark tag)) (text ++ more) o → length (mark tag ++ text) ≤ (marked (length (mark tag)) (length (mark tag ++ (text ++ more))) o).1
mark_found tag text more o lacks (found_at v rest is first end) = go (cases_lt (length (v ++ mark tag)) (length text))
  where
    P : Option ℕ → Type 0
    P = λ o. length (mark tag ++ text) ≤ (marked (length (mark tag)) (length (mark tag ++ (text ++ more))) o).1

    go : (length (v ++ mark tag) < length text) ⊎ (length text ≤ length (v ++ mark tag)) → P o
    go (inl less) =
        let split : text ≡ (v ++ mark tag) ++ drop (length (v ++ mark tag)) text = prefix_of text more (v ++ mark tag) rest (is ∙ sym (append_assoc v (mark tag) rest)) (omega arith) in
        absurd (lacks v (drop (length (v ++ mark tag)) text) (split ∙ append_assoc v (mark tag) (drop (length (v ++ mark tag)) text)))
    go (inr long) = subst P (sym end) (omega (arith, length-append (mark tag) text, length-append v (mark tag)))
mark_found tag text more o lacks (nowhere none end) =
    let P : Option ℕ → Type 0 = λ o. length (mark tag ++ text) ≤ (marked (length (mark tag)) (length (mark tag ++ (text ++ more))) o).1 in
    subst P (sym end) (omega (arith, length-append (mark tag) text, length-append (mark tag) (text ++ more), length-append text more))

dollar_on : (tag text more : Text) → is_tag tag ≡ true → Lacks (mark tag) text → Reached (mark tag ++ text) more
unfolding scan
dollar_on tag text more h lacks =
    let d : dollar ((mark tag ++ text) ++ more) ≡ marked (length (mark tag)) (length (mark tag ++ (text ++ more))) (find_mark (mark tag) (length (mark tag)) (text ++ more)) = ap (λ (t : Text). dollar t) (append_assoc (mark tag) text more) ∙ at_mark tag (text ++ more) h in
    subst (λ (f : Found). length (mark tag ++ text) ≤ f.1) (sym d) (mark_found tag text more _ lacks (marked_by 36 (tag ++ 36 ∷ []) (text ++ more) (length (mark tag))))

-- ---- two points

scan_digits : (digits after : Text) → are_digits digits ≡ true → scan (digits ++ after) ≡ number_found (digits ++ after)
unfolding scan
scan_digits [] after h = absurd (cc h)
scan_digits (d ∷ ds) after h =
    let k : is_ascii_digit d ≡ true = and_left (is_ascii_digit d) _ h in
    cond_else (is_blank d) _ _ (digit_not_blank d k) ∙ cond_else (opens_escape_text d (slice_index (ds ++ after) 0)) _ _ (no_escape_text d (slice_index (ds ++ after) 0) (digit_no_word d k)) ∙ cond_else (begins_word d) _ _ (digit_no_word d k) ∙ cond_then (is_ascii_digit d) _ _ k

-- a number before two points ends there
pub before_points : (digits after : Text) → are_digits digits ≡ true → (scan (digits ++ (46 ∷ 46 ∷ after))).1 ≡ length digits
before_points digits after h = ap (λ (f : Found). f.1) (scan_digits digits (46 ∷ 46 ∷ after) h ∙ number_split digits (46 ∷ 46 ∷ after) h refl)

pub two_points : (after : Text) → (scan (46 ∷ 46 ∷ after)).1 ≡ 2
unfolding scan
two_points after = refl

-- the text ends between two points behind a number
pub record BetweenPoints (front rest more : Text) : Type 0 where
  pub digits : Text
  pub after : Text
  pub number : are_digits digits ≡ true
  pub front_is : front ≡ digits ++ 46 ∷ []
  pub rest_is : rest ≡ []
  pub more_is : more ≡ 46 ∷ after

no_point_on : (m rest more : Text) → ((after : Text) → m ++ rest ≡ 46 ∷ after → ⊥) → (m ≡ [] → rest ≡ [] → (after : Text) → more ≡ 46 ∷ after → ⊥) → (after : Text) → m ++ (rest ++ more) ≡ 46 ∷ after → ⊥
no_point_on [] [] more f g after e = g refl refl after e
no_point_on [] (x ∷ xs) more f g after e = let k : x ≡ 46 = cc e in f xs (ap (λ b. b ∷ xs) k)
no_point_on (x ∷ xs) rest more f g after e = let k : x ≡ 46 = cc e in f (xs ++ rest) (ap (λ b. b ∷ (xs ++ rest)) k)

-- ---- each row

at_front : {front spelled rest : Text} (more : Text) → front ≡ spelled → rest ≡ [] → Reached spelled more → length front ≤ (scan (front ++ (rest ++ more))).1
at_front more e n r = rw (e, n) r

still : (what : LexemeKind) (front rest more : Text) → Row what front (rest ++ more) → length front ≤ (scan (front ++ (rest ++ more))).1
still what front rest more r = at_most (scan (front ++ (rest ++ more))) (complete r)

pub reached : {what : LexemeKind} {front rest : Text} (more : Text) → Row what front rest → (BetweenPoints front rest more → ⊥) → length front ≤ (scan (front ++ (rest ++ more))).1
reached {what} {front} {rest} more (row.blank b h e k) apart = still what front rest more (row.blank b h e k)
reached {what} {front} {rest} more (row.line_comment line h e k) apart = still what front rest more (row.line_comment line h e k)
reached {what} {front} {rest} more (row.comment text h e k) apart = still what front rest more (row.comment text h e k)
reached {what} {front} {rest} more (row.keyword word h l is k) apart = still what front rest more (row.keyword word h l is k)
reached {what} {front} {rest} more (row.word h l none k) apart = still what front rest more (row.word h l none k)
reached {what} {front} {rest} more (row.quoted_name name h l e k) apart = still what front rest more (row.quoted_name name h l e k)
reached {what} {front} {rest} more (row.number_token h l k) apart = still what front rest more (row.number_token h l k)
reached {what} {front} {rest} more (row.text_token text e k) apart = still what front rest more (row.text_token text e k)
reached {what} {front} {rest} more (row.escape_text c ps h all good e k) apart = still what front rest more (row.escape_text c ps h all good e k)
reached {what} {front} {rest} more (row.dollar_text tag text h l e k) apart = still what front rest more (row.dollar_text tag text h l e k)
reached {what} {front} {rest} more (row.parameter digits h l g e k) apart = still what front rest more (row.parameter digits h l g e k)
reached {what} {front} {rest} more (row.sign_token s e k) apart = still what front rest more (row.sign_token s e k)
reached {what} {front} {rest} more (row.other_not_equal e k) apart = still what front rest more (row.other_not_equal e k)
reached {what} {front} {rest} more (row.endless_text text e n k) apart = at_front more e n (text_on text more)
reached {what} {front} {rest} more (row.endless_name name e n k) apart = at_front more e n (name_on name more)
reached {what} {front} {rest} more (row.endless_escape_text c ps last h all l e n k) apart = at_front more e n (escape_on c ps last more h all l)
reached {what} {front} {rest} more (row.endless_dollar tag text h l e n k) apart = at_front more e n (dollar_on tag text more h l)
reached {what} {front} {rest} more (row.endless_comment text o h e n k) apart = at_front more e n (comment_on text more o h)
reached {what} {front} {rest} more (row.long_word h l k) apart = still what front rest more (row.long_word h l k)
reached {what} {front} {rest} more (row.long_name name l e k) apart = still what front rest more (row.long_name name l e k)
reached {what} {front} {rest} more (row.empty_name e k) apart = still what front rest more (row.empty_name e k)
reached {what} {front} {rest} more (row.refused_escape c ps h all bad e k) apart = still what front rest more (row.refused_escape c ps h all bad e k)
reached {what} {front} {rest} more (row.spoiled_number digits spoiler h l e k) apart = still what front rest more (row.spoiled_number digits spoiler h l e k)
reached {what} {front} {rest} more (row.point_number digits m h l other e k) apart =
    still what front rest more (row.point_number digits m h l (no_point_on m rest more other (λ m_is rest_is after more_is. apart (record { digits = digits; after = after; number = h; front_is = e ∙ ap (λ (t : Text). digits ++ point ∷ t) m_is; rest_is = rest_is; more_is = more_is }))) e k)
reached {what} {front} {rest} more (row.point_first digits h e k) apart = still what front rest more (row.point_first digits h e k)
reached {what} {front} {rest} more (row.great_number h l k) apart = still what front rest more (row.great_number h l k)
reached {what} {front} {rest} more (row.bad_parameter digits h l e k) apart = still what front rest more (row.bad_parameter digits h l e k)
reached {what} {front} {rest} more (row.stray b h e k) apart = still what front rest more (row.stray b h e k)
